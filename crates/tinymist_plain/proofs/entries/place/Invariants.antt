use Rattle.std.proofs.Common.{length, ◌-◌, ◌≤◌}
use Rattle.tinymist_plain.proofs.Lists.{Passed}
use Rattle.tinymist_plain.proofs.entries.place.Given as goal

abbrev pub invariant-loop-i : goal.invariant-loop-i
invariant-loop-i g l = record { within : l.i ≤ length l.entries; passed : Passed l.path l.entries l.i }

abbrev pub decreases-loop-i : goal.decreases-loop-i
decreases-loop-i g l = length l.entries - l.i
