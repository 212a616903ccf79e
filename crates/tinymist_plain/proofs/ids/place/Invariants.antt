use Rattle.std.proofs.Common.{length, ◌-◌, ◌≤◌}
use Rattle.tinymist_plain.proofs.IdLists.{Passed}
use Rattle.tinymist_plain.proofs.ids.place.Given as goal

abbrev pub invariant-loop-i : goal.invariant-loop-i
invariant-loop-i l = record { within : l.i ≤ length l.entries; passed : Passed l.id l.entries l.i }

abbrev pub decreases-loop-i : goal.decreases-loop-i
decreases-loop-i l = length l.entries - l.i
