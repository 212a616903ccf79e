use Rattle.std.proofs.Common.{◌≡◌, take}
use Rattle.tinymist_plain.specs.Lists.{pairs}
use Rattle.tinymist_plain.proofs.entries.copy_stamps.Given as goal

abbrev pub invariant-loop-entry : goal.invariant-loop-entry
invariant-loop-entry l = pairs l.copy.items ≡ pairs (take l.entry-index l.entries)
