use Rattle.std.proofs.Common.{◌≡◌, take}
use Rattle.tinymist_plain.specs.Lists.{id_pairs}
use Rattle.tinymist_plain.proofs.ids.copy_ids.Given as goal

abbrev pub invariant-loop-entry : goal.invariant-loop-entry
invariant-loop-entry l = id_pairs l.copy.items ≡ id_pairs (take l.entry-index l.entries)
