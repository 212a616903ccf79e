use Rattle.std.proofs.Common.{◌≡◌, drop}
use Rattle.std.specs.FinMap as finmap
use Rattle.ty_model.specs.Values.{id_cmp}
use Rattle.tinymist_plain.specs.Lists.{id_pairs}
use Rattle.tinymist_plain.proofs.ids.find_id.Given as goal

abbrev pub invariant-loop-entry : goal.invariant-loop-entry
invariant-loop-entry l = finmap.find id_cmp l.id (id_pairs (drop l.entry-index l.entries)) ≡ finmap.find id_cmp l.id (id_pairs l.entries)
