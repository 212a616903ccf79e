use Rattle.std.proofs.Common.{◌≡◌, drop}
use Rattle.ty_model.specs.Values.{same_answer}
use Rattle.ty_model.specs.Version.{same_id}
use Rattle.ty_model.specs.Batch.{same_entries}
use Rattle.tinymist_plain.specs.Lists.{id_pairs}
use Rattle.tinymist_plain.proofs.ids.same_ids.Given as goal

abbrev pub invariant-loop-i : goal.invariant-loop-i
invariant-loop-i l = same_entries same_id same_answer (id_pairs (drop l.i l.first)) (id_pairs (drop l.i l.second)) ≡ same_entries same_id same_answer (id_pairs l.first) (id_pairs l.second)
