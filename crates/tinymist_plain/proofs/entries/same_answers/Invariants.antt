use Rattle.std.proofs.Common.{◌≡◌, drop}
use Rattle.std.specs.Str.{bytes_eq}
use Rattle.ty_model.specs.Values.{same_answer}
use Rattle.ty_model.specs.Batch.{same_entries}
use Rattle.tinymist_plain.specs.Lists.{pairs}
use Rattle.tinymist_plain.proofs.entries.same_answers.Given as goal

abbrev pub invariant-loop-i : goal.invariant-loop-i
invariant-loop-i l = same_entries bytes_eq same_answer (pairs (drop l.i l.first)) (pairs (drop l.i l.second)) ≡ same_entries bytes_eq same_answer (pairs l.first) (pairs l.second)
