use Rattle.std.proofs.Common.{refl}
use Rattle.ty_model.proofs.Cuts.{some_parts}
use Rattle.session_grammar.proofs.command.snapshot_sentence.Goals as goal

pub returns-in-Some-clause-none : goal.returns-in-Some-clause-none
returns-in-Some-clause-none c = λ _. let p = some_parts 9 c.in-Some.field-0.now in rw (c.in-Some.is, p.2) refl
