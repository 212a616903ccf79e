use Rattle.std.proofs.Common.{refl}
use Rattle.ty_model.proofs.Cuts.{some_parts}
use Rattle.session_grammar.proofs.fields.three_fields.Goals as goal

pub returns-in-Some-clause-none : goal.returns-in-Some-clause-none
returns-in-Some-clause-none c =
    let p = some_parts 9 c.in-Some.field-0.1.now in
    rw (c.in_ok-fields.was, c.in_ok-first.ensures.some, c.in_ok-second.ensures.some, c.in-Some.ensures.some, p.2) refl
