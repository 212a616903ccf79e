use Rattle.std.proofs.Common.{refl}
use Rattle.ty_model.proofs.Cuts.{some_parts}
use Rattle.session_grammar.proofs.fields.one_field.Goals as goal

pub returns-in-Some : goal.returns-in-Some
returns-in-Some c =
    let p = some_parts 9 c.in-Some.field-0.1.now in
    rw (c.in_ok-field.was, c.in-Some.ensures.some, p.2) refl
