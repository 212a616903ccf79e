use Rattle.std.proofs.Common.{refl}
use Rattle.ty_syntax.proofs.Texts.{is_text, is_no_text}
use Rattle.ty_syntax.proofs.text.text_of.Goals as goal

pub returns-in-Ok : goal.returns-in-Ok
returns-in-Ok c = is_text c.args.bytes.now c.without_mark.result.now c.in-Ok.text.now c.without_mark.ensures c.in-Ok.ensures.cases.0 c.in-Ok.ensures.cases.1

pub returns-in-Err : goal.returns-in-Err
returns-in-Err c = (refl, is_no_text c.args.bytes.now c.without_mark.result.now c.without_mark.ensures c.in-Err.ensures.cases.0)
