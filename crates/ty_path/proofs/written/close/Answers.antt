use Rattle.std.proofs.Common.{◌∙◌, arith, string_bytes}
use Rattle.ty_path.proofs.CloseLaws.{close_short, close_long, last_slash}
use Rattle.ty_path.proofs.written.close.Goals as goal

pub returns-then-len-gt1 : goal.returns-then-len-gt1
returns-then-len-gt1 c = λ cs path is.
    let text = string_bytes c.args.text.now in
    let len = c.args.text.now.bytes.ok.0 in
    c.pop.ensures.ascii_bytes (omega arith) (last_slash text _ cs path is len (omega arith)) ∙ close_long text _ cs path is len (omega arith)

pub returns-else-len-gt1 : goal.returns-else-len-gt1
returns-else-len-gt1 c = λ cs path is. close_short (string_bytes c.args.text.now) _ cs path is c.args.text.now.bytes.ok.0 (omega arith)
