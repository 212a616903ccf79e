-- A text that begins with no slash is its own rest.
use Rattle.ty_syntax.proofs.Slashes.{without_none}
use Rattle.ty_syntax.proofs.vpath.without_slash.Goals as goal

pub returns-in-None : goal.returns-in-None
unfolding lib.Utf8.encode
returns-in-None c = without_none c.args.text.now (λ rest is. c.in-None.ensures.cases rest is)
