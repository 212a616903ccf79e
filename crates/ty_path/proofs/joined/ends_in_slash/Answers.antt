use Rattle.std.proofs.Common.{◌∙◌, lit<}
use Rattle.ty_path.proofs.JoinLaws.{ends_in_slash-last}
use Rattle.ty_path.proofs.joined.ends_in_slash.Goals as goal

pub returns : goal.returns
returns c = c.ends_with.ensures.byte (lit< tt) (lit< tt) (λ w o h. h) ∙ ends_in_slash-last c.args.path.now
