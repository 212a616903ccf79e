use Rattle.std.proofs.Common.{arith}
use Rattle.tinymist_plain.proofs.Answered.{replies_clean}
use Rattle.tinymist_plain.proofs.questions.clean_since.Goals as goal

pub returns : goal.returns
returns c = λ s is.
    replies_clean c.args.space.now s c.args.revision is (omega (arith, c.if-revision-space.false)) (omega (arith, c.if-revision-lt2.false)) c.args.ids.now c.in_ok-are_clean.field-0 c.in_ok-are_clean.ensures
