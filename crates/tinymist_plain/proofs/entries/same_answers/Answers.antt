use Rattle.std.proofs.Common.{sym}
use Rattle.ty_model.specs.Values.{same_answer}
use Rattle.tinymist_plain.proofs.Lists.{other_length}
use Rattle.tinymist_plain.proofs.entries.same_answers.Goals as goal

pub returns-then-first-second : goal.returns-then-first-second
returns-then-first-second c = sym (other_length same_answer c.args.first.now c.args.second.now c.if-first-second.true)
