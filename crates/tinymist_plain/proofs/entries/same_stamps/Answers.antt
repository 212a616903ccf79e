use Rattle.std.proofs.Common.{sym}
use Rattle.ty_model.specs.Version.{same_stamp}
use Rattle.tinymist_plain.proofs.Lists.{other_length}
use Rattle.tinymist_plain.proofs.entries.same_stamps.Goals as goal

pub returns-then-first-second : goal.returns-then-first-second
returns-then-first-second c = sym (other_length same_stamp c.args.first.now c.args.second.now c.if-first-second.true)
