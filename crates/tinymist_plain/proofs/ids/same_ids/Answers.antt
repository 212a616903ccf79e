use Rattle.std.proofs.Common.{sym}
use Rattle.tinymist_plain.proofs.IdLists.{other_length}
use Rattle.tinymist_plain.proofs.ids.same_ids.Goals as goal

pub returns-then-first-second : goal.returns-then-first-second
returns-then-first-second c = sym (other_length c.args.first.now c.args.second.now c.if-first-second.true)
