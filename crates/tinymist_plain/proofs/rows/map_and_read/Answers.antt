use Rattle.tinymist_plain.proofs.Replies as worked
use Rattle.tinymist_plain.proofs.rows.map_and_read.Goals as goal

pub returns-clause-worked : goal.returns-clause-worked
returns-clause-worked c = worked.map_and_read
