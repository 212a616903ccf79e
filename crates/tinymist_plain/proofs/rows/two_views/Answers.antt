use Rattle.tinymist_plain.proofs.Replies as worked
use Rattle.tinymist_plain.proofs.rows.two_views.Goals as goal

pub returns-clause-worked : goal.returns-clause-worked
returns-clause-worked c = worked.two_views
