use Rattle.tinymist_vfs.proofs.Stood.{reset_stood}
use Rattle.tinymist_vfs.proofs.vfs.Vfs.reset_read.Goals as goal

pub returns-clause-standing : goal.returns-clause-standing
returns-clause-standing g c = λ past s. reset_stood g.R.RootResolver.known c.args.self.now c.renew.new.self past s c.renew.result c.renew.ensures.after
