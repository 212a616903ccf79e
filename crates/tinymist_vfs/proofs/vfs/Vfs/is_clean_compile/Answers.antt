use Rattle.tinymist_vfs.proofs.Stood.{clean_stood, newest_stood}
use Rattle.tinymist_vfs.proofs.Reused.{reused, newest_reused}
use Rattle.tinymist_vfs.proofs.vfs.Vfs.is_clean_compile.Goals as goal

pub returns-then-self-rev-clause-clean : goal.returns-then-self-rev-clause-clean
returns-then-self-rev-clause-clean g c = λ past s. newest_stood g.R.RootResolver.known c.args.self.now past s c.args.rev c.args.ids.now (rw (← c.self.view_is) c.if-self-rev.true)

pub returns-then-self-rev-clause-reusable : goal.returns-then-self-rev-clause-reusable
returns-then-self-rev-clause-reusable g c = λ past disk s _. newest_reused g.R.RootResolver.known c.args.self.now past s c.args.rev c.args.ids.now disk (rw (← c.self.view_is) c.if-self-rev.true)

pub returns-clause-clean : goal.returns-clause-clean
returns-clause-clean g c = λ past s. clean_stood g.R.RootResolver.known c.args.self.now past s c.args.rev c.args.ids.now c.are_ids_clean.result c.are_ids_clean.ensures.clean

pub returns-clause-reusable : goal.returns-clause-reusable
returns-clause-reusable g c = λ past disk s. reused g.R.RootResolver.known c.args.self.now past s c.args.rev c.args.ids.now disk c.are_ids_clean.result c.are_ids_clean.ensures.clean
