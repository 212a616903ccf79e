use Rattle.std.proofs.Common.{ap, ◌∙◌}
use Rattle.ty_model.specs.Held.{Kept}
use Rattle.tinymist_vfs.proofs.Stood.{renewed_stood}
use Rattle.tinymist_vfs.proofs.vfs.Vfs.reset_with.Goals as goal

pub returns-in-Ok-clause-standing : goal.returns-in-Ok-clause-standing
returns-in-Ok-clause-standing g c = λ past s.
    renewed_stood g.R.RootResolver.known c.args.self.now _ c.args.resolver past s (ap (λ (k : Kept _). record k { resolver = c.args.resolver }) (c.self.view_is ∙ c.in-Ok.ensures.after))
