use Rattle.std.proofs.Common.{subst, ap, ◌∙◌}
use Rattle.std.specs.String.{string_bytes}
use Rattle.tinymist_vfs.specs.Reading.{AsksAsTold}
use Rattle.tinymist_vfs.proofs.AccessLaws.{asked_path}
use Rattle.tinymist_vfs.proofs.model.access.ResolveAccessModelAccessModel.content.Goals as goal

pub returns-in-Ok-clause-answer : goal.returns-in-Ok-clause-answer
returns-in-Ok-clause-answer g c =
    let text = c.as_str.ensures.value ∙ ap string_bytes c.deref.ensures in
    asked_path _ _ _ c.in-Ok.path c.ask-bytes.result c.in-Ok.ensures
    (subst (λ p. AsksAsTold p (g.N.PathAccessModel.told c.args.self.now.inner) c.ask-bytes.result (g.N.PathAccessModel.told c.ask-bytes.new.inner)) text c.ask-bytes.ensures)
