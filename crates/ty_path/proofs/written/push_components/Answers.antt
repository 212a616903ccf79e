use Rattle.std.proofs.Common.{◌++◌, ◌∷◌, [], string_bytes, ap, ◌∙◌}
use Rattle.ty_model.specs.Paths.{slashes}
use Rattle.ty_path.specs.Parts.{plain_component}
use Rattle.ty_path.proofs.PartLaws.{all_given}
use Rattle.ty_path.proofs.CloseLaws.{slashes-more}
use Rattle.ty_path.proofs.written.push_components.Goals as goal

pub loop-component-preserved : goal.loop-component-preserved
loop-component-preserved c = (
  tt,
  tt,
  c.in_ok-push_part.ensures ∙ ap (λ t. string_bytes c.loop-component.text ++ (t ++ 47 ∷ [])) c.component_text.ensures
      ∙ slashes-more plain_component (string_bytes c.args.text.now) (string_bytes c.loop-component.text) c.loop-component.yielded c.in-Some.component c.loop-component.invariant.2,
)

pub returns : goal.returns
returns c =
    let all = all_given c.args.components c.into_iter-component-iterator.result c.loop-component.yielded c.loop-component.component-iterator c.next.new.self c.next.result
    c.into_iter-component-iterator.ensures.into_iter_gives c.loop-component.yielded_by c.in-None.is c.next.ensures.steps in
    c.loop-component.invariant.2 ∙ ap (λ cs. string_bytes c.args.text.now ++ slashes cs) all
