use Rattle.std.proofs.Common.{◌∙◌}
use Rattle.ty_path.proofs.PartLaws.{path_given}
use Rattle.ty_path.proofs.component.components.Goals as goal

pub returns : goal.returns
returns c =
    let all = path_given c.components-component-items.result _ c.args.path.now c.components-component-items.ensures c.new.ensures
    c.into_iter-component-iterator.result c.loop-component.yielded c.loop-component.component-iterator c.next.new.self c.next.result
    c.into_iter-component-iterator.ensures.into_iter_gives c.loop-component.yielded_by c.in-None.is c.next.ensures.steps in
    c.loop-component.invariant.2 ∙ all
