use Rattle.std.proofs.Common.{◌++◌, ◌||◌, Some, map, sym, ap, ◌∙◌, append-nil, string_bytes}
use Rattle.std.specs.List.{list_any}
use Rattle.std.proofs.lemmas.List.{map_push}
use Rattle.ty_model.specs.Paths.{Component, ParentDir, slashes, is_up}
use Rattle.ty_path.specs.Parts.{plain_component, components_left}
use Rattle.ty_path.proofs.PartLaws.{at_start, path_given, next_component, plain-no_up}
use Rattle.ty_path.proofs.CloseLaws.{slashes-more}
use Rattle.ty_path.proofs.relative.push_ups.Goals as goal

pub loop-component-init : goal.loop-component-init
loop-component-init c =
    let start = at_start c.components-component-items.result _ c.args.up.now c.components-component-items.ensures c.new.ensures in
    (tt, tt, ap (list_any is_up) (ap components_left c.into_iter-component-iterator.ensures.into_iter_gives ∙ start), sym (append-nil (string_bytes c.args.text.now)))

pub loop-component-preserved : goal.loop-component-preserved
loop-component-preserved c =
    let xs = map plain_component c.loop-component.yielded in
    let split = next_component c.loop-component.component-iterator (Some c.in-Some.component) c.next.new.self c.in-Some.ensures.steps in
    let left = ap (list_any is_up) split ∙ ap (λ t. t || list_any is_up (components_left c.next.new.self)) (plain-no_up c.in-Some.component c.in_default.not-ParentDir) in (
      tt,
      tt,
      sym left ∙ c.loop-component.invariant.2,
      c.in_ok-push_part-in_default.ensures
          ∙ slashes-more (λ (x : Component). ParentDir) (string_bytes c.args.text.now) (string_bytes c.loop-component.text) xs (plain_component c.in-Some.component) c.loop-component.invariant.3
          ∙ ap (λ cs. string_bytes c.args.text.now ++ slashes (map (λ x. ParentDir) cs)) (sym (map_push plain_component c.loop-component.yielded c.in-Some.component)),
    )

pub returns-clause-ups : goal.returns-clause-ups
returns-clause-ups c =
    let all = path_given c.components-component-items.result _ c.args.up.now c.components-component-items.ensures c.new.ensures
    c.into_iter-component-iterator.result c.loop-component.yielded c.loop-component.component-iterator c.next.new.self c.next.result
    c.into_iter-component-iterator.ensures.into_iter_gives c.loop-component.yielded_by c.in-None.is c.next.ensures.steps in
    c.loop-component.invariant.3 ∙ ap (λ cs. string_bytes c.args.text.now ++ slashes (map (λ x. ParentDir) cs)) all
