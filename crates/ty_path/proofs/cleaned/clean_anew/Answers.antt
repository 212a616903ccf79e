-- What has been given so far is a front of the path, and in the end the whole of it.
use Rattle.std.proofs.Common.{◌≡◌, map, sym, ap, ◌∙◌, string_bytes}
use Rattle.std.proofs.lemmas.List.{map_push}
use Rattle.std.proofs.lemmas.Result.{IfOk-weaker}
use Rattle.ty_model.specs.Paths.{components, cleaned, clean, slashes, or_dot}
use Rattle.ty_model.proofs.PathLaws.{components-path, cleaned-path, clean-clean}
use Rattle.ty_path.specs.Parts.{plain_component}
use Rattle.ty_path.proofs.PartLaws.{path_given, front_given}
use Rattle.ty_path.proofs.UpLaws.{open_so_far, keep_more}
use Rattle.ty_path.proofs.cleaned.clean_anew.Goals as goal

pub keep-requires : goal.keep-requires
keep-requires c =
    let path = front_given c.components-component-items.result _ c.args.path.now c.components-component-items.ensures c.new.ensures
    c.into_iter-component-iterator.result c.loop-component.yielded c.loop-component.component-iterator c.into_iter-component-iterator.ensures.into_iter_gives c.loop-component.yielded_by in
    open_so_far (string_bytes c.loop-component.text) (map plain_component c.loop-component.yielded) path c.loop-component.invariant.2

pub loop-component-preserved : goal.loop-component-preserved
loop-component-preserved c =
    let path = front_given c.components-component-items.result _ c.args.path.now c.components-component-items.ensures c.new.ensures
    c.into_iter-component-iterator.result c.loop-component.yielded c.loop-component.component-iterator c.into_iter-component-iterator.ensures.into_iter_gives c.loop-component.yielded_by in
    let more = keep_more (string_bytes c.loop-component.text) (string_bytes c.keep.new.text) (map plain_component c.loop-component.yielded) (plain_component c.in-Some.component)
    path c.loop-component.invariant.2 c.in_ok-keep.ensures in
    (tt, tt, more ∙ ap (λ cs. slashes (cleaned cs)) (sym (map_push plain_component c.loop-component.yielded c.in-Some.component)))

closed : (c : goal.After-or_dot) → or_dot (string_bytes c.close.new.text) ≡ clean c.args.path.now
closed c =
    let all = path_given c.components-component-items.result _ c.args.path.now c.components-component-items.ensures c.new.ensures
    c.into_iter-component-iterator.result c.loop-component.yielded c.loop-component.component-iterator c.next.new.self c.next.result
    c.into_iter-component-iterator.ensures.into_iter_gives c.loop-component.yielded_by c.in-None.is c.next.ensures.steps in
    ap or_dot (c.close.ensures (cleaned (components c.args.path.now)) (cleaned-path (components c.args.path.now) (components-path c.args.path.now))
    (c.loop-component.invariant.2 ∙ ap (λ cs. slashes (cleaned cs)) all))

pub returns-clause-value : goal.returns-clause-value
returns-clause-value c = IfOk-weaker c.or_dot.result _ _ (λ text e. e ∙ closed c) c.or_dot.ensures

pub returns-clause-stays : goal.returns-clause-stays
returns-clause-stays c =
    IfOk-weaker c.or_dot.result _ _ (λ text e. let is = e ∙ closed c in ap clean is ∙ clean-clean c.args.path.now ∙ sym is) c.or_dot.ensures
