-- What has been given so far is a front of the path, and in the end the whole of it.
use Rattle.std.proofs.Common.{◌++◌, ◌∷◌, [], map, sym, ap, ◌∙◌, string_bytes}
use Rattle.std.proofs.lemmas.List.{map_push}
use Rattle.ty_model.specs.Paths.{components, slashes, normalized}
use Rattle.ty_model.proofs.PathLaws.{components-path}
use Rattle.ty_path.specs.Parts.{plain_component}
use Rattle.ty_path.proofs.PartLaws.{path_given, front_given, plain-other_up}
use Rattle.ty_path.proofs.NormalLaws.{open_normalized, normalized_more, normalized_up, normalized-path}
use Rattle.ty_path.proofs.cleaned.normalize_path.Goals as goal

pub take_back-requires : goal.take_back-requires
take_back-requires c =
    let path = front_given c.components-component-items.result _ c.args.path.now c.components-component-items.ensures c.new.ensures
    c.into_iter-component-iterator.result c.loop-component.yielded c.loop-component.component-iterator c.into_iter-component-iterator.ensures.into_iter_gives c.loop-component.yielded_by in
    open_normalized (string_bytes c.loop-component.text) (map plain_component c.loop-component.yielded) path c.loop-component.invariant.2

pub loop-component-preserved-in-ParentDir : goal.loop-component-preserved-in-ParentDir
loop-component-preserved-in-ParentDir c =
    let path = front_given c.components-component-items.result _ c.args.path.now c.components-component-items.ensures c.new.ensures
    c.into_iter-component-iterator.result c.loop-component.yielded c.loop-component.component-iterator c.into_iter-component-iterator.ensures.into_iter_gives c.loop-component.yielded_by in
    let xs = map plain_component c.loop-component.yielded in
    let up = normalized_up (string_bytes c.loop-component.text) xs path c.loop-component.invariant.2 (string_bytes c.take_back.new.text) c.take_back.ensures.front in (
      tt,
      tt,
      up ∙ ap (λ x. slashes (normalized (xs ++ plain_component x ∷ []))) (sym c.in-ParentDir.is)
          ∙ ap (λ cs. slashes (normalized cs)) (sym (map_push plain_component c.loop-component.yielded c.in-Some.component)),
    )

pub keep-requires : goal.keep-requires
keep-requires c =
    let path = front_given c.components-component-items.result _ c.args.path.now c.components-component-items.ensures c.new.ensures
    c.into_iter-component-iterator.result c.loop-component.yielded c.loop-component.component-iterator c.into_iter-component-iterator.ensures.into_iter_gives c.loop-component.yielded_by in
    open_normalized (string_bytes c.loop-component.text) (map plain_component c.loop-component.yielded) path c.loop-component.invariant.2

pub loop-component-preserved : goal.loop-component-preserved
loop-component-preserved c =
    let path = front_given c.components-component-items.result _ c.args.path.now c.components-component-items.ensures c.new.ensures
    c.into_iter-component-iterator.result c.loop-component.yielded c.loop-component.component-iterator c.into_iter-component-iterator.ensures.into_iter_gives c.loop-component.yielded_by in
    let more = normalized_more (string_bytes c.loop-component.text) (map plain_component c.loop-component.yielded) path c.loop-component.invariant.2 (string_bytes c.keep.new.text)
    (plain_component c.in-Some.component) (plain-other_up c.in-Some.component c.in_default.not-ParentDir) c.in_ok-keep-in_default.ensures in
    (tt, tt, more ∙ ap (λ cs. slashes (normalized cs)) (sym (map_push plain_component c.loop-component.yielded c.in-Some.component)))

pub returns : goal.returns
returns c =
    let all = path_given c.components-component-items.result _ c.args.path.now c.components-component-items.ensures c.new.ensures
    c.into_iter-component-iterator.result c.loop-component.yielded c.loop-component.component-iterator c.next.new.self c.next.result
    c.into_iter-component-iterator.ensures.into_iter_gives c.loop-component.yielded_by c.in-None.is c.next.ensures.steps in
    c.close.ensures (normalized (components c.args.path.now)) (normalized-path (components c.args.path.now) (components-path c.args.path.now))
    (c.loop-component.invariant.2 ∙ ap (λ cs. slashes (normalized cs)) all)
