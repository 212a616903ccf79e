-- Each component but `.` is written, and in the end all of them.
use Rattle.std.proofs.Common.{◌++◌, ◌∷◌, [], map, filter, sym, ap, ◌∙◌, string_bytes}
use Rattle.std.proofs.lemmas.List.{map_push}
use Rattle.std.proofs.lemmas.Result.{IfOk-weaker}
use Rattle.ty_model.specs.Paths.{components, slashes, or_dot}
use Rattle.ty_model.proofs.PathLaws.{components-path}
use Rattle.ty_path.specs.Parts.{plain_component}
use Rattle.ty_path.proofs.PartLaws.{path_given, plain-other_dot}
use Rattle.ty_path.proofs.NormalLaws.{no_dot, no_dot-path, no_dot_kept}
use Rattle.ty_path.proofs.cleaned.unix_slash.Goals as goal

pub loop-component-preserved : goal.loop-component-preserved
loop-component-preserved c =
    let xs = map plain_component c.loop-component.yielded in
    let kept = no_dot_kept (string_bytes c.loop-component.text) xs (plain_component c.in-Some.component) (plain-other_dot c.in-Some.component c.in_default.not-CurDir) c.loop-component.invariant.2 in (
      tt,
      tt,
      c.in_ok-push_part-in_default.ensures ∙ ap (λ t. string_bytes c.loop-component.text ++ (t ++ 47 ∷ [])) c.component_text.ensures ∙ kept
          ∙ ap (λ cs. slashes (filter no_dot cs)) (sym (map_push plain_component c.loop-component.yielded c.in-Some.component)),
    )

pub returns : goal.returns
returns c =
    let all = path_given c.components-component-items.result _ c.args.path.now c.components-component-items.ensures c.new.ensures
    c.into_iter-component-iterator.result c.loop-component.yielded c.loop-component.component-iterator c.next.new.self c.next.result
    c.into_iter-component-iterator.ensures.into_iter_gives c.loop-component.yielded_by c.in-None.is c.next.ensures.steps in
    let closed = c.close.ensures (filter no_dot (components c.args.path.now)) (no_dot-path (components c.args.path.now) (components-path c.args.path.now))
    (c.loop-component.invariant.2 ∙ ap (λ cs. slashes (filter no_dot cs)) all) in
    IfOk-weaker c.or_dot.result _ _ (λ text e. e ∙ ap or_dot closed) c.or_dot.ensures
