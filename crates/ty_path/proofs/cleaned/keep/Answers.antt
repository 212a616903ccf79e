-- By the kind of the component.
use Rattle.std.proofs.Common.{◌++◌, ◌∷◌, [], sym, ap, ◌∙◌, string_bytes}
use Rattle.std.proofs.lemmas.Result.{on_ok_weaker}
use Rattle.ty_model.specs.Paths.{components, cleaned, slashes}
use Rattle.ty_path.specs.Parts.{plain_component}
use Rattle.ty_path.proofs.UpLaws.{root_kept, name_kept, dot_dropped}
use Rattle.ty_path.proofs.cleaned.keep.Goals as goal

pub returns-in-RootDir : goal.returns-in-RootDir
returns-in-RootDir c =
    let text = string_bytes c.args.text.now in
    let kept = root_kept text c.requires ∙ ap (λ x. slashes (cleaned (components text ++ plain_component x ∷ []))) (sym c.in-RootDir.is) in
    on_ok_weaker c.push_part.result (λ e. e ∙ kept) c.push_part.ensures

pub returns-in-CurDir : goal.returns-in-CurDir
returns-in-CurDir c =
    let text = string_bytes c.args.text.now in
    dot_dropped text c.requires ∙ ap (λ x. slashes (cleaned (components text ++ plain_component x ∷ []))) (sym c.in-CurDir.is)

pub returns-in-Normal : goal.returns-in-Normal
returns-in-Normal c =
    let text = string_bytes c.args.text.now in
    let kept = name_kept text c.requires c.in-Normal.name.now ∙ ap (λ x. slashes (cleaned (components text ++ plain_component x ∷ []))) (sym c.in-Normal.is) in
    on_ok_weaker c.push_part-in-Normal.result (λ e. e ∙ kept) c.push_part-in-Normal.ensures
