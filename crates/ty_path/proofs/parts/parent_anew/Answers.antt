-- The last item of the iterator is the last component, and what is left is the parent.
use Rattle.std.proofs.Common.{Some, sym, ap, ◌∙◌, subst, ◌++◌, ◌∷◌, []}
use Rattle.ty_model.specs.Paths.{RootDir, ArePath}
use Rattle.ty_model.proofs.PathLaws.{components-path, ArePath-front}
use Rattle.ty_path.specs.Parts.{plain_component, components_left}
use Rattle.ty_path.proofs.PartLaws.{no_last, its_last, parent-none, parent-last, parent-some}
use Rattle.ty_path.proofs.parts.parent_anew.Goals as goal

pub returns-in_default : goal.returns-in_default
returns-in_default c =
    sym (parent-none c.args.path.now (no_last c.components-components.result _ c.args.path.now c.components-components.ensures c.new.ensures c.next_back.new.self c.in_default.ensures.steps))

pub text_of-requires : goal.text_of-requires
text_of-requires c =
    let last = its_last c.components-components.result _ c.args.path.now c.components-components.ensures c.new.ensures c.next_back.new.self c.in-Some.last c.in-Some.ensures.steps in
    ArePath-front (components_left c.next_back.new.self) (plain_component c.in-Some.last ∷ []) (subst ArePath last (components-path c.args.path.now))

pub returns-in-RootDir : goal.returns-in-RootDir
returns-in-RootDir c =
    let front = components_left c.next_back.new.self in
    let last = its_last c.components-components.result _ c.args.path.now c.components-components.ensures c.new.ensures c.next_back.new.self c.in-Some.last c.in-Some.ensures.steps in
    sym (parent-last c.args.path.now front RootDir (last ∙ ap (λ x. front ++ plain_component x ∷ []) c.in-RootDir.is))

pub returns-in_ok-text_of-in_default-last : goal.returns-in_ok-text_of-in_default-last
returns-in_ok-text_of-in_default-last c =
    let front = components_left c.next_back.new.self in
    let last = its_last c.components-components.result _ c.args.path.now c.components-components.ensures c.new.ensures c.next_back.new.self c.in-Some.last c.in-Some.ensures.steps in
    ap Some c.in_ok-text_of-in_default-last.ensures ∙ sym (parent-some c.args.path.now front c.in-Some.last last c.in_default-last.not-RootDir)
