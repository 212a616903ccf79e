-- The last item of the iterator is the last component, and the name is its text.
use Rattle.std.proofs.Common.{Some, sym, ap, ◌∙◌}
use Rattle.ty_model.specs.Paths.{name_of}
use Rattle.ty_path.specs.Parts.{plain_component, components_left}
use Rattle.ty_path.proofs.PartLaws.{no_last, its_last, no_name, file_name-last, file_name-none}
use Rattle.ty_path.proofs.parts.file_name.Goals as goal

pub returns-in_default : goal.returns-in_default
returns-in_default c =
    sym (file_name-none c.args.path.now (no_last c.components.result _ c.args.path.now c.components.ensures c.new.ensures c.next_back.new.self c.in_default.ensures.steps))

pub returns-in_default-last : goal.returns-in_default-last
returns-in_default-last c =
    let last = its_last c.components.result _ c.args.path.now c.components.ensures c.new.ensures c.next_back.new.self c.in-Some.last c.in-Some.ensures.steps in
    sym (no_name c.in-Some.last c.in_default-last.not-Normal) ∙ sym (file_name-last c.args.path.now (components_left c.next_back.new.self) (plain_component c.in-Some.last) last)

pub returns : goal.returns
returns c =
    let last = its_last c.components.result _ c.args.path.now c.components.ensures c.new.ensures c.next_back.new.self c.in-Some.last c.in-Some.ensures.steps in
    ap Some c.in_ok-from_str.ensures.ok
    ∙ sym (ap (λ x. name_of (plain_component x)) c.in-Normal.is)
    ∙ sym (file_name-last c.args.path.now (components_left c.next_back.new.self) (plain_component c.in-Some.last) last)
