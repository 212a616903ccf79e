use Rattle.std.proofs.Common.{sym, ap, ◌∙◌}
use Rattle.ty_path.specs.Parts.{plain_component, components_left}
use Rattle.ty_path.proofs.PartLaws.{no_first, its_first}
use Rattle.ty_syntax.specs.Below.{leads_down}
use Rattle.ty_syntax.proofs.Below.{leads-first}
use Rattle.ty_syntax.proofs.vpath.leads_down.Goals as goal

pub returns-in-None : goal.returns-in-None
returns-in-None c =
    sym (ap leads_down (no_first c.components.result _ c.args.path.now c.components.ensures c.new.ensures c.next.new.self c.in-None.ensures.steps))

pub returns-in-Some : goal.returns-in-Some
returns-in-Some c =
    let first = its_first c.components.result _ c.args.path.now c.components.ensures c.new.ensures c.next.new.self c.in-Some.first c.in-Some.ensures.steps in
    c.is_name.ensures ∙ sym (leads-first (plain_component c.in-Some.first) (components_left c.next.new.self)) ∙ sym (ap leads_down first)
