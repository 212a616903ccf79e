use Rattle.std.proofs.Common.{ℕ, List, [], sym, ap, ◌∙◌, arith, rules}
use Rattle.ty_model.specs.Paths.{counted, climbs_from}
use Rattle.ty_syntax.proofs.Slashes.{climbs-parts, climbs-last}
use Rattle.ty_syntax.proofs.vpath.escapes.Goals as goal

pub loop-part-init : goal.loop-part-init
loop-part-init c = record { utf8 = search rules; same = climbs-parts c.args.text.now; size = omega arith }

pub returns : goal.returns
returns c =
    sym (climbs-last c.depth_after-2.result c.is_none.result c.is_none.ensures)
    ∙ sym (c.depth_after-2.ensures.climbs [])
    ∙ ap (λ (parts : List (List ℕ)). climbs_from c.loop-part.depth (counted parts)) (sym c.in_default.ensures.none)
    ∙ c.loop-part.invariant.same
