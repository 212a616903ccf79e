use Rattle.std.proofs.Common.{◌≡◌, true, subst, sym, ap, ◌∙◌}
use Rattle.std.proofs.lemmas.Result.{IfOk-weaker}
use Rattle.ty_model.specs.Paths.{clean, join}
use Rattle.ty_syntax.specs.Below.{IsBelow, is_virtual}
use Rattle.ty_syntax.proofs.Below.{realize-below}
use Rattle.ty_syntax.proofs.vpath.VirtualPath.realize.Goals as goal

pub returns-clause-below : goal.returns-clause-below
returns-clause-below c =
    let is_vpath = subst (λ t. is_virtual t ≡ true) c.self.view_is c.self.invariant in
    let root = c.args.root.now in
    let whole = ap (λ t. clean (join root t)) c.get_without_slash.ensures in
    IfOk-weaker c.clean_join.result _ _ (λ path e. subst (IsBelow root) (sym (e ∙ whole)) (realize-below root c.args.self.now is_vpath)) c.clean_join.ensures.value
