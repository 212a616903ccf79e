-- Names behind `.` stand alone, and behind any other clean path they join to a clean one.
use Rattle.std.proofs.Common.{◌≡◌, false, sym, ap, ◌∙◌, string_bytes}
use Rattle.std.proofs.lemmas.Result.{IfOk-weaker}
use Rattle.ty_model.specs.Paths.{clean, join, parts_at}
use Rattle.ty_model.proofs.PathLaws.{clean-clean}
use Rattle.ty_path.specs.Clean.{are_clean}
use Rattle.ty_path.proofs.CleanJoinLaws.{names_behind_dot, names_behind}
use Rattle.ty_path.proofs.joined.clean_join.Goals as goal

dot_is : (c : goal.In_ok-from_str) → string_bytes c.in_ok-from_str.field-0 ≡ clean (join c.args.base.now c.args.other.now)
dot_is c =
    let names = sym (c.has_clean_parts.ensures ∙ ap (λ t. are_clean false (parts_at 47 t)) c.as_bytes.ensures.value) ∙ c.if-not-has_clean_parts.false in
    c.in_ok-from_str.ensures.ok ∙ names_behind_dot c.args.base.now c.args.other.now (sym c.eq.ensures ∙ c.if-eq.true) names

pub returns-then-eq-clause-value : goal.returns-then-eq-clause-value
returns-then-eq-clause-value c = dot_is c

pub returns-then-eq-clause-stays : goal.returns-then-eq-clause-stays
returns-then-eq-clause-stays c = let is = dot_is c in ap clean is ∙ clean-clean (join c.args.base.now c.args.other.now) ∙ sym is

joined_clean : (c : goal.After-join-2) → clean (join c.args.base.now c.args.other.now) ≡ join c.args.base.now c.args.other.now
joined_clean c =
    let names = sym (c.has_clean_parts.ensures ∙ ap (λ t. are_clean false (parts_at 47 t)) c.as_bytes.ensures.value) ∙ c.if-not-has_clean_parts.false in
    names_behind c.args.base.now c.args.other.now (c.is_clean.ensures.0 c.if-not-is_clean.false) (sym c.eq.ensures ∙ c.if-eq.false) names

pub returns-clause-value : goal.returns-clause-value
returns-clause-value c = IfOk-weaker c.join-2.result _ _ (λ text e. e ∙ sym (joined_clean c)) c.join-2.ensures

pub returns-clause-stays : goal.returns-clause-stays
returns-clause-stays c = IfOk-weaker c.join-2.result _ _ (λ text e. ap clean e ∙ joined_clean c ∙ sym e) c.join-2.ensures
