-- `.` and the root are clean, and else the parts answer.
use Rattle.std.proofs.Common.{◌∷◌, sym, ap, ◌∙◌, lit<, false, true}
use Rattle.std.proofs.lemmas.Str.Pattern.{drop_at_char}
use Rattle.ty_model.specs.Paths.{parts_at}
use Rattle.ty_path.specs.Clean.{are_clean}
use Rattle.ty_path.proofs.CleanLaws.{clean_iff, behind_root, behind_nothing}
use Rattle.ty_path.proofs.pass.is_clean.Goals as goal

pub returns-in-Some : goal.returns-in-Some
returns-in-Some c =
    let path = c.args.path.now in
    let cases = c.in-Some.ensures.cases in
    let split = drop_at_char 47 path 0 cases.0 cases.1 (lit< tt) ∙ ap (λ xs. 47 ∷ xs) (sym cases.2) in
    clean_iff path _ (c.has_clean_parts.ensures ∙ ap (λ t. are_clean false (parts_at 47 t)) c.as_bytes.ensures.value
    ∙ behind_root path c.in-Some.rest.now split (sym c.eq-else-eq.ensures ∙ c.if-eq-2.false))

pub returns-in-None : goal.returns-in-None
unfolding lib.Utf8.encode
returns-in-None c =
    let path = c.args.path.now in
    clean_iff path _ (c.has_clean_parts-in-None.ensures ∙ ap (λ t. are_clean true (parts_at 47 t)) c.as_bytes-in-None.ensures.value
    ∙ behind_nothing path (λ rest is. c.in-None.ensures.cases rest is) (sym c.eq.ensures ∙ c.if-eq.false) (sym c.eq-else-eq.ensures ∙ c.if-eq-2.false))
