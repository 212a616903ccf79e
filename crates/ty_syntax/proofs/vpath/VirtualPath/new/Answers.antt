-- A text of names stays as it is behind a slash, and any other is cleaned there.
use Rattle.std.proofs.Common.{◌≡◌, true, false, subst, sym, ap, ◌∙◌, Ok, ◌∷◌}
use Rattle.ty_model.specs.Paths.{clean, parts_at}
use Rattle.ty_path.specs.Clean.{are_clean}
use Rattle.ty_syntax.specs.Below.{is_virtual}
use Rattle.ty_syntax.proofs.Below.{virtual-clean, names-virtual, names-path_of}
use Rattle.ty_syntax.proofs.vpath.VirtualPath.new.Goals as goal

pub of_text-requires : goal.of_text-requires
of_text-requires c =
    let names = ap (λ t. are_clean false (parts_at 47 t)) (sym c.without_slash-names.ensures) ∙ sym c.are_names.ensures ∙ c.if-are_names.true in
    let rooted = c.in_ok-after.ensures ∙ ap (λ t. 47 ∷ t) c.without_slash-names.ensures in
    subst (λ t. is_virtual t ≡ true) (sym rooted) (names-virtual c.args.text.now names)

pub of_text-requires-2 : goal.of_text-requires-2
of_text-requires-2 c = subst (λ t. is_virtual t ≡ true) (sym (c.in_ok-text.ensures.value ∙ ap clean (c.as_str.ensures.value ∙ c.in_ok-rooted.ensures))) (virtual-clean c.args.text.now)

pub returns-then-are_names : goal.returns-then-are_names
returns-then-are_names c =
    let text = c.args.text.now in
    let names = ap (λ t. are_clean false (parts_at 47 t)) (sym c.without_slash-names.ensures) ∙ sym c.are_names.ensures ∙ c.if-are_names.true in
    let rooted = c.in_ok-after.ensures ∙ ap (λ t. 47 ∷ t) c.without_slash-names.ensures in
    names-path_of text (sym c.has_nul.ensures ∙ c.if-has_nul.false) names ∙ ap Ok (sym (c.in_ok-of_text.ensures ∙ rooted))
