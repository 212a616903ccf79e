-- Nothing is left exactly where the text is `.`.
use Rattle.std.proofs.Common.{sym, ap, ◌∙◌, bytes_eq}
use Rattle.ty_model.specs.Paths.{components, dot}
use Rattle.ty_path.proofs.RelativeLaws.{cleaned_text, cleaned_to_nothing}
use Rattle.ty_path.proofs.relative.cleaned_parts.Goals as goal

pub returns-then-eq : goal.returns-then-eq
returns-then-eq c =
    cleaned_to_nothing c.args.path.now (ap (λ t. bytes_eq t dot) (sym c.in_ok-text.ensures ∙ sym c.as_str.ensures.value) ∙ sym c.eq.ensures ∙ c.if-eq.true)

pub returns : goal.returns
returns c =
    ap components c.in_ok-text.ensures
    ∙ cleaned_text c.args.path.now (ap (λ t. bytes_eq t dot) (sym c.in_ok-text.ensures ∙ sym c.as_str.ensures.value) ∙ sym c.eq.ensures ∙ c.if-eq.false)
