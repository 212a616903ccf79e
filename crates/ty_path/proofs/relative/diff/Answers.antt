-- Both paths are absolute, or none is.
use Rattle.std.proofs.Common.{◌≡◌, sym, ap, ◌∙◌, subst, true≢false}
use Rattle.ty_model.specs.Paths.{is_absolute, components, apart, AllMayFollow}
use Rattle.ty_path.proofs.RelativeLaws.{left_follows}
use Rattle.ty_path.proofs.relative.diff.Goals as goal
use Rattle.ty_path.proofs.relative.diff.Goals.{else-is_absolute-via-then-is_absolute+else-not-is_absolute, else-is_absolute-via-else-is_absolute, else-is_absolute-2-via-then-is_absolute-2+else-not-is_absolute-2, else-is_absolute-2-via-else-is_absolute-2}

pub way-requires : goal.way-requires
way-requires c =
    let same : is_absolute c.args.path.now ≡ is_absolute c.args.base.now = elim c.else-is_absolute.branch [
      | else-is_absolute-via-then-is_absolute+else-not-is_absolute w ↦
          sym c.is_absolute.ensures ∙ w.if-is_absolute.true ∙ sym w.if-not-is_absolute.false ∙ w.is_absolute-then-is_absolute.ensures
      | else-is_absolute-via-else-is_absolute w ↦ elim c.else-is_absolute-2.branch [
        | else-is_absolute-2-via-then-is_absolute-2+else-not-is_absolute-2 v ↦
            absurd (true≢false (sym v.if-not-is_absolute-2.false ∙ v.is_absolute-then-is_absolute-2.ensures ∙ sym c.is_absolute.ensures ∙ w.if-is_absolute.false))
        | else-is_absolute-2-via-else-is_absolute-2 v ↦
            sym c.is_absolute.ensures ∙ w.if-is_absolute.false ∙ sym v.if-is_absolute-2.false ∙ c.is_absolute-2.ensures
      ]
    ] in
    let path_is = ap components c.as_str.ensures.value ∙ c.in_ok-path.ensures in
    let base_is = ap components c.as_str-2.ensures.value ∙ c.in_ok-base.ensures in
    let parts = c.apart.ensures ∙ (λ i. apart (path_is i) (base_is i)) in
    subst (λ p. AllMayFollow p.0) (sym parts) (left_follows c.args.path.now c.args.base.now same)
