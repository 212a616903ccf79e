-- The order of package specifications, and its laws.
use Rattle.std.specs.Prelude.{Bool, refl}
use Rattle.std.specs.Cmp.{IsTotalOrder, IsEquivalence, IsPartialEquivalence, IsPartialOrder, partial_equiv_from_equiv, po, on_total, eq_by_cmp_equiv}
use Rattle.std.specs.Cmp.Lexicographic.{lists_total, nat_list_cmp_total}
use Rattle.std.specs.Ordering.{as_partial_cmp, is_eq}
use Rattle.ty_model.specs.Values as plain

-- two specifications are the same
abbrev pub same_spec : plain.Spec → plain.Spec → Bool
same_spec a b = is_eq (plain.spec_cmp a b)

-- the order of specifications is total
pub spec_total : IsTotalOrder plain.spec_cmp
spec_total = on_total plain.spec_key (lists_total nat_list_cmp_total)

-- to be the same specification is an equivalence
pub spec_equiv : IsEquivalence same_spec
spec_equiv = eq_by_cmp_equiv spec_total

-- and so a partial one
pub spec_part : IsPartialEquivalence same_spec
spec_part = partial_equiv_from_equiv spec_equiv

-- the order of specifications, as a partial one, goes with it
pub spec_order : IsPartialOrder same_spec (as_partial_cmp plain.spec_cmp)
spec_order = po spec_total (λ x y. refl)
