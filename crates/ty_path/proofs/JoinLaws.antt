-- A join by its cases.
use Rattle.std.proofs.Common.{◌≡◌, ℕ, ◌-◌, true, false, cond, eqb, List, [], ◌∷◌, ◌++◌, length, get_or, refl, sym, ◌∙◌, arith, bytes_eq, append_assoc, ne_eqb, suc}
use Rattle.ty_model.specs.Paths.{is_absolute, ends_in_slash, join}

empty-eq : (xs : List ℕ) → bytes_eq xs [] ≡ eqb (length xs) 0
empty-eq [] = refl
empty-eq (b ∷ bs) = sym (ne_eqb (length (b ∷ bs)) 0 (λ z. omega arith))

pub ends_in_slash-last : (xs : List ℕ) → eqb (get_or xs (length xs - 1) 0) 47 ≡ ends_in_slash xs
ends_in_slash-last [] = refl
ends_in_slash-last (b ∷ []) = refl
ends_in_slash-last (b ∷ c ∷ xs) =
    let e : length (b ∷ c ∷ xs) - 1 ≡ suc (length (c ∷ xs) - 1) = omega arith in
    rw e (ends_in_slash-last (c ∷ xs))

-- a base with a slash at its end
abbrev pub with_slash : List ℕ → List ℕ
with_slash base = cond (ends_in_slash base) base (base ++ 47 ∷ [])

pub with_slash-yes : (base : List ℕ) → ends_in_slash base ≡ true → base ≡ with_slash base
with_slash-yes base h = rw h

pub with_slash-no : (base : List ℕ) → ends_in_slash base ≡ false → base ++ 47 ∷ [] ≡ with_slash base
with_slash-no base h = rw h

pub join-both : (base other : List ℕ) → is_absolute other ≡ false → eqb (length base) 0 ≡ false → eqb (length other) 0 ≡ false → with_slash base ++ other ≡ join base other
join-both base other h b o =
    let base_is = empty-eq base ∙ b in
    let other_is = empty-eq other ∙ o in
    rw (h, base_is, other_is)
    (elim (ends_in_slash base) as (λ t. cond t base (base ++ 47 ∷ []) ++ other ≡ cond t (base ++ other) (base ++ 47 ∷ other)) [
      | true ↦ refl
      | false ↦ append_assoc base (47 ∷ []) other
    ])
