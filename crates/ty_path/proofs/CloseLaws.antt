-- The slash at the end, and components that come one after another.
use Rattle.std.proofs.Common.{◌≡◌, ℕ, ◌-◌, ◌<◌, ◌≤◌, List, [], ◌∷◌, ◌++◌, map, length, get_or, take, sym, ap, ◌∙◌, arith, length-append, append_assoc, take_at, inl, inr}
use Rattle.std.proofs.lemmas.List.{get_or_at, map_push}
use Rattle.ty_model.specs.Paths.{Component, component_text, text_of, ArePath, slashes}
use Rattle.ty_model.proofs.PathLaws.{closes, slashes-push}

-- ---- the slash at the end

module _ (text : List ℕ) (n : ℕ) (cs : List Component) (path : ArePath cs) (is : text ≡ slashes cs) (len : n ≡ length text) where
  pub close_short : n ≤ 1 → text ≡ text_of cs
  close_short short = elim (closes cs path) [ inl same ↦ is ∙ same.0 | inr more ↦ absurd (omega (arith, more.1, ap length is)) ]

  pub last_slash : 1 < n → get_or text (n - 1) 0 < 128
  last_slash long = elim (closes cs path) [
    | inl same ↦ absurd (omega (arith, same.1, ap length is))
    | inr more ↦
        let at : length (text_of cs) ≡ n - 1 = omega (arith, ap length (is ∙ more.0), length-append (text_of cs) (47 ∷ [])) in
        let byte : get_or text (n - 1) 0 ≡ 47 = ap (λ xs. get_or xs (n - 1) 0) (is ∙ more.0) ∙ get_or_at (text_of cs) 47 [] 0 (n - 1) at in
        omega (arith, byte)
  ]

  pub close_long : 1 < n → take (n - 1) text ≡ text_of cs
  close_long long = elim (closes cs path) [
    | inl same ↦ absurd (omega (arith, same.1, ap length is))
    | inr more ↦
        let at : length (text_of cs) ≡ n - 1 = omega (arith, ap length (is ∙ more.0), length-append (text_of cs) (47 ∷ [])) in
        ap (take (n - 1)) (is ∙ more.0) ∙ take_at (text_of cs) (47 ∷ []) (n - 1) at
  ]

-- ---- one more component

pub slashes-more : {A : Type 0} (f : A → Component) (before text : List ℕ) (xs : List A) (x : A) → text ≡ before ++ slashes (map f xs)
    → text ++ (component_text (f x) ++ 47 ∷ []) ≡ before ++ slashes (map f (xs ++ x ∷ []))
slashes-more f before text xs x e =
    ap (λ t. t ++ (component_text (f x) ++ 47 ∷ [])) e ∙ append_assoc before (slashes (map f xs)) (component_text (f x) ++ 47 ∷ [])
    ∙ ap (λ t. before ++ t) (sym (slashes-push (map f xs) (f x)) ∙ ap slashes (sym (map_push f xs x)))
