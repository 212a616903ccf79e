-- Names of temporary files and folders.
use Rattle.std.proofs.Common.{◌≡◌, ◌≢◌, ◌==◌, ℕ, Bool, ◌^◌, ◌<◌, List, [], ◌∷◌, ◌++◌, true, false, not, codes, refl, arith}
use Rattle.std.proofs.lemmas.Bool.Decides.{nat_tests}
use Rattle.std.specs.Prelude.{IsTrue, decimal}
use Rattle.std.specs.Char.{digit_value}
use Rattle.std.specs.List.{list_all}
use Rattle.std.specs.Str.Parse.{AllDigits}
use Rattle.std.proofs.lemmas.Fmt.{decimal_is_IsNumeral}
use Rattle.ty_model.specs.Paths.{is_name}
use Rattle.tinymist_std.specs.Paths.{has_slash}

-- a digit is no slash
not_slash : (d : ℕ) → digit_value d < 10 → d ≢ 47
not_slash d h e = absurd (omega (arith, rw e at h))

slash-digit : (d : ℕ) → digit_value d < 10 → (d == 47) ≡ false
slash-digit d h = let other : d ≢ 47 = not_slash d h in grind (arith, nat_tests)

list_all-digits : (ds : List ℕ) → AllDigits 10 ds → list_all (λ b. not (b == 47)) ds ≡ true
list_all-digits [] h = refl
list_all-digits (d ∷ ds) h = rw (slash-digit d h.0) (list_all-digits ds h.1)

-- what has no slash is made of other bytes
list_all-others : (text : List ℕ) → has_slash text ≡ false → list_all (λ b. not (b == 47)) text ≡ true
list_all-others [] h = refl
list_all-others (b ∷ text) h = let rest : has_slash text ≡ false → list_all (λ b. not (b == 47)) text ≡ true = list_all-others text in grind (arith, nat_tests, rest)

-- two texts without a slash make one
list_all-joined : (p : ℕ → Bool) (xs ys : List ℕ) → list_all p xs ≡ true → list_all p ys ≡ true → list_all p (xs ++ ys) ≡ true
list_all-joined p [] ys h k = k
list_all-joined p (x ∷ xs) ys h k = let rest : list_all p xs ≡ true → list_all p (xs ++ ys) ≡ true = λ (w : list_all p xs ≡ true). list_all-joined p xs ys w k in grind (arith, rest)

pub temporary_name : (carried : List ℕ) (unique number : ℕ) → has_slash carried ≡ false → unique < 2 ^ 64 → number < 2 ^ 64
    → IsTrue (is_name (codes ".tmp" ++ (decimal number ++ (codes "-" ++ (decimal unique ++ (codes "-" ++ carried))))))
temporary_name carried unique number h k l =
    let p : ℕ → Bool = λ b. not (b == 47) in
    list_all-joined p (decimal number) _ (list_all-digits _ (decimal_is_IsNumeral number l).0.1)
    (list_all-joined p (decimal unique) _ (list_all-digits _ (decimal_is_IsNumeral unique k).0.1) (list_all-others carried h))
