-- Numbers past 2 ^ 64 stay past it.
use Rattle.std.proofs.Common.{◌≡◌, ℕ, ◌+◌, ◌-◌, ◌*◌, ◌^◌, ◌≤◌, ◌<◌, ◌&&◌, true, false, cond, List, [], ◌∷◌, refl, arith, Some, None, length, drop, get_or, suc, drop-cons}
use Rattle.std.specs.Prelude.{nat_le}
use Rattle.std.specs.Option.{option_and_then}
use Rattle.std.proofs.Math.ListN.{drop_of_length-le}
use Rattle.std.proofs.lemmas.Bool.{lt-leb, le-leb}
use Rattle.session_grammar.specs.Grammar.{decimal_from, fits_64}

pub too_big : (n : ℕ) (ds : List ℕ) → 2 ^ 64 ≤ n → option_and_then fits_64 (decimal_from n ds) ≡ None
too_big n [] h = grind (arith, lt-leb)
too_big n (d ∷ ds) h =
    elim (nat_le 48 d && nat_le d 57) as (λ b. option_and_then fits_64 (cond b (decimal_from (10 * n + (d - 48)) ds) None) ≡ None) [
      | true ↦ too_big (10 * n + (d - 48)) ds (omega arith)
      | false ↦ refl
    ]

-- the digit at i takes the number past 2 ^ 64
pub step_big : (n i : ℕ) (digits : List ℕ) → i < length digits → 48 ≤ get_or digits i 0 → get_or digits i 0 ≤ 57 → 2 ^ 64 ≤ 10 * n + (get_or digits i 0 - 48) → option_and_then fits_64 (decimal_from n (drop i digits)) ≡ None
step_big n i digits within low high big =
    let from_here : drop i digits ≡ get_or digits i 0 ∷ drop (suc i) digits = drop-cons digits i 0 within in
    rw (from_here, le-leb 48 (get_or digits i 0) low, le-leb (get_or digits i 0) 57 high) (too_big (10 * n + (get_or digits i 0 - 48)) (drop (suc i) digits) big)

pub all_read : (n i : ℕ) (digits : List ℕ) → length digits ≤ i → n < 2 ^ 64 → option_and_then fits_64 (decimal_from n (drop i digits)) ≡ Some n
all_read n i digits past small =
    let none : drop i digits ≡ [] = drop_of_length-le digits past in
    rw (none, le-leb (suc n) (2 ^ 64) small) refl
