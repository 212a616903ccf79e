-- A balanced tree is low.
use Rattle.std.proofs.Common.{◌≡◌, ℕ, suc, ◌+◌, ◌-◌, ◌*◌, ◌^◌, ◌<◌, ◌≤◌, inl, inr, ◌∷◌, ◌++◌, length, max, Result, Ok, Err, IfOk, refl, sym, subst, ◌∙◌, arith, length-append}
use Rattle.std.proofs.Math.Nat.{mul-le-mul_left, mul-le-mul_right, pow-le-pow_right, pow-suc, pow-zero}
use Rattle.std.proofs.lemmas.Bool.{cases_lt}
use Rattle.ty_persist.specs.Contents.{Contents, IsLow}
use Rattle.ty_persist.specs.Shape.{IsHeightAfterRebalance}

square_le : (m n : ℕ) → m ≤ n → m * m ≤ n * n
square_le m n h = omega (arith, mul-le-mul_left m h, mul-le-mul_right n h)

twice_square : (m : ℕ) → (m + m) * (m + m) ≡ 4 * (m * m)
twice_square m = grind arith

four_pow : (k : ℕ) → 2 ^ (k + 2) ≡ 4 * 2 ^ k
four_pow k =
    let e : k + 2 ≡ suc (suc k) = omega arith in
    rw (e, pow-suc 2 (suc k), pow-suc 2 k) (omega arith)

-- p is at most the square of each of a and b, so 4 p is at most that of their sum
four_times : (p a b : ℕ) → p ≤ a * a → p ≤ b * b → 4 * p ≤ (a + b) * (a + b)
four_times p a b h k =
    elim (cases_lt a b) [
      | inl less ↦ omega (arith, twice_square a, square_le (a + a) (a + b) (omega arith))
      | inr more ↦ omega (arith, twice_square b, square_le (b + b) (a + b) (omega arith))
    ]

low_numbers : (a b x y : ℕ) → 2 ^ x ≤ (a + 1) * (a + 1) → 2 ^ y ≤ (b + 1) * (b + 1) → x ≤ y + 1 → y ≤ x + 1 → 2 ^ (max x y + 1) ≤ ((a + 1) + (b + 1)) * ((a + 1) + (b + 1))
low_numbers a b x y h k near near' =
    let m = max x y - 1 in
    let two : 0 < 2 = omega arith in
    let left : 2 ^ m ≤ 2 ^ x = pow-le-pow_right two (omega arith) in
    let right : 2 ^ m ≤ 2 ^ y = pow-le-pow_right two (omega arith) in
    let more : 2 ^ (max x y + 1) ≤ 2 ^ (m + 2) = pow-le-pow_right two (omega arith) in
    let four = four_times (2 ^ m) (a + 1) (b + 1) (omega arith) (omega arith) in
    omega (arith, four_pow m)

pow_two : (n : ℕ) → n ^ 2 ≡ n * n
pow_two n =
    let two : 2 ≡ suc (suc 0) = refl in
    let one : 1 ≡ suc 0 = refl in
    rw (two, pow-suc n 1, one, pow-suc n 0, pow-zero n) (omega arith)

pub low_fork : {K V : Type 0} (l r : Contents K V) (e : K × V) → IsLow l → IsLow r → l.height ≤ r.height + 1 → r.height ≤ l.height + 1 → IsLow (record { entries = l.entries ++ e ∷ r.entries; height = max l.height r.height + 1 })
low_fork l r e h k near near' =
    let same : length (l.entries ++ e ∷ r.entries) + 1 ≡ (length l.entries + 1) + (length r.entries + 1) = omega (arith, length-append l.entries (e ∷ r.entries)) in
    let P : ℕ → Type 0 = λ n. 2 ^ (max l.height r.height + 1) ≤ n ^ 2 in
    let sides = (length l.entries + 1) + (length r.entries + 1) in
    subst P (sym same) (rw (pow_two sides) (low_numbers (length l.entries) (length r.entries) l.height r.height (rw (pow_two (length l.entries + 1)) at h) (rw (pow_two (length r.entries + 1)) at k) near near'))

-- a length that fits 64 bits bounds the height
pub height_fits : (h n : ℕ) → 2 ^ h ≤ (n + 1) ^ 2 → n < 2 ^ 64 → h < 2 ^ 63
height_fits h n low fits =
    let low' : 2 ^ h ≤ (n + 1) * (n + 1) = rw (pow_two (n + 1)) at low in
    elim (cases_lt h 129) [
      | inl less ↦ omega arith
      | inr more ↦
          let two : 0 < 2 = omega arith in
          let high : 2 ^ 129 ≤ 2 ^ h = pow-le-pow_right two more in
          absurd (omega (arith, square_le (n + 1) (2 ^ 64) (omega arith)))
    ]

-- what has no height is low
pub low_flat : (n : ℕ) → 2 ^ 0 ≤ (n + 1) ^ 2
low_flat n = rw (pow_two (n + 1)) (omega arith)

-- a node whose sides keep their heights l and r keeps its own
pub same_height : {K V E : Type 0} (l r h : ℕ) (res : Result (Contents K V) E) → IfOk res (λ t. IsHeightAfterRebalance l r t.height) → l ≤ r + 1 → r ≤ l + 1 → h ≡ max l r + 1 → IfOk res (λ t. t.height ≡ h)
same_height l r h (Ok t) settles near near' is = settles.2 (near, near') ∙ sym is
same_height l r h (Err e) settles near near' is = tt

-- more entries under the same height
pub low_more : (h m n : ℕ) → m ≤ n → 2 ^ h ≤ (m + 1) ^ 2 → 2 ^ h ≤ (n + 1) ^ 2
low_more h m n more low =
    let low' : 2 ^ h ≤ (m + 1) * (m + 1) = rw (pow_two (m + 1)) at low in
    rw (pow_two (n + 1)) (omega (arith, square_le (m + 1) (n + 1) (omega arith)))
