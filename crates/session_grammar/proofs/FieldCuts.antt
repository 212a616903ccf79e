-- The first field of a line stands before its first tab.
use Rattle.std.proofs.Common.{◌≡◌, ℕ, ◌+◌, ◌<◌, ◌==◌, suc, zero, true, false, List, [], ◌∷◌, length, take, drop, refl, arith, Some, None}
use Rattle.std.proofs.lemmas.Bool.{eqb-true, false_from_ne_true}
use Rattle.std.specs.Prelude.{slice_index, slice_range, ◌-◌}
use Rattle.ty_model.specs.Paths.{parts_at}
use Rattle.memchr.specs.Find.{IsFirstByte, is_byte}

cut_at : (text : List ℕ) (n : ℕ) → ((k : ℕ) → k < n → ¬ ((slice_index text k == 9) ≡ true)) → n < length text → (slice_index text n == 9) ≡ true
    → parts_at 9 text ≡ take n text ∷ parts_at 9 (drop (n + 1) text)
cut_at [] n h below is = absurd (omega arith)
cut_at (b ∷ bs) zero h below is = rw is refl
cut_at (b ∷ bs) (suc n) h below is =
    let other : (b == 9) ≡ false = false_from_ne_true (b == 9) (h 0 (omega arith)) in
    let rest = cut_at bs n (λ k under. h (suc k) (omega arith)) (omega arith) is in
    let count : suc n + 1 ≡ suc (n + 1) = omega arith in
    rw (other, rest, count) refl

-- the part before a tab, and the parts after it
pub at_tab : (text : List ℕ) (n : ℕ) → IsFirstByte (is_byte 9) text (Some n) → parts_at 9 text ≡ slice_range text 0 n ∷ parts_at 9 (drop (n + 1) text)
at_tab text n h =
    let all : n - 0 ≡ n = omega arith in
    rw all (cut_at text n (λ k under. h.0.before k (omega arith) under) h.0.high h.1)

-- a tab is ASCII
pub is_tab : (text : List ℕ) (n : ℕ) → IsFirstByte (is_byte 9) text (Some n) → slice_index text n ≡ 9
is_tab text n h = eqb-true (slice_index text n) 9 h.1

no_tab_in : (text : List ℕ) → ((k : ℕ) → k < length text → ¬ ((slice_index text k == 9) ≡ true)) → parts_at 9 text ≡ text ∷ []
no_tab_in [] h = refl
no_tab_in (b ∷ bs) h =
    let other : (b == 9) ≡ false = false_from_ne_true (b == 9) (h 0 (omega arith)) in
    rw (other, no_tab_in bs (λ k under. h (suc k) (omega arith))) refl

-- a text without a tab is one part
pub no_tab : (text : List ℕ) → IsFirstByte (is_byte 9) text None → parts_at 9 text ≡ text ∷ []
no_tab text h = no_tab_in text (λ k under. h k (omega arith) under)
