-- Where the first LF of some bytes stands.
use Rattle.std.proofs.Common.{◌≡◌, ℕ, ◌+◌, ◌<◌, ◌≤◌, ◌==◌, ◌||◌, suc, zero, Bool, true, false, List, [], ◌∷◌, length, take, drop, get_or, refl, sym, ap, ◌∙◌, arith, add-one, drop-cons, Option, Some, None}
use Rattle.std.proofs.Math.Seq.{take-length}
use Rattle.std.proofs.lemmas.Bool.{eqb-true, false_from_ne_true}
use Rattle.std.specs.Prelude.{slice_index, IfSome, IfNone}
use Rattle.std.specs.List.{list_any}
use Rattle.memchr.specs.Find.{IsFirstByte, is_byte}
use Rattle.session_lines.specs.Lf.{IsLine}

neither : (a b : Bool) → a ≡ false → b ≡ false → (a || b) ≡ false
neither a b p q = rw (p, q)

-- bytes without LF
none_before : (bytes : List ℕ) (n : ℕ) → ((k : ℕ) → k < n → ¬ ((slice_index bytes k == 10) ≡ true)) → n ≤ length bytes → IsLine (take n bytes)
none_before bytes zero h within = refl
none_before [] (suc n) h within = absurd (omega arith)
none_before (b ∷ bs) (suc n) h within = neither (b == 10) (list_any (λ c. c == 10) (take n bs)) (false_from_ne_true (b == 10) (h 0 (omega arith))) (none_before bs n (λ k below. h (suc k) (omega arith)) (omega arith))

pub first_some : (bytes : List ℕ) (r : Option ℕ) → IsFirstByte (is_byte 10) bytes r → IfSome r (λ n. (n < length bytes) × IsLine (take n bytes) × (drop n bytes ≡ 10 ∷ drop (n + 1) bytes))
first_some bytes None h = tt
first_some bytes (Some n) h =
    let below : n < length bytes = h.0.high in
    let is : get_or bytes n 0 ≡ 10 = eqb-true (get_or bytes n 0) 10 h.1 in
    (below, none_before bytes n (λ k k_below. h.0.before k (omega arith) k_below) (omega arith), rw (add-one, drop-cons bytes n 0 below, is) refl)

pub first_none : (bytes : List ℕ) (r : Option ℕ) → IsFirstByte (is_byte 10) bytes r → IfNone r (IsLine bytes)
first_none bytes (Some n) h = tt
first_none bytes None h = ap (list_any (λ b. b == 10)) (sym (take-length bytes)) ∙ none_before bytes (length bytes) (λ k below. h k (omega arith) below) (omega arith)
