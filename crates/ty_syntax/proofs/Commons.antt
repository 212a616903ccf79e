-- What two texts begin and end with alike.
use Rattle.std.proofs.Common.{◌≡◌, ℕ, zero, suc, ◌+◌, ◌-◌, ◌≤◌, ◌&&◌, true, false, List, ◌++◌, length, get_or, take, drop, refl, sym, ◌∙◌, ap, inl, inr, arith}
use Rattle.std.specs.Str.{IsUtf8, IsCharBoundary}
use Rattle.std.proofs.lemmas.Bool.{cases_lt}
use Rattle.std.proofs.lemmas.Str.{IsCharBoundary-start, IsCharBoundary-end}
use Rattle.std.proofs.lemmas.List.{get_or_past, take-append-drop, take-take, drop-drop}
use Rattle.ty_syntax.specs.Text.{begins, is_place, between, spliced}

begins_from : (x : ℕ) → (128 ≤ x → 192 ≤ x) → begins x ≡ true
begins_from x high = grind arith

-- where a text may be cut is a place
pub place_from : (text : List ℕ) (i : ℕ) → IsCharBoundary text i → is_place text i ≡ true
place_from text i cut = elim (cases_lt i (length text)) [
  | inl below ↦ rw (begins_from (get_or text i 0) (λ h. cut.1 below h)) (grind (arith, cut.0))
  | inr past ↦ rw (get_or_past text i 0 past) (grind (arith, cut.0))
]

pub place_start : (text : List ℕ) → IsUtf8 text → is_place text 0 ≡ true
place_start text valid = place_from text 0 (IsCharBoundary-start text valid)

pub place_end : (text : List ℕ) → is_place text (length text) ≡ true
place_end text = place_from text (length text) (IsCharBoundary-end text)

-- a part of what two lists begin with alike
pub shorter_front : (xs ys : List ℕ) (m n : ℕ) → m ≤ n → take n xs ≡ take n ys → take m xs ≡ take m ys
shorter_front xs ys m n least same = sym (take-take m n xs least) ∙ (ap (take m) same ∙ take-take m n ys least)

-- a part of what they end with alike
pub shorter_back : (xs ys : List ℕ) (m n : ℕ) → m ≤ n → n ≤ length xs → n ≤ length ys → drop (length xs - n) xs ≡ drop (length ys - n) ys → drop (length xs - m) xs ≡ drop (length ys - m) ys
shorter_back xs ys m n least one other same =
    let left : (length xs - n) + (n - m) ≡ length xs - m = omega (arith, least, one) in
    let right : (length ys - n) + (n - m) ≡ length ys - m = omega (arith, least, other) in
    let dropped = ap (drop (n - m)) same in
    rw (drop-drop (n - m) (length xs - n) xs, drop-drop (n - m) (length ys - n) ys, left, right) at dropped

-- the changed part of a text makes it of the other one
pub changed_part : (old text : List ℕ) (front to end : ℕ) → take front old ≡ take front text → drop to old ≡ drop end text → front ≤ end → spliced old front to (between text front end) ≡ text
changed_part old text front to end same_front same_back least =
    let rest : between text front end ++ drop end text ≡ drop front text =
    let far : drop (end - front) (drop front text) ≡ drop end text =
    let there : front + (end - front) ≡ end = omega (arith, least) in
    rw there at (drop-drop (end - front) front text) in
    rw (← far) (take-append-drop (end - front) (drop front text)) in
    rw (same_front, same_back, rest) (take-append-drop front text)

-- at the start both have a place, and so they do at the end
pub places_at_start : (one other : List ℕ) → IsUtf8 one → IsUtf8 other → (is_place one 0 && is_place other 0) ≡ true
places_at_start one other u v = rw (place_start one u, place_start other v) refl

pub places_at_end : (one other : List ℕ) → (is_place one (length one) && is_place other (length other)) ≡ true
places_at_end one other = rw (place_end one, place_end other) refl

-- so where one of both has none, that isn't the start
pub some_front : (one other : List ℕ) (front : ℕ) → IsUtf8 one → IsUtf8 other → (is_place one front && is_place other front) ≡ false → 1 ≤ front
some_front one other zero u v none = absurd (grind (arith, none, places_at_start one other u v))
some_front one other (suc front) u v none = omega arith
