-- The text of bytes, and the units of a text's parts.
use Rattle.std.proofs.Common.{◌≡◌, ℕ, ◌+◌, ◌-◌, ◌*◌, ◌≤◌, Bool, true, false, cond, nat_le, List, [], ◌∷◌, length, take, drop, Some, None, refl, ◌∙◌, ap, arith}
use Rattle.std.specs.Str.{IsUtf8, is_utf8}
use Rattle.std.proofs.lemmas.Str.{is_utf8-from_IsUtf8, IsUtf8-from_is_utf8}
use Rattle.std.proofs.lemmas.List.{take-take, drop-take, length-take}
use Rattle.std.proofs.lemmas.List.Sums.{sum_by-cons, sum_by-take-drop}
use Rattle.ty_syntax.specs.Text.{text_of, without_mark, goes_on, units_of, units, between, is_place}
use Rattle.ty_syntax.specs.Lines.{units_before, units_by_line, start_at}

not_true : (b : Bool) → (b ≡ true → ⊥) → b ≡ false
not_true true n = absurd (n refl)
not_true false n = refl

pub is_text : (bytes rest text : List ℕ) → rest ≡ without_mark bytes → text ≡ rest → IsUtf8 rest → text_of bytes ≡ Some text
is_text bytes rest text e f u =
    let valid : is_utf8 (without_mark bytes) ≡ true = is_utf8-from_IsUtf8 (without_mark bytes) (rw e at u) in
    rw valid cc

pub is_no_text : (bytes rest : List ℕ) → rest ≡ without_mark bytes → ¬ (IsUtf8 rest) → text_of bytes ≡ None
is_no_text bytes rest e n =
    let invalid : is_utf8 (without_mark bytes) ≡ false = not_true _ (λ t. n (IsUtf8-from_is_utf8 rest (rw e t))) in
    rw invalid refl

-- ---- units

few_by : (a b : Bool) → cond a 0 (cond b 2 1) ≤ 2
few_by true b = omega arith
few_by false true = omega arith
few_by false false = omega arith

pub few_units : (bytes : List ℕ) → units bytes ≤ 2 * length bytes
few_units [] = omega arith
few_units (b ∷ bytes) = omega (arith, sum_by-cons units_of b bytes, few_units bytes, few_by (goes_on b) (nat_le 240 b))

pub units_between : (text : List ℕ) (from to : ℕ) → from ≤ to → units (take from text) + units (between text from to) ≡ units (take to text)
units_between text from to least =
    let whole : to ≡ from + (to - from) = omega arith in
    let cut : drop from (take (from + (to - from)) text) ≡ between text from to = drop-take from (to - from) text in
    let front : take from (take to text) ≡ take from text = take-take from to text least in
    let back : drop from (take to text) ≡ between text from to = ap (λ n. drop from (take n text)) whole ∙ cut in
    rw (← front, ← back) (sum_by-take-drop units_of (take to text) from)

pub is_units : (text : List ℕ) (from to n m : ℕ) → is_place text to ≡ true → from ≤ to → n ≡ units (take from text) → m ≡ units (between text from to) → Some (n + m) ≡ units_before text to
is_units text from to n m place least front back =
    let all : n + m ≡ units (take to text) = rw (front, back) (units_between text from to least) in
    rw (place, all) refl

pub is_units_by_line : (text : List ℕ) (to n m : ℕ) → is_place text to ≡ true → n ≡ units (take (start_at text to) text) → m ≡ units (between text (start_at text to) to) → Some (n + m) ≡ units_by_line text to
is_units_by_line text to n m place front back = rw (place, front, back) refl

pub units_fit : (text : List ℕ) (from to n m : ℕ) → from ≤ to → n ≡ units (take from text) → m ≡ units (between text from to) → n + m ≤ 2 * length text
units_fit text from to n m least front back = omega (arith, units_between text from to least, few_units (take to text), length-take to text)
