-- The table of an edited text: before the edit and after it lines start where they did.
use Rattle.std.proofs.Common.{◌≡◌, ℕ, zero, suc, ◌+◌, ◌-◌, ◌*◌, ◌<◌, ◌≤◌, Bool, true, false, cond, ◌==◌, ◌&&◌, ◌||◌, List, [], ◌∷◌, ◌++◌, length, map, get_or, take, drop, refl, sym, ◌∙◌, ap, subst, arith, append_assoc, leb-true, nat_le}
use Rattle.std.proofs.lemmas.List.{append-nil, map-append, get_or_append_left, get_or-append-add, length-append, length-map, length-take, length-drop, get_or-drop, take-append-le, take_at, drop_at, take-take, length-take-le, take-append-drop}
use Rattle.ty_syntax.specs.declared.lines.LineStart.{LineStart}
use Rattle.ty_syntax.specs.Lines.{is_line_end, ends_line, starts_to, line_starts, start_at}
use Rattle.ty_syntax.specs.LineTable.{entry, moved, table}
use Rattle.ty_syntax.specs.Text.{begins, units, between, spliced, is_place, is_span}
use Rattle.ty_syntax.proofs.Texts.{units_between, few_units}
use Rattle.ty_syntax.proofs.Starts.{byte_at, is_later, low}

-- ---- before the edit

ends_front : (front rest : List ℕ) (at : ℕ) → at + 1 < length front → ends_line (front ++ rest) at ≡ ends_line front at
ends_front front rest at within =
    rw (get_or_append_left front rest 0 (at - 2) (omega arith), get_or_append_left front rest 0 (at - 1) (omega arith), get_or_append_left front rest 0 at (omega arith), get_or_append_left front rest 0 (at + 1) within) refl

entry_front : (front rest : List ℕ) (start : ℕ) → start ≤ length front → entry (front ++ rest) start ≡ entry front start
entry_front front rest start within = rw (take-append-le start front rest within) refl

push_front : (b : Bool) (front rest : List ℕ) (xs ys : List ℕ) (start : ℕ) → start ≤ length front → map (entry (front ++ rest)) xs ≡ map (entry front) ys → map (entry (front ++ rest)) (xs ++ cond b (start ∷ []) []) ≡ map (entry front) (ys ++ cond b (start ∷ []) [])
push_front false front rest xs ys start within e = rw (append-nil xs, append-nil ys) e
push_front true front rest xs ys start within e =
    rw (map-append (entry (front ++ rest)) xs (start ∷ []), map-append (entry front) ys (start ∷ []), e, entry_front front rest start within) refl

-- up to the last byte of a front the table of the whole text is that of the front
pub front_entries : (front rest : List ℕ) (n : ℕ) → n < length front → map (entry (front ++ rest)) (starts_to (front ++ rest) n) ≡ map (entry front) (starts_to front n)
front_entries front rest zero within = refl
front_entries front rest (suc at) within =
    rw (ends_front front rest at (omega arith)) (push_front (ends_line front at) front rest (starts_to (front ++ rest) at) (starts_to front at) (suc at) (omega arith) (front_entries front rest at (omega arith)))

-- ---- after the edit

-- the starts of lines after an offset, for so many bytes
abbrev pub later : List ℕ → ℕ → ℕ → List ℕ
later text from zero = []
later text from (suc k) = later text from k ++ cond (ends_line text (from + k)) (suc (from + k) ∷ []) []

-- the starts up to an offset, and then those after it
pub parts : (text : List ℕ) (from k : ℕ) → starts_to text (from + k) ≡ starts_to text from ++ later text from k
parts text from zero =
    let here : from + 0 ≡ from = omega arith in
    rw (here, append-nil (starts_to text from)) refl
parts text from (suc k) =
    let next : from + suc k ≡ suc (from + k) = omega arith in
    rw (next, parts text from k, append_assoc (starts_to text from) (later text from k) (cond (ends_line text (from + k)) (suc (from + k) ∷ []) [])) refl

not_byte : (b c : ℕ) (x : Bool) → (b == c) ≡ x → begins b ≡ true → begins c ≡ false → x ≡ false
not_byte b c false e first other = refl
not_byte b c true e first other =
    let same : b ≡ c = grind arith in
    absurd (grind (arith, same))

-- whether a line ends with a byte that begins a character doesn't depend on what stands before it
ends_alone : (s f s' f' b n : ℕ) → begins b ≡ true → is_line_end s f b n ≡ is_line_end s' f' b n
ends_alone s f s' f' b n first =
    rw (not_byte b 0x85 (b == 0x85) refl first refl, not_byte b 0xA8 (b == 0xA8) refl first refl, not_byte b 0xA9 (b == 0xA9) refl first refl) refl

second_alone : (u x y z : Bool) → (u || (x && false && y)) ≡ (u || (x && false && z))
second_alone u true y z = refl
second_alone u false y z = refl

-- nor, where one byte stands between, on what stands before that
ends_second : (s s' f b n : ℕ) → begins f ≡ true → is_line_end s f b n ≡ is_line_end s' f b n
ends_second s s' f b n first = rw (not_byte f 0x80 (f == 0x80) refl first refl) (second_alone _ (b == 0xA8 || b == 0xA9) (s == 0xE2) (s' == 0xE2))

at_rest : (a rest : List ℕ) (i k : ℕ) → i ≡ length a + k → get_or (a ++ rest) i 0 ≡ get_or rest k 0
at_rest a rest i k e = rw e (get_or-append-add a rest k 0)

-- behind an offset at which a character begins lines end where they did, whatever stands before it
ends_after : (a b rest : List ℕ) (k : ℕ) → begins (get_or rest 0 0) ≡ true → ends_line (a ++ rest) (length a + k) ≡ ends_line (b ++ rest) (length b + k)
ends_after a b rest zero first =
    rw (at_rest a rest (length a + 0) 0 (omega arith), at_rest a rest (length a + 0 + 1) 1 (omega arith), at_rest b rest (length b + 0) 0 (omega arith), at_rest b rest (length b + 0 + 1) 1 (omega arith))
    (ends_alone _ _ _ _ (get_or rest 0 0) (get_or rest 1 0) first)
ends_after a b rest (suc zero) first =
    rw (at_rest a rest (length a + 1 - 1) 0 (omega arith), at_rest a rest (length a + 1) 1 (omega arith), at_rest a rest (length a + 1 + 1) 2 (omega arith), at_rest b rest (length b + 1 - 1) 0 (omega arith), at_rest b rest (length b + 1) 1 (omega arith), at_rest b rest (length b + 1 + 1) 2 (omega arith))
    (ends_second _ _ (get_or rest 0 0) (get_or rest 1 0) (get_or rest 2 0) first)
ends_after a b rest (suc (suc k)) first =
    rw (at_rest a rest (length a + suc (suc k) - 2) k (omega arith), at_rest a rest (length a + suc (suc k) - 1) (suc k) (omega arith), at_rest a rest (length a + suc (suc k)) (suc (suc k)) refl, at_rest a rest (length a + suc (suc k) + 1) (suc (suc (suc k))) (omega arith), at_rest b rest (length b + suc (suc k) - 2) k (omega arith), at_rest b rest (length b + suc (suc k) - 1) (suc k) (omega arith), at_rest b rest (length b + suc (suc k)) (suc (suc k)) refl, at_rest b rest (length b + suc (suc k) + 1) (suc (suc (suc k))) (omega arith))
    refl

units_rest : (a rest : List ℕ) (k : ℕ) → units (take (suc (length a + k)) (a ++ rest)) ≡ units a + units (take (suc k) rest)
units_rest a rest k =
    let more : suc (length a + k) - length a ≡ suc k = omega arith in
    let sum = units_between (a ++ rest) (length a) (suc (length a + k)) (omega arith) in
    sym (rw (take_at a rest (length a) refl, drop_at a rest (length a) refl, more) at sum)

entry_later : (a b rest : List ℕ) (k : ℕ) → entry (a ++ rest) (suc (length a + k)) ≡ moved (entry (b ++ rest) (length b)) (entry (a ++ rest) (length a)) (entry (b ++ rest) (suc (length b + k)))
entry_later a b rest k =
    let byte : suc (length b + k) - length b + length a ≡ suc (length a + k) = omega arith in
    let utf16 : units (take (suc (length b + k)) (b ++ rest)) - units (take (length b) (b ++ rest)) + units (take (length a) (a ++ rest)) ≡ units (take (suc (length a + k)) (a ++ rest)) =
    rw (units_rest a rest k, units_rest b rest k, take_at a rest (length a) refl, take_at b rest (length b) refl) (omega arith) in
    rw (byte, utf16) refl

one_later : (x : Bool) (a b rest xs ys : List ℕ) (k : ℕ) → map (entry (a ++ rest)) xs ≡ map (moved (entry (b ++ rest) (length b)) (entry (a ++ rest) (length a))) (map (entry (b ++ rest)) ys) → map (entry (a ++ rest)) (xs ++ cond x (suc (length a + k) ∷ []) []) ≡ map (moved (entry (b ++ rest) (length b)) (entry (a ++ rest) (length a))) (map (entry (b ++ rest)) (ys ++ cond x (suc (length b + k) ∷ []) []))
one_later false a b rest xs ys k e = rw (append-nil xs, append-nil ys) e
one_later true a b rest xs ys k e =
    let move = moved (entry (b ++ rest) (length b)) (entry (a ++ rest) (length a)) in
    let here : entry (a ++ rest) (suc (length a + k)) ∷ [] ≡ move (entry (b ++ rest) (suc (length b + k))) ∷ [] = ap (λ s. s ∷ []) (entry_later a b rest k) in
    let left : map (entry (a ++ rest)) (xs ++ suc (length a + k) ∷ []) ≡ map (entry (a ++ rest)) xs ++ entry (a ++ rest) (suc (length a + k)) ∷ [] = map-append (entry (a ++ rest)) xs (suc (length a + k) ∷ []) in
    let inner : map (entry (b ++ rest)) (ys ++ suc (length b + k) ∷ []) ≡ map (entry (b ++ rest)) ys ++ entry (b ++ rest) (suc (length b + k)) ∷ [] = map-append (entry (b ++ rest)) ys (suc (length b + k) ∷ []) in
    let right = map-append move (map (entry (b ++ rest)) ys) (entry (b ++ rest) (suc (length b + k)) ∷ []) in
    left ∙ (ap (λ l. l ++ entry (a ++ rest) (suc (length a + k)) ∷ []) e ∙ (ap (λ l. map move (map (entry (b ++ rest)) ys) ++ l) here ∙ (sym right ∙ ap (map move) (sym inner))))

-- behind such an offset the entries are those of before, moved
later_entries : (a b rest : List ℕ) (k : ℕ) → begins (get_or rest 0 0) ≡ true → map (entry (a ++ rest)) (later (a ++ rest) (length a) k) ≡ map (moved (entry (b ++ rest) (length b)) (entry (a ++ rest) (length a))) (map (entry (b ++ rest)) (later (b ++ rest) (length b) k))
later_entries a b rest zero first = refl
later_entries a b rest (suc k) first =
    rw (ends_after a b rest k first) (one_later (ends_line (b ++ rest) (length b + k)) a b rest (later (a ++ rest) (length a) k) (later (b ++ rest) (length b) k) k (later_entries a b rest k first))

-- ---- the whole table

-- a table is that up to an offset and that of the rest
table_parts : (a rest : List ℕ) → table (a ++ rest) ≡ map (entry (a ++ rest)) (starts_to (a ++ rest) (length a)) ++ map (entry (a ++ rest)) (later (a ++ rest) (length a) (length rest))
table_parts a rest = rw (length-append a rest, parts (a ++ rest) (length a) (length rest)) (map-append (entry (a ++ rest)) (starts_to (a ++ rest) (length a)) (later (a ++ rest) (length a) (length rest)))

table_rest : (b rest : List ℕ) → drop (length (starts_to (b ++ rest) (length b))) (table (b ++ rest)) ≡ map (entry (b ++ rest)) (later (b ++ rest) (length b) (length rest))
table_rest b rest = rw (table_parts b rest) (drop_at (map (entry (b ++ rest)) (starts_to (b ++ rest) (length b))) (map (entry (b ++ rest)) (later (b ++ rest) (length b) (length rest))) (length (starts_to (b ++ rest) (length b))) (length-map (starts_to (b ++ rest) (length b)) (entry (b ++ rest))))

table_front : (b rest : List ℕ) → take (length (starts_to (b ++ rest) (length b))) (table (b ++ rest)) ≡ map (entry (b ++ rest)) (starts_to (b ++ rest) (length b))
table_front b rest = rw (table_parts b rest) (take_at (map (entry (b ++ rest)) (starts_to (b ++ rest) (length b))) (map (entry (b ++ rest)) (later (b ++ rest) (length b) (length rest))) (length (starts_to (b ++ rest) (length b))) (length-map (starts_to (b ++ rest) (length b)) (entry (b ++ rest))))

joined : (a b rest : List ℕ) (xs : List LineStart) → begins (get_or rest 0 0) ≡ true → xs ≡ map (entry (a ++ rest)) (starts_to (a ++ rest) (length a)) → xs ++ map (moved (entry (b ++ rest) (length b)) (entry (a ++ rest) (length a))) (drop (length (starts_to (b ++ rest) (length b))) (table (b ++ rest))) ≡ table (a ++ rest)
joined a b rest xs first is =
    rw (is, table_rest b rest, ← later_entries a b rest (length rest) first) (sym (table_parts a rest))

-- ---- one start after an offset

-- a start after an offset: by how much its byte and its units lie past those of the offset
pub record IsLater (text : List ℕ) (was start : LineStart) : Type 0 where
  pub past : was.byte < start.byte
  pub within : start.byte ≤ length text
  pub counted : was.utf16 ≤ start.utf16
  pub few : start.utf16 + 2 * was.byte ≤ was.utf16 + 2 * start.byte

is_later_entry : (text : List ℕ) (was : LineStart) (at : ℕ) → was ≡ entry text was.byte → was.byte < at → at ≤ length text → IsLater text was (entry text at)
is_later_entry text was at is past within =
    let before : was.utf16 ≡ units (take was.byte text) = rw is refl in
    let sum = units_between text was.byte at (omega (arith, past)) in
    let few = few_units (between text was.byte at) in
    let size : length (between text was.byte at) ≡ at - was.byte = omega (arith, length-take (at - was.byte) (drop was.byte text), length-drop was.byte text) in
    record {
      past = past;
      within = within;
      counted = omega (arith, before, sum);
      few = omega (arith, before, sum, few, size);
    }

pub later_start : (text : List ℕ) (was : LineStart) (items : List LineStart) (i : ℕ) (s : LineStart) → items ≡ drop (length (starts_to text was.byte)) (table text) → was ≡ entry text was.byte → was.byte ≤ length text → i < length items → s ≡ get_or items i s → IsLater text was s
later_start text was items i s e is most within read =
    let n = length (starts_to text was.byte) in
    let size : length items ≡ length (table text) - n = rw e (length-drop n (table text)) in
    let inside : n + i < length (table text) = omega (arith, size, within) in
    let there : s ≡ get_or (table text) (n + i) s = rw e at read ∙ get_or-drop n (table text) i s in
    let value : s ≡ entry text (get_or (line_starts text) (n + i) 0) = there ∙ byte_at text (n + i) s inside in
    let past : was.byte < s.byte = rw (← there) at (is_later text was.byte (n + i) s most (omega arith) inside) in
    let low_end : get_or (line_starts text) (n + i) 0 ≤ length text = low text (length text) (n + i) (rw length-map at inside) in
    let same : s.byte ≡ get_or (line_starts text) (n + i) 0 = rw value refl in
    subst (λ x. IsLater text was x) (sym value) (is_later_entry text was (get_or (line_starts text) (n + i) 0) is (omega (arith, past, same)) low_end)

-- ---- what a repair puts together

both_true : (x y : Bool) → (x && y) ≡ true → (x ≡ true) × (y ≡ true)
both_true true y e = (refl, e)
both_true false y e = absurd (grind arith)

-- a span's order, where it ends, and that a character begins there
pub span_parts : (text : List ℕ) (from to : ℕ) → is_span text from to ≡ true → (from ≤ to) × ((to ≤ length text) × (begins (get_or text to 0) ≡ true))
span_parts text from to span =
    let outer = both_true (nat_le from to) (is_place text from && is_place text to) span in
    let places = both_true (is_place text from) (is_place text to) outer.1 in
    let end = both_true (nat_le to (length text)) (begins (get_or text to 0)) places.1 in
    (leb-true _ _ outer.0, (leb-true _ _ end.0, end.1))

pub front_units : (text with : List ℕ) (from to first : ℕ) → first ≤ from → from ≤ length text → units (take first (spliced text from to with)) ≡ units (take first text)
front_units text with from to first least most =
    let size : length (take from text) ≡ from = length-take-le from text most in
    rw (take-append-le first (take from text) (with ++ drop to text) (omega (arith, size)), take-take first from text least) refl

table_to : (text : List ℕ) (n : ℕ) → n ≤ length text → take (length (starts_to text n)) (table text) ≡ map (entry text) (starts_to text n)
table_to text n most = rw (take-append-drop n text, length-take-le n text most) at (table_front (take n text) (drop n text))

-- the entries before an edit are those of the edited text
pub kept_entries : (text with : List ℕ) (from to : ℕ) → from ≤ length text → take (length (starts_to text (from - 1))) (table text) ≡ map (entry (spliced text from to with)) (starts_to (spliced text from to with) (from - 1))
kept_entries text with zero to most = table_to text 0 (omega arith)
kept_entries text with (suc f) to most =
    let front = take (suc f) text in
    let size : length front ≡ suc f = length-take-le (suc f) text most in
    let last : suc f - 1 ≡ f = omega arith in
    let below : f < length front = omega (arith, size) in
    let before = rw (take-append-drop (suc f) text) at (front_entries front (drop (suc f) text) f below) in
    rw last (table_to text f (omega (arith, most)) ∙ (before ∙ sym (front_entries front (with ++ drop to text) f below)))

-- the repaired table is that of the edited text
pub repaired_table : (text with whole : List ℕ) (from to : ℕ) (was now : LineStart) (xs ys : List LineStart) → whole ≡ spliced text from to with → is_span text from to ≡ true → was ≡ entry text to → now ≡ entry whole (from + length with) → xs ≡ map (entry whole) (starts_to whole (from + length with)) → ys ≡ xs ++ map (moved was now) (drop (length (starts_to text to)) (table text)) → ys ≡ table whole
repaired_table text with whole from to was now xs ys spliced_is span was_is now_is xs_is ys_is =
    let s = span_parts text from to span in
    let a = take from text ++ with in
    let rest = drop to text in
    let old : take to text ++ rest ≡ text = take-append-drop to text in
    let new : whole ≡ a ++ rest = spliced_is ∙ sym (append_assoc (take from text) with rest) in
    let old_size : length (take to text) ≡ to = length-take-le to text s.1.0 in
    let front_size : length (take from text) ≡ from = length-take-le from text (omega (arith, s.0, s.1.0)) in
    let new_size : length a ≡ from + length with = omega (arith, front_size, length-append (take from text) with) in
    let here : to + 0 ≡ to = omega arith in
    let begun : begins (get_or rest 0 0) ≡ true = rw (get_or-drop, here) s.1.1 in
    let xs_of : xs ≡ map (entry (a ++ rest)) (starts_to (a ++ rest) (length a)) = rw (new_size, ← new) xs_is in
    let all = joined a (take to text) rest xs begun xs_of in
    rw (ys_is, was_is, now_is) (rw (old, old_size, new_size, ← new) at all)

-- the units before an offset, and those from there to another
pub counted : (text : List ℕ) (from to n m : ℕ) → from ≤ to → n ≡ units (take from text) → m ≡ units (between text from to) → n + m ≡ units (take to text)
counted text from to n m least front back = rw (front, back) (units_between text from to least)

-- the units before an offset, by the line of it
pub by_line : (text : List ℕ) (from m : ℕ) (start : LineStart) → start ≡ entry text (start_at text from) → start.byte ≤ from → m ≡ units (between text start.byte from) → start.utf16 + m ≡ units (take from text)
by_line text from m start is least back = counted text start.byte from start.utf16 m least (rw is refl) back
