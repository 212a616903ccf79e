-- Where lines start: those up to an offset stand first in the table, and all others lie after it.
use Rattle.std.proofs.Common.{◌≡◌, ℕ, zero, suc, ◌+◌, ◌<◌, ◌≤◌, Bool, true, false, cond, leb, List, [], ◌∷◌, ◌++◌, length, map, get_or, take, refl, sym, ◌∙◌, ap, subst, inl, inr, arith, leb-true, leb-false}
use Rattle.std.specs.List.Sorted.{IsPartitionPoint, IsPartitionedBy}
use Rattle.std.proofs.lemmas.Bool.{cases_lt, le-leb}
use Rattle.std.proofs.lemmas.List.{append-nil, map-append, get_or_append_left, get_or_push, get_or-map, length-map, length_push}
use Rattle.ty_syntax.specs.declared.lines.LineStart.{LineStart}
use Rattle.ty_syntax.specs.Lines.{ends_line, starts_to, line_starts, line_at, start_at}
use Rattle.ty_syntax.specs.LineTable.{entry, table}
use Rattle.ty_syntax.specs.Text.{units}

-- ys goes on with xs, by offsets past this one
pub record GoesOn (xs ys : List ℕ) (offset : ℕ) : Type 0 where
  pub front : (j : ℕ) → j < length xs → get_or ys j 0 ≡ get_or xs j 0
  pub longer : length xs ≤ length ys
  pub later : (j : ℕ) → length xs ≤ j → j < length ys → offset < get_or ys j 0

as_it_is : (xs : List ℕ) (offset : ℕ) → GoesOn xs xs offset
as_it_is xs offset = record {
  front = λ j _. refl;
  longer = omega arith;
  later = λ j least below. absurd (omega arith);
}

later_push : (xs ys : List ℕ) (offset start j : ℕ) → offset < start → GoesOn xs ys offset → length xs ≤ j → j < length ys + 1 → offset < get_or (ys ++ start ∷ []) j 0
later_push xs ys offset start j past g least below = elim (cases_lt j (length ys)) [
  | inl within ↦ rw (get_or_append_left ys (start ∷ []) 0 j within) (g.later j least within)
  | inr beyond ↦ rw (get_or_push ys start 0 j (omega arith)) past
]

one_more : (b : Bool) (xs ys : List ℕ) (offset start : ℕ) → offset < start → GoesOn xs ys offset → GoesOn xs (ys ++ cond b (start ∷ []) []) offset
one_more false xs ys offset start past g = rw (append-nil ys) g
one_more true xs ys offset start past g = record {
  front = λ j below. get_or_append_left ys (start ∷ []) 0 j (omega (arith, g.longer)) ∙ g.front j below;
  longer = omega (arith, length_push ys start, g.longer);
  later = λ j least below. later_push xs ys offset start j past g least (rw length_push at below);
}

pub goes_on : (text : List ℕ) (offset end : ℕ) → offset ≤ end → GoesOn (starts_to text offset) (starts_to text end) offset
goes_on text offset zero most =
    let same : offset ≡ 0 = omega arith in
    subst (λ at. GoesOn (starts_to text at) (starts_to text 0) at) (sym same) (as_it_is (starts_to text 0) 0)
goes_on text offset (suc end) most = elim (cases_lt offset (suc end)) [
  | inl below ↦ one_more (ends_line text end) (starts_to text offset) (starts_to text end) offset (suc end) below (goes_on text offset end (omega arith))
  | inr least ↦
      let same : offset ≡ suc end = omega arith in
      subst (λ at. GoesOn (starts_to text at) (starts_to text (suc end)) at) (sym same) (as_it_is (starts_to text (suc end)) (suc end))
]

low_push : (b : Bool) (xs : List ℕ) (at j : ℕ) → ((k : ℕ) → k < length xs → get_or xs k 0 ≤ at) → j < length (xs ++ cond b (suc at ∷ []) []) → get_or (xs ++ cond b (suc at ∷ []) []) j 0 ≤ suc at
low_push false xs at j low below = rw (append-nil xs) (omega (arith, low j (rw (append-nil xs) at below)))
low_push true xs at j low below = elim (cases_lt j (length xs)) [
  | inl within ↦ rw (get_or_append_left xs (suc at ∷ []) 0 j within) (omega (arith, low j within))
  | inr beyond ↦
      let last : length xs ≡ j = omega (arith, rw length_push at below) in
      rw (get_or_push xs (suc at) 0 j last) (omega arith)
]

-- a start up to an offset is at most that offset
pub low : (text : List ℕ) (offset j : ℕ) → j < length (starts_to text offset) → get_or (starts_to text offset) j 0 ≤ offset
low text zero zero below = omega arith
low text zero (suc j) below = absurd (omega arith)
low text (suc at) j below = low_push (ends_line text at) (starts_to text at) at j (low text at) below

-- there is one
pub some_start : (text : List ℕ) (offset : ℕ) → 1 ≤ length (starts_to text offset)
some_start text offset = omega (arith, (goes_on text 0 offset (omega arith)).longer)

-- ---- in the table

pub byte_at : (text : List ℕ) (i : ℕ) (d : LineStart) → i < length (table text) → get_or (table text) i d ≡ entry text (get_or (line_starts text) i 0)
byte_at text i d within = get_or-map (entry text) (line_starts text) i 0 d (rw (length-map (line_starts text) (entry text)) at within)

is_low : (text : List ℕ) (offset i : ℕ) (d : LineStart) → offset ≤ length text → i < length (starts_to text offset) → (get_or (table text) i d).byte ≤ offset
is_low text offset i d most below =
    let g = goes_on text offset (length text) most in
    let within : i < length (table text) = omega (arith, g.longer, length-map (line_starts text) (entry text)) in
    rw (byte_at text i d within, g.front i below) (low text offset i below)

pub is_later : (text : List ℕ) (offset i : ℕ) (d : LineStart) → offset ≤ length text → length (starts_to text offset) ≤ i → i < length (table text) → offset < (get_or (table text) i d).byte
is_later text offset i d most least within =
    rw (byte_at text i d within) ((goes_on text offset (length text) most).later i least (rw (length-map (line_starts text) (entry text)) at within))

pub parted : (text : List ℕ) (starts : List LineStart) (offset : ℕ) → starts ≡ table text → offset ≤ length text → IsPartitionedBy (λ s. leb s.byte offset) starts
parted text starts offset e most = rw e (λ i j d least within holds. elim (cases_lt j (length (starts_to text offset))) [
  | inl below ↦ le-leb _ _ (is_low text offset i d most (omega arith))
  | inr past ↦ absurd (omega (arith, leb-true _ _ holds, is_later text offset j d most past within))
])

pub found : (text : List ℕ) (starts : List LineStart) (offset r : ℕ) → starts ≡ table text → offset ≤ length text → r ≤ length starts → IsPartitionPoint (λ s. leb s.byte offset ≡ true) (λ s. leb s.byte offset ≡ false) starts r → r ≡ length (starts_to text offset)
found text starts offset r e most within point =
    let d : LineStart = entry text 0 in
    let g = goes_on text offset (length text) most in
    let size : length starts ≡ length (line_starts text) = rw e (length-map (line_starts text) (entry text)) in
    elim (cases_lt r (length (starts_to text offset))) [
      | inl fewer ↦ absurd (omega (arith, leb-false _ _ (rw e at (point.1 r d (omega arith) (omega (arith, g.longer)))), is_low text offset r d most fewer))
      | inr least ↦ elim (cases_lt (length (starts_to text offset)) r) [
        | inl more ↦ absurd (omega (arith, leb-true _ _ (rw e at (point.0 (length (starts_to text offset)) d (omega arith) more)), is_later text offset (length (starts_to text offset)) d most (omega arith) (omega (arith, size, rw e at within))))
        | inr most ↦ omega arith
      ]
    ]

pub start_found : (text : List ℕ) (starts : List LineStart) (offset line : ℕ) (s : LineStart) → starts ≡ table text → offset ≤ length text → line ≡ line_at text offset → s ≡ get_or starts line s → (s ≡ entry text (start_at text offset)) × (start_at text offset ≤ offset)
start_found text starts offset line s e most is read =
    let g = goes_on text offset (length text) most in
    let below : line < length (starts_to text offset) = omega (arith, some_start text offset) in
    let within : line < length (table text) = omega (arith, g.longer, length-map (line_starts text) (entry text)) in
    let here : get_or (starts_to text offset) line 0 ≡ start_at text offset = rw is refl in
    let value : s ≡ entry text (get_or (line_starts text) line 0) = (rw e at read) ∙ byte_at text line s within in
    (value ∙ ap (entry text) (g.front line below ∙ here), rw (← here) (low text offset line below))

-- ---- one step of the table

pub with_entry : (text : List ℕ) (at n : ℕ) (old new : List LineStart) → old ≡ map (entry text) (starts_to text at) → ends_line text at ≡ true → n ≡ units (take (at + 1) text) → new ≡ old ++ (record { byte = at + 1; utf16 = n }) ∷ [] → new ≡ map (entry text) (starts_to text (at + 1))
with_entry text at n old new was ends count is =
    let next : at + 1 ≡ suc at = omega arith in
    let grown : map (entry text) (starts_to text (at + 1)) ≡ map (entry text) (starts_to text at) ++ entry text (at + 1) ∷ [] = rw (next, ends) (map-append (entry text) (starts_to text at) (suc at ∷ [])) in
    rw (grown, is, was, count) refl

pub without_entry : (text : List ℕ) (at : ℕ) (old : List LineStart) → old ≡ map (entry text) (starts_to text at) → ends_line text at ≡ false → old ≡ map (entry text) (starts_to text (at + 1))
without_entry text at old was ends =
    let next : at + 1 ≡ suc at = omega arith in
    rw (next, ends, append-nil) was
