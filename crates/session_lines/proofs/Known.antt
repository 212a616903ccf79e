-- What is read of what is known.
use Rattle.std.proofs.Math.Seq.{take-add}
use Rattle.std.proofs.lemmas.List.{take_rest}
use Rattle.std.proofs.Common.{◌≡◌, ◌⊎◌, ℕ, ◌+◌, ◌-◌, ◌<◌, ◌≤◌, List, [], ◌∷◌, ◌++◌, length, take, drop, refl, sym, ap, ◌∙◌, append_assoc, append-nil, arith, inl, inr, Option, Some, None, Result, Ok, Err, length-take}
use Rattle.std.proofs.lemmas.Bool.Decides.{leb_tells}
use Rattle.std.proofs.lemmas.List.{drop-take, drop-drop}
use Rattle.std.proofs.lemmas.List.Folds.{list_any-append}
use Rattle.std.specs.Prelude.{slice_range, ◌==◌}
use Rattle.std.specs.Io.KnownBytes.{prepend_known, append_known, IsAtEnd}
use Rattle.session_lines.specs.Lf.{IsLine}
use Rattle.session_lines.specs.LineReader.{ReadsLine, Fills, FindsByte}
use Rattle.session_lines.specs.declared.line_reader.Filled.{Filled}
use Rattle.session_lines.specs.declared.line_reader.Filled.TheVariants as filled
use Rattle.session_lines.specs.declared.line_reader.LineRead.{LineRead}
use Rattle.session_lines.specs.declared.line_reader.LineRead.TheVariants.{Line}
use Rattle.session_lines.specs.declared.line_reader.LineFault.{LineFault}
use Rattle.session_lines.specs.declared.line_reader.LineFault.TheVariants.{TooLong}

pub prepend-prepend : (known : Option (List ℕ)) (xs ys : List ℕ) → prepend_known xs (prepend_known ys known) ≡ prepend_known (xs ++ ys) known
prepend-prepend None xs ys = refl
prepend-prepend (Some bs) xs ys = ap Some (sym (append_assoc xs ys bs))

nothing : (known : Option (List ℕ)) → prepend_known [] known ≡ known
nothing None = refl
nothing (Some bs) = refl

-- what is left after the bytes bs, where the bytes are told
pub known_left : (old new : Option (List ℕ)) (bs rest : List ℕ) → old ≡ prepend_known bs new → old ≡ Some rest → (next : List ℕ) × (new ≡ Some next) × (rest ≡ bs ++ next)
known_left old None bs rest e is = absurd (cc)
known_left old (Some next) bs rest e is = (next, refl, cc)

-- what is held of a piece after n bytes and an LF
pub held-after : (old new : List ℕ) (from to to' n : ℕ) → new ≡ old → to' ≡ to → n < length (slice_range old from to) → slice_range new (from + n + 1) to' ≡ drop (n + 1) (slice_range old from to)
held-after old new from to to' n same same_to within =
    let room : n + 1 ≤ to - from = omega (arith, length-take (to - from) (drop from old)) in
    let count : to - from ≡ (n + 1) + (to - (from + n + 1)) = omega arith in
    let place : from + n + 1 ≡ from + (n + 1) = omega arith in
    rw (same, same_to)
    (ap (λ (k : ℕ). take (to - (from + n + 1)) (drop k old)) place
    ∙ ap (take (to - (from + n + 1))) (sym (drop-drop (n + 1) from old))
    ∙ sym (drop-take (n + 1) (to - (from + n + 1)) (drop from old))
    ∙ ap (λ (k : ℕ). drop (n + 1) (take k (drop from old))) (sym count))

pub both_lines : (xs ys : List ℕ) → IsLine xs → IsLine ys → IsLine (xs ++ ys)
both_lines xs ys p q = list_any-append (λ b. b == 10) xs ys ∙ rw (p, q) refl

either_size : (a b : ℕ) → (a ≤ b) ⊎ (b < a)
either_size a b = elim (leb_tells a b) [ inl p ↦ inl p.1 | inr p ↦ inr (omega (arith, p.1)) ]

module _ (max : ℕ) (old mid new : Option (List ℕ)) (gathered tail line : List ℕ) (r : Result LineRead LineFault)
    (before : old ≡ prepend_known gathered mid) (next : mid ≡ prepend_known (tail ++ 10 ∷ []) new)
    (plain : IsLine gathered) (plain_tail : IsLine tail) (is : line ≡ gathered ++ tail) where
  all : old ≡ prepend_known (line ++ 10 ∷ []) new
  all = before ∙ ap (prepend_known gathered) next ∙ prepend-prepend new gathered (tail ++ 10 ∷ []) ∙ ap (λ (bs : List ℕ). prepend_known bs new) (sym (append_assoc gathered tail (10 ∷ [])) ∙ ap (λ (bs : List ℕ). bs ++ 10 ∷ []) (sym is))

  plain_all : IsLine line
  plain_all = rw is (both_lines gathered tail plain plain_tail)

  -- a line that is ended by LF is read, or is too long
  pub whole-read : (length line ≤ max → r ≡ Ok Line) → (max < length line → r ≡ Err TooLong) → ReadsLine max old new line r
  whole-read fits long = elim (either_size (length line) max) [
    | inl short ↦ rw (fits short) (all, plain_all, short)
    | inr more ↦ rw (long more) (10 ∷ [], all, plain_all, more)
  ]

-- a part that goes on
pub more-read : (old left left' : Option (List ℕ)) (gathered held more gathered' held' : List ℕ) → old ≡ prepend_known (gathered ++ held) left → prepend_known held left ≡ prepend_known more (prepend_known held' left') → gathered' ≡ gathered ++ more
    → old ≡ prepend_known (gathered' ++ held') left'
more-read old left left' gathered held more gathered' held' before next is =
    let after = prepend_known held' left' in
    before ∙ sym (prepend-prepend left gathered held) ∙ ap (prepend_known gathered) next ∙ prepend-prepend after gathered more
    ∙ ap (λ (g : List ℕ). prepend_known g after) (sym is) ∙ prepend-prepend left' gathered' held'

pub append-append : (known : Option (List ℕ)) (xs ys : List ℕ) → append_known (append_known known xs) ys ≡ append_known known (xs ++ ys)
append-append None xs ys = refl
append-append (Some bs) xs ys = ap Some (append_assoc bs xs ys)

pub append-taken : (known : Option (List ℕ)) (piece : List ℕ) (at n : ℕ) → append_known (append_known known (take at piece)) (take n (take (length piece - at) (drop at piece))) ≡ append_known known (take (at + n) piece)
append-taken known piece at n =
    let all : take (length piece - at) (drop at piece) ≡ drop at piece = take_rest piece at in
    rw (append-append known (take at piece) (take n (take (length piece - at) (drop at piece))), all, take-add at n piece)

pub append-nothing : (known : Option (List ℕ)) (piece : List ℕ) → known ≡ append_known known (take 0 piece)
append-nothing None piece = refl
append-nothing (Some bs) piece = ap Some (sym (append-nil bs))

-- ---- what is found

pub held_none : (piece : List ℕ) (from to : ℕ) → to ≤ from → slice_range piece from to ≡ []
held_none piece from to none = let zero_is : to - from ≡ 0 = omega arith in rw zero_is refl

pub fills_finds : (before held : List ℕ) (left left' : Option (List ℕ)) (r : Filled) → before ≡ [] → Fills left left' held r → FindsByte (prepend_known before left) (prepend_known held left') r
fills_finds before held left left' filled.Some none h = (held, left', rw none (nothing left ∙ h.0), h.1)
fills_finds before held left left' filled.End none h = (rw (none, h.2) (nothing left ∙ h.0 ∙ sym (nothing left')), rw h.2 (rw nothing h.1))
fills_finds before held left left' filled.ReadFailed none h = rw (none, h.1) (nothing left ∙ h.0 ∙ sym (nothing left'))
fills_finds before held left left' filled.FlushFailed none h = tt

-- nothing is held at the start
pub start_ahead : (held : List ℕ) (left : Option (List ℕ)) → held ≡ [] → prepend_known held left ≡ left
start_ahead held left none = ap (λ (h : List ℕ). prepend_known h left) none ∙ nothing left

-- where nothing is to be read, nothing is left
pub end_ahead : (held : List ℕ) (left : Option (List ℕ)) → IsAtEnd (prepend_known held left) → IsAtEnd left
end_ahead held None h = h
end_ahead [] (Some bs) h = h
end_ahead (b ∷ held) (Some bs) h = absurd (cc)
