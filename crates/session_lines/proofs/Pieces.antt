-- A piece of a list at the front of a buffer.
use Rattle.std.proofs.Common.{◌≡◌, ℕ, suc, zero, Bool, false, ◌+◌, ◌-◌, ◌≤◌, ◌<◌, min, List, [], ◌∷◌, ◌++◌, ◌==◌, refl, inl, inr, length, take, drop, sym, ap, ◌∙◌, arith, length-take, length-drop, length-append}
use Rattle.std.proofs.lemmas.Bool.Decides.{eqb_tells}
use Rattle.std.proofs.Math.ListN.{drop_of_length-le}
use Rattle.session_lines.specs.Memory.{at_most_next, read_by, counted, SourceHolds, after_read, SinkHolds, dry_after, after_write}
use Rattle.session_lines.specs.ByteSink.{flushed_by_write}
use Rattle.session_lines.specs.declared.source.ReadStep.TheVariants.{Got, End}
use Rattle.session_lines.specs.declared.sink.WriteStep.TheVariants as wrote
use Rattle.std.proofs.lemmas.List.{take-append-drop, drop-drop, drop_at, take_at, drop_min}

-- the front and the rest of a list
pub front_and_rest : (bytes : List ℕ) (at n : ℕ) → take n (drop at bytes) ++ drop (at + n) bytes ≡ drop at bytes
front_and_rest bytes at n = rw (← drop-drop n at bytes) (take-append-drop n (drop at bytes))

-- what a buffer is after a piece of n bytes
pub record Holds (bytes buf new : List ℕ) (at n : ℕ) : Type 0 where
  pub within : n ≤ length new
  pub front : drop at bytes ≡ take n new ++ drop (at + n) bytes
  pub rest : drop n new ≡ drop n buf

-- a buffer with a piece at its front
pub piece_held : (bytes buf new : List ℕ) (at n : ℕ) → at + n ≤ length bytes → n ≤ length buf → new ≡ take (at + n - at) (drop at bytes) ++ drop (length (take (at + n - at) (drop at bytes))) buf → Holds bytes buf new at n
piece_held bytes buf new at n h k e =
    let same : at + n - at ≡ n = omega arith in
    let from : List ℕ = take n (drop at bytes) in
    let len : length from ≡ n = simp (length-take, length-drop) (omega arith) in
    let is : new ≡ from ++ drop (length from) buf = rw same at e in
    let at_n : new ≡ from ++ drop n buf = rw len at is in
    let front : take n new ≡ from = rw at_n (take_at from (drop n buf) n len) in
    record {
      within = omega (arith, ap length at_n, length-append from (drop n buf));
      front = rw front (sym (front_and_rest bytes at n));
      rest = rw at_n (drop_at from (drop n buf) n len);
    }

-- ---- what the next read gives

pub read_none : (bytes : List ℕ) (at : ℕ) (sizes : List ℕ) (room : ℕ) → length bytes ≤ at → End ≡ read_by (drop at bytes) sizes room
read_none bytes at sizes room past = rw (drop_of_length-le bytes past) refl

gives : (left sizes : List ℕ) (room : ℕ) → 0 < length left → Got (at_most_next sizes (min room (length left))) ≡ read_by left sizes room
gives [] sizes room some = absurd (omega arith)
gives (b ∷ bs) sizes room some = refl

pub read_some : (bytes : List ℕ) (at : ℕ) (sizes : List ℕ) (room n : ℕ) → at < length bytes → n ≡ at_most_next sizes (min room (length bytes - at)) → Got n ≡ read_by (drop at bytes) sizes room
read_some bytes at sizes room n some is =
    let len : length (drop at bytes) ≡ length bytes - at = length-drop at bytes in
    ap Got (is ∙ ap (λ (m : ℕ). at_most_next sizes (min room m)) (sym len)) ∙ gives (drop at bytes) sizes room (omega arith)

-- ---- what is held after a call

one_used : (numbers : List ℕ) (at next : ℕ) → next ≡ min (at + 1) (length numbers) → drop next numbers ≡ drop 1 (drop at numbers)
one_used numbers at next e = ap (λ (n : ℕ). drop n numbers) e ∙ drop_min (at + 1) numbers ∙ sym (drop-drop 1 at numbers)

pub piece_gone : (bytes sizes fails : List ℕ) (at given next n calls faults : ℕ) (s : SourceHolds) → next ≡ min (given + 1) (length sizes)
    → record { left = drop at bytes; sizes = drop given sizes; fails = fails; calls = calls; faults = faults } ≡ s
    → record { left = drop (at + n) bytes; sizes = drop next sizes; fails = fails; calls = calls; faults = faults } ≡ after_read s (Got n)
piece_gone bytes sizes fails at given next n calls faults s used is =
    rw (← drop-drop n at bytes, one_used sizes given next used) (ap (λ (x : SourceHolds). after_read x (Got n)) is)

pub piece_taken : (bytes bytes' most fails piece : List ℕ) (writes next n calls faults dry dry' : ℕ) (flushed flushed' : Bool) (s : SinkHolds)
    → next ≡ min (writes + 1) (length most) → bytes' ≡ bytes ++ take n piece → dry' ≡ dry_after dry n piece → flushed' ≡ flushed_by_write flushed (wrote.Took n)
    → record { taken = bytes; most = drop writes most; fails = fails; calls = calls; faults = faults; dry = dry; flushed = flushed } ≡ s
    → record { taken = bytes'; most = drop next most; fails = fails; calls = calls; faults = faults; dry = dry'; flushed = flushed' } ≡ after_write s (wrote.Took n) piece
piece_taken bytes bytes' most fails piece writes next n calls faults dry dry' flushed flushed' s used more dried stays is =
    rw (more, one_used most writes next used, dried, stays) (ap (λ (x : SinkHolds). after_write x (wrote.Took n) piece) is)

positive : (n : ℕ) → 0 < n → (n == 0) ≡ false
positive n some = elim (eqb_tells n 0) [ inl same ↦ absurd (omega (arith, same.1)) | inr other ↦ other.0 ]

pub not_dry : (dry n : ℕ) (piece : List ℕ) → 0 < n → dry ≡ dry_after dry n piece
not_dry dry n [] some = refl
not_dry dry n (b ∷ bs) some = rw (positive n some) refl

pub is_dry : (dry dry' n : ℕ) (piece : List ℕ) → n ≤ 0 → 0 < length piece → dry' ≡ counted dry → dry' ≡ dry_after dry n piece
is_dry dry dry' n [] none some e = absurd (omega arith)
is_dry dry dry' zero (b ∷ bs) none some e = e
is_dry dry dry' (suc n) (b ∷ bs) none some e = absurd (omega arith)

pub no_piece : (dry n : ℕ) (piece : List ℕ) → length piece ≡ 0 → dry ≡ dry_after dry n piece
no_piece dry n [] none = refl
no_piece dry n (b ∷ bs) none = absurd (omega arith)

pub unflushed : (n : ℕ) (flushed : Bool) → 0 < n → false ≡ flushed_by_write flushed (wrote.Took n)
unflushed n flushed some = rw (positive n some) refl

pub still_flushed : (n : ℕ) (flushed : Bool) → n ≤ 0 → flushed ≡ flushed_by_write flushed (wrote.Took n)
still_flushed zero flushed none = refl
still_flushed (suc n) flushed none = absurd (omega arith)
