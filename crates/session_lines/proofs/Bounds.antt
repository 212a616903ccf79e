-- How much of an input is taken for a line.
use Rattle.std.proofs.Common.{◌≡◌, ℕ, ◌+◌, ◌-◌, ◌≤◌, List, [], ◌++◌, length, drop, ap, ◌∙◌, sym, arith, length-append, length-take, length-drop, Option, Some}
use Rattle.std.specs.Prelude.{slice_range}
use Rattle.std.specs.Io.KnownBytes.{prepend_known}
use Rattle.session_lines.specs.LineSource.{TakenWithin}
use Rattle.session_lines.proofs.Known.{start_ahead, known_left}

-- what is held stands in the piece
pub held_within : (piece : List ℕ) (from to : ℕ) → length piece ≤ 65536 → length (slice_range piece from to) ≤ 65536
held_within piece from to size = omega (arith, length-take (to - from) (drop from piece), length-drop from piece, size)

module _ (old left left' : Option (List ℕ)) (rest : List ℕ) (is : old ≡ Some rest) where
  -- nothing but these bytes was taken
  pub taken_now : (most : ℕ) (bytes : List ℕ) → old ≡ prepend_known bytes left → length bytes ≤ most → TakenWithin most rest left
  taken_now most bytes e few =
      let k = known_left old left bytes rest e is in
      record { rest = k.0; left_is = k.1; within = omega (arith, ap length k.2, length-append bytes k.0, few) }

  -- a piece more was taken
  pub taken_more : (max : ℕ) (gathered held : List ℕ) → old ≡ prepend_known (gathered ++ held) left → length gathered ≤ max → length held ≤ 65536
      → ((l : List ℕ) → left ≡ Some l → TakenWithin (65536 - length held) l left') → TakenWithin (max + 65536) rest left'
  taken_more max gathered held e few short next =
      let k = known_left old left (gathered ++ held) rest e is in
      let t = next k.0 k.1 in
      record { rest = t.rest; left_is = t.left_is; within = omega (arith, ap length k.2, length-append (gathered ++ held) k.0, length-append gathered held, few, short, t.within) }

-- nothing was held
pub taken_fresh : (held : List ℕ) (left left' : Option (List ℕ)) (rest : List ℕ) → held ≡ [] → prepend_known held left ≡ Some rest → ((l : List ℕ) → left ≡ Some l → TakenWithin 65536 l left') → TakenWithin 65536 rest left'
taken_fresh held left left' rest none is next = next rest (sym (start_ahead held left none) ∙ is)
