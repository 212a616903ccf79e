-- Hexadecimal digits: one pair more, where the greatest value seen tells whether all were digits.
use Rattle.std.proofs.Common.{◌≡◌, ℕ, ◌+◌, ◌*◌, ◌<◌, ◌≤◌, nat_lt, inl, inr, if◌then◌else◌, List, length, take, drop, slice_index, slice_set, Some, None, Ok, Err, refl, ap, ◌∙◌, sym, arith}
use Rattle.std.proofs.lemmas.Bool.{cases_lt}
use Rattle.std.specs.Result.{result_ok}
use Rattle.std.specs.Prelude.{max}
use Rattle.hex.specs.Hex.{decode_pairs, hex_digit_value, pair_value}
use Rattle.hex.specs.declared.error.FromHexError.{FromHexError}
use Rattle.hex.specs.declared.error.FromHexError.TheVariants.{InvalidHexCharacter}
use Rattle.hex.proofs.Pairs.{prepend, decode_step, decode_err, decode_done}

-- what the greatest value seen says of the pairs so far
abbrev pub SeenSoFar : List ℕ → List ℕ → ℕ → ℕ → Type 0
SeenSoFar digits bytes i greatest =
    (greatest < 16 → decode_pairs 0 digits ≡ prepend (take i bytes) (decode_pairs (2 * i) (drop (2 * i) digits)))
    × (16 ≤ greatest → result_ok (decode_pairs 0 digits) ≡ None)

-- a value is that of the digit, or above all digits
abbrev pub IsValueOf : ℕ → ℕ → Type 0
IsValueOf byte value = (value < 16 → hex_digit_value byte ≡ Some value) × (16 ≤ value → hex_digit_value byte ≡ None)

pair_good : (h l i high low : ℕ) → hex_digit_value h ≡ Some high → hex_digit_value l ≡ Some low → pair_value h l i ≡ Ok (high * 16 + low)
pair_good h l i high low eh el = rw (eh, el) refl

pair_bad_high : (h l i : ℕ) → hex_digit_value h ≡ None → pair_value h l i ≡ Err (InvalidHexCharacter h i)
pair_bad_high h l i eh = rw eh refl

pair_bad_low : (h l i high : ℕ) → hex_digit_value h ≡ Some high → hex_digit_value l ≡ None → pair_value h l i ≡ Err (InvalidHexCharacter l (i + 1))
pair_bad_low h l i high eh el = rw (eh, el) refl

none_of : (digits bytes : List ℕ) (i : ℕ) (e : FromHexError) → 2 * i + 1 < length digits
    → pair_value (slice_index digits (2 * i)) (slice_index digits (2 * i + 1)) (2 * i) ≡ Err e
    → decode_pairs 0 digits ≡ prepend (take i bytes) (decode_pairs (2 * i) (drop (2 * i) digits))
    → result_ok (decode_pairs 0 digits) ≡ None
none_of digits bytes i e fits bad inv = ap result_ok (decode_err digits bytes i e fits bad inv)

-- one pair more
pub one_more : (digits bytes : List ℕ) (i greatest high low next byte : ℕ) → 2 * i + 1 < length digits → i < length bytes
    → IsValueOf (slice_index digits (2 * i)) high → IsValueOf (slice_index digits (2 * i + 1)) low
    → next ≡ max (max greatest high) low → (high < 16 → low < 16 → byte ≡ high * 16 + low)
    → SeenSoFar digits bytes i greatest → SeenSoFar digits (slice_set bytes i byte) (i + 1) next
one_more digits bytes i greatest high low next byte fits room is_high is_low top made seen = (
  λ below.
      let a : greatest < 16 = omega (arith, top, below) in
      let b : high < 16 = omega (arith, top, below) in
      let c : low < 16 = omega (arith, top, below) in
      decode_step digits bytes i byte fits room
      (pair_good (slice_index digits (2 * i)) (slice_index digits (2 * i + 1)) (2 * i) high low (is_high.0 b) (is_low.0 c) ∙ ap Ok (sym (made b c)))
      (seen.0 a),
  λ above. elim (cases_lt greatest 16) [
    | inr was ↦ seen.1 was
    | inl a ↦ elim (cases_lt high 16) [
      | inr b ↦ none_of digits bytes i _ fits (pair_bad_high (slice_index digits (2 * i)) (slice_index digits (2 * i + 1)) (2 * i) (is_high.1 b)) (seen.0 a)
      | inl b ↦ elim (cases_lt low 16) [
        | inr c ↦ none_of digits bytes i _ fits (pair_bad_low (slice_index digits (2 * i)) (slice_index digits (2 * i + 1)) (2 * i) high (is_high.0 b) (is_low.1 c)) (seen.0 a)
        | inl c ↦ absurd (omega (arith, top, above, a, b, c))
      ]
    ]
  ],
)

-- all pairs were seen
pub all_seen : (digits bytes : List ℕ) (i greatest : ℕ) → length bytes ≤ i → length digits ≤ 2 * i
    → SeenSoFar digits bytes i greatest → result_ok (decode_pairs 0 digits) ≡ (if nat_lt greatest 16 then Some bytes else None)
all_seen digits bytes i greatest whole all seen = elim (cases_lt greatest 16) [
  | inl below ↦ ap result_ok (decode_done digits bytes i whole all (seen.0 below)) ∙ grind (arith, below)
  | inr above ↦ seen.1 above ∙ grind (arith, above)
]
