-- Fingerprints as two halves of 64 bits, and their texts.
use Rattle.std.specs.Prelude.{◌≡◌, ℕ, zero, suc, ◌+◌, ◌*◌, ◌/◌, ◌%◌, ◌^◌, ◌<◌, List, [], ◌∷◌, ◌++◌, replicate}
use Rattle.std.specs.Ordering.{nat_cmp, ordering_then}
use Rattle.std.specs.declared.cmp.Ordering.{Ordering}
use Rattle.std.specs.Int.{w64, to_le_bytes}
use Rattle.base64.specs.Engines.{standard_no_pad}
use Rattle.base64.specs.GeneralPurpose.{encode_of}

-- the two halves of a fingerprint
pub record Halves : Type 0 where
  pub low : ℕ
  pub high : ℕ

-- ordered by the low half, and then by the high half
abbrev pub halves_cmp : Halves → Halves → Ordering
halves_cmp a b = ordering_then (nat_cmp a.low b.low) (nat_cmp a.high b.high)

-- the number that the halves make
abbrev pub number_of : Halves → ℕ
number_of f = f.high * 2 ^ 64 + f.low

-- the halves of a number
abbrev pub halves_of : ℕ → Halves
halves_of n = record { low = n % 2 ^ 64; high = n / 2 ^ 64 }

-- unpadded standard base64
abbrev pub base64_of : List ℕ → List ℕ
base64_of bytes = encode_of standard_no_pad bytes

-- a byte before others that are kept; a zero before none is left out
abbrev pub kept_before : ℕ → List ℕ → List ℕ
kept_before zero [] = []
kept_before (suc b) [] = suc b ∷ []
kept_before b (c ∷ rest) = b ∷ c ∷ rest

-- the bytes without the zeros at their end
abbrev pub without_last_zeros : List ℕ → List ℕ
without_last_zeros [] = []
without_last_zeros (b ∷ bytes) = kept_before b (without_last_zeros bytes)

-- the text of a fingerprint: its low half in full, and its high half without the zeros at its end
abbrev pub svg_id : Halves → List ℕ
svg_id f = base64_of (to_le_bytes w64 f.low) ++ base64_of (without_last_zeros (to_le_bytes w64 f.high))

-- the text is that of some of a half's eight bytes, and all that are left out at the end are zero
pub record IsTextOfHalf (half : ℕ) (text : List ℕ) : Type 0 where
  pub fits : half < 2 ^ 64
  pub bytes : List ℕ
  pub zeros : ℕ
  pub whole : bytes ++ replicate zeros 0 ≡ to_le_bytes w64 half
  pub text_is : text ≡ base64_of bytes

-- the text is that of the low half's eight bytes, and then one of the high half
pub record IsTextOf (f : Halves) (text : List ℕ) : Type 0 where
  pub low_fits : f.low < 2 ^ 64
  pub rest : List ℕ
  pub text_is : text ≡ base64_of (to_le_bytes w64 f.low) ++ rest
  pub high_is : IsTextOfHalf f.high rest
