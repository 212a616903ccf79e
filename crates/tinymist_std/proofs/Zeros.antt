-- Bytes without the zeros at their end.
use Rattle.std.proofs.Common.{◌≡◌, ◌≢◌, ℕ, zero, suc, List, [], ◌∷◌, ◌++◌, replicate, length, refl, ap, sym, ◌∙◌, arith}
use Rattle.tinymist_std.specs.Fingerprint.{kept_before, without_last_zeros}

-- a zero at the end goes
pub without_last_zeros-zero : (xs : List ℕ) → without_last_zeros (xs ++ 0 ∷ []) ≡ without_last_zeros xs
without_last_zeros-zero [] = refl
without_last_zeros-zero (x ∷ xs) = ap (kept_before x) (without_last_zeros-zero xs)

-- before other bytes a byte stays
kept_before-more : (b c : ℕ) (rest : List ℕ) → kept_before b (c ∷ rest) ≡ b ∷ c ∷ rest
kept_before-more zero c rest = refl
kept_before-more (suc b) c rest = refl

-- after another byte all stay
pub without_last_zeros-other : (xs : List ℕ) (b : ℕ) → b ≢ 0 → without_last_zeros (xs ++ b ∷ []) ≡ xs ++ b ∷ []
without_last_zeros-other [] zero h = absurd (h refl)
without_last_zeros-other [] (suc b) h = refl
without_last_zeros-other (x ∷ []) b h = ap (kept_before x) (without_last_zeros-other [] b h) ∙ kept_before-more x b []
without_last_zeros-other (x ∷ y ∷ xs) b h = ap (kept_before x) (without_last_zeros-other (y ∷ xs) b h) ∙ kept_before-more x y (xs ++ b ∷ [])

-- a last byte is cut off, or ends the cutting
pub trim_more : (bytes rest : List ℕ) (last : ℕ) → bytes ≡ rest ++ last ∷ [] → last ≡ 0 → without_last_zeros rest ≡ without_last_zeros bytes
trim_more bytes rest last whole is = rw (whole, is) (sym (without_last_zeros-zero rest))

pub trim_kept : (bytes rest : List ℕ) (last : ℕ) → bytes ≡ rest ++ last ∷ [] → last ≢ 0 → without_last_zeros bytes ≡ bytes
trim_kept bytes rest last whole other = rw whole (without_last_zeros-other rest last other)

pub trim_none : (bytes : List ℕ) → length bytes ≡ 0 → without_last_zeros bytes ≡ bytes
trim_none [] h = refl
trim_none (b ∷ bytes) h = absurd (omega arith)

-- so many zeros more make the bytes again
pub record IsPadded (kept bytes : List ℕ) : Type 0 where
  pub zeros : ℕ
  pub whole : kept ++ replicate zeros 0 ≡ bytes

padded_before : (b : ℕ) (kept bytes : List ℕ) → IsPadded kept bytes → IsPadded (kept_before b kept) (b ∷ bytes)
padded_before zero [] bytes p = record { zeros = suc p.zeros; whole = ap (λ xs. 0 ∷ xs) p.whole }
padded_before (suc b) [] bytes p = record { zeros = p.zeros; whole = ap (λ xs. suc b ∷ xs) p.whole }
padded_before zero (c ∷ kept) bytes p = record { zeros = p.zeros; whole = ap (λ xs. 0 ∷ xs) p.whole }
padded_before (suc b) (c ∷ kept) bytes p = record { zeros = p.zeros; whole = ap (λ xs. suc b ∷ xs) p.whole }

pub without_last_zeros_padded : (bytes : List ℕ) → IsPadded (without_last_zeros bytes) bytes
without_last_zeros_padded [] = record { zeros = 0; whole = refl }
without_last_zeros_padded (b ∷ bytes) = padded_before b _ bytes (without_last_zeros_padded bytes)
