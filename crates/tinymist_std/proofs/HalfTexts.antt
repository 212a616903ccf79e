-- Reading the text of a half, and of a fingerprint.
use Rattle.std.proofs.Common.{◌≡◌, ℕ, suc, zero, ◌+◌, ◌-◌, ◌*◌, ◌/◌, ◌^◌, ◌<◌, ◌≤◌, List, ◌++◌, length, take, drop, replicate, Option, None, Some, Result, Ok, Err, refl, ap, sym, ◌∙◌, arith}
use Rattle.std.proofs.lemmas.List.{append-nil, append_assoc, length-append, length-take-le, take-append-drop, drop-replicate, replicate-append-replicate, length-replicate}
use Rattle.std.proofs.Math.Seq.{take-append_seam, drop-append_seam}
use Rattle.std.proofs.lemmas.Nat.{le_bytes_8, from_le_bytes-to_le_bytes_8}
use Rattle.std.specs.Int.{w64, to_le_bytes, from_le_bytes}
use Rattle.base64.specs.Engines.{standard_no_pad}
use Rattle.base64.specs.GeneralPurpose.{IsBytes, IsDecodedInto, decode_of, engine_symbols}
use Rattle.base64.proofs.EngineFacts.{decode_of_strict, decode_of-encode_of, front_bytes}
use Rattle.base64.proofs.RoundTrip.{length-encode_symbols}
use Rattle.tinymist_std.specs.Fingerprint.{Halves, IsTextOf, IsTextOfHalf, base64_of}

-- the length of a text in base64
pub length-base64_of : (bytes : List ℕ) → length (base64_of bytes) ≡ (4 * length bytes + 2) / 3
length-base64_of bytes = rw append-nil (length-encode_symbols (engine_symbols standard_no_pad) bytes)

-- eight bytes of a number
pub length-to_le_bytes : (n : ℕ) → length (to_le_bytes w64 n) ≡ 8
length-to_le_bytes n = refl

pub to_le_bytes_are_bytes : (n : ℕ) → IsBytes (to_le_bytes w64 n)
to_le_bytes_are_bytes n zero = omega arith
to_le_bytes_are_bytes n (suc zero) = omega arith
to_le_bytes_are_bytes n (suc (suc zero)) = omega arith
to_le_bytes_are_bytes n (suc (suc (suc zero))) = omega arith
to_le_bytes_are_bytes n (suc (suc (suc (suc zero)))) = omega arith
to_le_bytes_are_bytes n (suc (suc (suc (suc (suc zero))))) = omega arith
to_le_bytes_are_bytes n (suc (suc (suc (suc (suc (suc zero)))))) = omega arith
to_le_bytes_are_bytes n (suc (suc (suc (suc (suc (suc (suc zero))))))) = omega arith
to_le_bytes_are_bytes n (suc (suc (suc (suc (suc (suc (suc (suc i)))))))) = omega arith

-- the bytes of a half's text, and how long they and the text are
pub half_bytes : (n : ℕ) (text : List ℕ) (h : IsTextOfHalf n text) → IsBytes h.bytes
half_bytes n text h = front_bytes h.bytes (replicate h.zeros 0) (rw h.whole (to_le_bytes_are_bytes n))

pub half_length : (n : ℕ) (text : List ℕ) (h : IsTextOfHalf n text) → length h.bytes + h.zeros ≡ 8
half_length n text h =
    let e : length (h.bytes ++ replicate h.zeros 0) ≡ 8 = rw h.whole refl in
    omega (arith, e, length-append h.bytes (replicate h.zeros 0), length-replicate {A = ℕ} h.zeros 0)

pub half_short : (n : ℕ) (text : List ℕ) → IsTextOfHalf n text → length text ≤ 11
half_short n text h =
    let e : length text ≡ (4 * length h.bytes + 2) / 3 = rw h.text_is (length-base64_of h.bytes) in
    omega (arith, e, half_length n text h)

-- the text of a half decodes to its bytes
pub half_decodes : (n : ℕ) (text : List ℕ) (h : IsTextOfHalf n text) → decode_of standard_no_pad text ≡ Ok h.bytes
half_decodes n text h = rw h.text_is (decode_of-encode_of standard_no_pad h.bytes refl (half_bytes n text h))

-- nine zeros over which bytes were decoded: the first eight are those bytes and zeros
pub front_padded : (text buffer : List ℕ) (count : ℕ) → IsDecodedInto standard_no_pad text count (replicate 9 0) buffer → length buffer ≡ 9
    → count ≤ 8 → take count buffer ++ replicate (8 - count) 0 ≡ take 8 buffer
front_padded text buffer count decoded len small =
    let rest : drop count buffer ≡ replicate (9 - count) 0 = decoded.1 ∙ drop-replicate count 9 0 in
    let more : (8 - count) + 1 ≡ 9 - count = omega arith in
    let split : replicate (9 - count) 0 ≡ replicate (8 - count) 0 ++ replicate 1 0 =
    rw (← more) (sym (replicate-append-replicate (8 - count) 1 0)) in
    let whole : buffer ≡ (take count buffer ++ replicate (8 - count) 0) ++ replicate 1 0 =
    sym (take-append-drop count buffer) ∙ ap (λ xs. take count buffer ++ xs) rest
    ∙ ap (λ xs. take count buffer ++ xs) split
    ∙ sym (append_assoc (take count buffer) (replicate (8 - count) 0) (replicate 1 0)) in
    let eight : length (take count buffer ++ replicate (8 - count) 0) ≡ 8 =
    omega (arith, length-append (take count buffer) (replicate (8 - count) 0), length-take-le count buffer (omega arith), length-replicate {A = ℕ} (8 - count) 0) in
    sym (ap (take 8) whole ∙ (rw eight at (take-append_seam (take count buffer ++ replicate (8 - count) 0) (replicate 1 0))))

-- decoding a text into nine zeros gives the half that the first eight bytes make
pub half_reads : (n : ℕ) (text buffer : List ℕ) (count : ℕ) → IsBytes text → IsBytes buffer → length buffer ≡ 9 → length text ≤ 11
    → IsDecodedInto standard_no_pad text count (replicate 9 0) buffer → n < 2 ^ 64 → n ≡ from_le_bytes w64 (take 8 buffer) → IsTextOfHalf n text
half_reads n text buffer count text_bytes buffer_bytes len short decoded fits is =
    let encoded : text ≡ base64_of (take count buffer) = decode_of_strict standard_no_pad text (take count buffer) (refl, refl) text_bytes decoded.0 in
    let taken : length (take count buffer) ≡ count = length-take-le count buffer (omega (arith, decoded.2)) in
    let text_len : length text ≡ (4 * length (take count buffer) + 2) / 3 = rw encoded (length-base64_of (take count buffer)) in
    let small : count ≤ 8 = omega (arith, text_len, taken, decoded.2) in
    let front : IsBytes (take 8 buffer) = front_bytes (take 8 buffer) (drop 8 buffer) (rw take-append-drop buffer_bytes) in
    let eight : length (take 8 buffer) ≡ 8 = length-take-le 8 buffer (omega arith) in
    record {
      fits = fits;
      bytes = take count buffer;
      zeros = 8 - count;
      whole = front_padded text buffer count decoded len small ∙ sym (le_bytes_8 (take 8 buffer) n eight front is);
      text_is = encoded;
    }

ok_injective : {A E : Type 0} {a b : A} → ◌≡◌ {A = Result A E} (Ok a) (Ok b) → a ≡ b
ok_injective e = cc

pub some_injective : {A : Type 0} {a b : A} → ◌≡◌ {A = Option A} (Some a) (Some b) → a ≡ b
some_injective e = cc

pub not_some : {A : Type 0} {a : A} → ◌≡◌ {A = Option A} None (Some a) → ⊥
not_some e = cc

-- a result is not of both kinds
pub not_err : {A E : Type 0} {r : Result A E} {a : A} {e : E} → r ≡ Ok a → r ≡ Err e → ⊥
not_err p q = cc

-- the half whose text was decoded is the number of the first eight bytes
pub half_found : (n : ℕ) (text buffer : List ℕ) (count : ℕ) → IsTextOfHalf n text → length buffer ≡ 9
    → IsDecodedInto standard_no_pad text count (replicate 9 0) buffer → from_le_bytes w64 (take 8 buffer) ≡ n
half_found n text buffer count h len decoded =
    let same : h.bytes ≡ take count buffer = ok_injective (sym (half_decodes n text h) ∙ decoded.0) in
    let taken : length (take count buffer) ≡ count = length-take-le count buffer (omega (arith, decoded.2)) in
    let counted : length h.bytes ≡ count = ap length same ∙ taken in
    let small : count ≤ 8 = omega (arith, counted, half_length n text h) in
    let zeros : 8 - count ≡ h.zeros = omega (arith, counted, half_length n text h) in
    let front : take 8 buffer ≡ to_le_bytes w64 n =
    sym (front_padded text buffer count decoded len small)
    ∙ rw zeros (rw (← same) h.whole) in
    rw front (from_le_bytes-to_le_bytes_8 n h.fits)

-- a text of eleven characters is that of all eight bytes
pub half_full : (n : ℕ) (text : List ℕ) → IsTextOfHalf n text → length text ≡ 11 → text ≡ base64_of (to_le_bytes w64 n)
half_full n text h len =
    let text_len : length text ≡ (4 * length h.bytes + 2) / 3 = rw h.text_is (length-base64_of h.bytes) in
    let none : h.zeros ≡ 0 = omega (arith, text_len, half_length n text h) in
    let bytes : h.bytes ≡ to_le_bytes w64 n = sym (append-nil h.bytes) ∙ (rw none at h.whole) in
    h.text_is ∙ ap base64_of bytes

-- the two parts of a fingerprint's text
pub record IsCut (f : Halves) (text : List ℕ) : Type 0 where
  pub long : 11 ≤ length text
  pub low_is : IsTextOfHalf f.low (take 11 text)
  pub high_is : IsTextOfHalf f.high (drop 11 text)

pub cut_of_text : (f : Halves) (text : List ℕ) → IsTextOf f text → IsCut f text
cut_of_text f text h =
    let low = base64_of (to_le_bytes w64 f.low) in
    let eleven : length low ≡ 11 = length-base64_of (to_le_bytes w64 f.low) in
    let front : take 11 text ≡ low = rw h.text_is (rw eleven at (take-append_seam low h.rest)) in
    let back : drop 11 text ≡ h.rest = rw h.text_is (rw eleven at (drop-append_seam low h.rest)) in
    record {
      long = rw h.text_is (omega (arith, eleven, length-append low h.rest));
      low_is = record {
        fits = h.low_fits;
        bytes = to_le_bytes w64 f.low;
        zeros = 0;
        whole = append-nil (to_le_bytes w64 f.low);
        text_is = front;
      };
      high_is = rw back h.high_is;
    }

pub text_of_cut : (f : Halves) (text : List ℕ) → IsCut f text → IsTextOf f text
text_of_cut f text h =
    let eleven : length (take 11 text) ≡ 11 = length-take-le 11 text h.long in
    record {
      low_fits = h.low_is.fits;
      rest = drop 11 text;
      text_is = sym (take-append-drop 11 text) ∙ ap (λ xs. xs ++ drop 11 text) (half_full f.low (take 11 text) h.low_is eleven);
      high_is = h.high_is;
    }
