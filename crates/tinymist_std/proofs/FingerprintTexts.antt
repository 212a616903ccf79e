-- What was written of a fingerprint is a text of it.
use Rattle.std.proofs.Common.{◌<◌, ◌^◌, refl}
use Rattle.std.specs.Int.{w64, to_le_bytes}
use Rattle.tinymist_std.specs.Fingerprint.{Halves, IsTextOf, base64_of, svg_id, without_last_zeros}
use Rattle.tinymist_std.proofs.Zeros.{without_last_zeros_padded}

pub svg_id_is_text : (f : Halves) → f.low < 2 ^ 64 → f.high < 2 ^ 64 → IsTextOf f (svg_id f)
svg_id_is_text f low_fits high_fits =
    let padded = without_last_zeros_padded (to_le_bytes w64 f.high) in
    record {
      low_fits = low_fits;
      rest = base64_of (without_last_zeros (to_le_bytes w64 f.high));
      text_is = refl;
      high_is = record {
        fits = high_fits;
        bytes = without_last_zeros (to_le_bytes w64 f.high);
        zeros = padded.zeros;
        whole = padded.whole;
        text_is = refl;
      };
    }
