-- Numbers in decimal with zeros before them.
use Rattle.std.proofs.Common.{◌≡◌, ℕ, ◌-◌, ◌^◌, false, [], length, arith}
use Rattle.std.proofs.lemmas.List.{append-nil}
use Rattle.std.specs.Fmt.{format_spec, padded_integral, char_count, decimal}
use Rattle.tinymist_std.specs.Date.{zero_padded}

-- what is written where zeros are asked for up to a width
pub padded_is_zero_padded : (width n : ℕ)
    → padded_integral (format_spec 32 0 4 width (2 ^ 64 - 1)) false [] (decimal n) ≡ zero_padded width n
unfolding padded_integral char_count
padded_is_zero_padded width n =
    let same : width - length (decimal n) - 0 - 0 ≡ width - length (decimal n) = omega arith in rw (append-nil, same)
