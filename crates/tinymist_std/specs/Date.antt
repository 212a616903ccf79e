-- Days as text.
use Rattle.std.specs.Prelude.{ℕ, ◌-◌, List, [], ◌++◌, ℤ, if◌then◌else◌, codes, decimal, length, replicate, unsigned_abs}
use Rattle.std.specs.Int.{is_negative}

-- a number in decimal, with zeros before it up to a width
abbrev pub zero_padded : ℕ → ℕ → List ℕ
zero_padded width n = replicate (width - length (decimal n)) 48 ++ decimal n

-- a day as YYYY-MM-DD, with a further `-` before a year below 0
abbrev pub date_text : ℤ → ℕ → ℕ → List ℕ
date_text year month day = (if is_negative year then codes "-" else [])
    ++ (zero_padded 4 (unsigned_abs year)
    ++ (codes "-" ++ (zero_padded 2 month ++ (codes "-" ++ zero_padded 2 day))))
