-- The text of bytes, its characters, and where it may be cut.
use Rattle.std.specs.Prelude.{ℕ, ◌-◌, Bool, not, ◌&&◌, if◌then◌else◌, nat_le, nat_lt, List, [], ◌∷◌, ◌++◌, length, take, drop, slice_index, Option, Some, None}
use Rattle.std.specs.List.{sum_by, count_by}
use Rattle.std.specs.Str.{is_utf8, bytes_eq}

-- the byte order mark that may stand before a text
abbrev pub mark : List ℕ
mark = 0xEF ∷ 0xBB ∷ 0xBF ∷ []

-- the bytes after at most one mark
abbrev pub without_mark : List ℕ → List ℕ
without_mark bytes = if bytes_eq (take 3 bytes) mark then drop 3 bytes else bytes

-- the text of bytes, where the rest after a mark is UTF-8
abbrev pub text_of : List ℕ → Option (List ℕ)
text_of bytes = if is_utf8 (without_mark bytes) then Some (without_mark bytes) else None

-- ---- characters

-- the byte goes on with a character that began before it
abbrev pub goes_on : ℕ → Bool
goes_on b = nat_le 128 b && nat_lt b 192

-- a character begins with the byte
abbrev pub begins : ℕ → Bool
begins b = not (goes_on b)

-- the UTF-16 code units of the character that begins with the byte: two above U+FFFF
abbrev pub units_of : ℕ → ℕ
units_of b = if goes_on b then 0 else if nat_le 240 b then 2 else 1

-- how many characters begin in these bytes
abbrev pub characters : List ℕ → ℕ
characters bytes = count_by begins bytes

-- how many UTF-16 code units these bytes have
abbrev pub units : List ℕ → ℕ
units bytes = sum_by units_of bytes

-- the text has this offset, and not inside a character
abbrev pub is_place : List ℕ → ℕ → Bool
is_place text offset = nat_le offset (length text) && begins (slice_index text offset)

-- the bytes from one offset to another
abbrev pub between : List ℕ → ℕ → ℕ → List ℕ
between text from to = take (to - from) (drop from text)

-- the text with other bytes from one offset to another
abbrev pub spliced : List ℕ → ℕ → ℕ → List ℕ → List ℕ
spliced text from to other = take from text ++ (other ++ drop to text)

-- these offsets are a span of the text: the first isn't past the second, and neither lies past the end or inside a character
abbrev pub is_span : List ℕ → ℕ → ℕ → Bool
is_span text from to = nat_le from to && (is_place text from && is_place text to)
