-- The lines of a text, and where an offset stands in them.
use Rattle.std.specs.Prelude.{ℕ, zero, suc, ◌+◌, ◌-◌, Bool, not, ◌&&◌, ◌||◌, ◌==◌, if◌then◌else◌, nat_le, List, [], ◌∷◌, ◌++◌, length, take, slice_index, slice_get, Option, Some, None}
use Rattle.std.specs.Option.{option_map, unwrap_or}
use Rattle.ty_syntax.specs.Text.{characters, units, between, is_place}

-- a line ends with this byte, after two others and before one: LF, VT, FF, CR where no LF follows, U+0085, U+2028, U+2029
abbrev pub is_line_end : ℕ → ℕ → ℕ → ℕ → Bool
is_line_end second first byte next =
    byte == 0x0A || byte == 0x0B || byte == 0x0C
    || (byte == 0x0D && not (next == 0x0A))
    || (byte == 0x85 && first == 0xC2)
    || ((byte == 0xA8 || byte == 0xA9) && first == 0x80 && second == 0xE2)

-- a line ends with the byte at this place
abbrev pub ends_line : List ℕ → ℕ → Bool
ends_line text at = is_line_end (slice_index text (at - 2)) (slice_index text (at - 1)) (slice_index text at) (slice_index text (at + 1))

-- where lines start, from the text's start up to an offset
abbrev pub starts_to : List ℕ → ℕ → List ℕ
starts_to text zero = 0 ∷ []
starts_to text (suc at) = starts_to text at ++ (if ends_line text at then suc at ∷ [] else [])

-- where the lines of a text start
abbrev pub line_starts : List ℕ → List ℕ
line_starts text = starts_to text (length text)

-- how many lines end before an offset
abbrev pub line_at : List ℕ → ℕ → ℕ
line_at text offset = length (starts_to text offset) - 1

-- where the line of an offset starts
abbrev pub start_at : List ℕ → ℕ → ℕ
start_at text offset = slice_index (starts_to text offset) (line_at text offset)

-- a place: its line, and the characters and UTF-16 code units since that line's start
pub record Place : Type 0 where
  pub line : ℕ
  pub column : ℕ
  pub unit : ℕ

-- the place of an offset that the text has
abbrev pub place_at : List ℕ → ℕ → Place
place_at text offset = record {
  line = line_at text offset;
  column = characters (between text (start_at text offset) offset);
  unit = units (between text (start_at text offset) offset);
}

-- the place of an offset: none past the text's end or inside a character
abbrev pub place : List ℕ → ℕ → Option Place
place text offset = if is_place text offset then Some (place_at text offset) else None

-- the line of an offset, which may lie inside a character: none past the text's end
abbrev pub line_of : List ℕ → ℕ → Option ℕ
line_of text offset = if nat_le offset (length text) then Some (line_at text offset) else None

-- the UTF-16 code units before an offset
abbrev pub units_before : List ℕ → ℕ → Option ℕ
units_before text offset = if is_place text offset then Some (units (take offset text)) else None

-- the same, as those before the line's start and those since then
abbrev pub units_by_line : List ℕ → ℕ → Option ℕ
units_by_line text offset = option_map (λ at. units (take (start_at text offset) text) + at.unit) (place text offset)

-- where a line starts, and the next one or the text's end
abbrev pub line_range : List ℕ → ℕ → Option (ℕ × ℕ)
line_range text line = option_map (λ start. (start, unwrap_or (slice_get (line_starts text) (line + 1)) (length text))) (slice_get (line_starts text) line)
