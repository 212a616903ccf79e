-- The table of a text: each line's start with the UTF-16 code units before it.
use Rattle.std.specs.Prelude.{ℕ, ◌+◌, ◌-◌, List, map, take}
use Rattle.ty_syntax.specs.declared.lines.LineStart.{LineStart}
use Rattle.ty_syntax.specs.Text.{units}
use Rattle.ty_syntax.specs.Lines.{line_starts}

-- the start of a line, with the UTF-16 code units before it
abbrev pub entry : List ℕ → ℕ → LineStart
entry text start = record { byte = start; utf16 = units (take start text) }

-- the starts of all lines, each with the units before it
abbrev pub table : List ℕ → List LineStart
table text = map (entry text) (line_starts text)

-- where a start after one offset stands once that offset has moved to another
abbrev pub moved : LineStart → LineStart → LineStart → LineStart
moved was now start = record { byte = start.byte - was.byte + now.byte; utf16 = start.utf16 - was.utf16 + now.utf16 }
