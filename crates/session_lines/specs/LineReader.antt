-- A reader of lines: the bytes that it has received and not read yet, and the line that it read last.
use Rattle.std.specs.Prelude.{◌≡◌, ℕ, ◌<◌, ◌≤◌, if◌then◌else◌, List, [], ◌∷◌, ◌++◌, length, slice_range, Option, Result, Ok, Err, ⊤}
use Rattle.std.specs.Io.KnownBytes.{prepend_known, IsAtEnd}
use Rattle.session_lines.specs.Lf.{IsLine}
use Rattle.session_lines.specs.declared.line_reader.LineReader.{LineReader}
use Rattle.session_lines.specs.declared.line_reader.Filled.{Filled}
use Rattle.session_lines.specs.declared.line_reader.Filled.TheVariants as filled
use Rattle.session_lines.specs.declared.line_reader.Part.{Part}
use Rattle.session_lines.specs.declared.line_reader.Part.TheVariants as part
use Rattle.session_lines.specs.declared.line_reader.LineRead.{LineRead}
use Rattle.session_lines.specs.declared.line_reader.LineRead.TheVariants.{Line, Last, End}
use Rattle.session_lines.specs.declared.line_reader.LineFault.{LineFault}
use Rattle.session_lines.specs.declared.line_reader.LineFault.TheVariants.{ReadFailed, FlushFailed, TooLong, OutOfMemory}

-- received and not read yet
abbrev pub held_of : LineReader → List ℕ
held_of r = slice_range r.piece.items r.from r.to

-- the line that was read last: in the piece, or gathered from several
abbrev pub line_of : LineReader → List ℕ
line_of r = if r.is_gathered then r.gathered.items else slice_range r.piece.items r.start r.end

-- what is to be read, where the source tells what it has left
abbrev pub ahead : LineReader → Option (List ℕ) → Option (List ℕ)
ahead r left = prepend_known (held_of r) left

-- one line was read of what was to be read before; `line` is that line, or a prefix of it where it is too long
abbrev pub ReadsLine : ℕ → Option (List ℕ) → Option (List ℕ) → List ℕ → Result LineRead LineFault → Type 0
ReadsLine max old new line (Ok Line) = (old ≡ prepend_known (line ++ 10 ∷ []) new) × IsLine line × (length line ≤ max)
ReadsLine max old new line (Ok Last) = (old ≡ prepend_known line new) × IsLine line × (length line ≤ max) × (0 < length line) × IsAtEnd new
ReadsLine max old new line (Ok End) = (old ≡ new) × IsAtEnd new
ReadsLine max old new line (Err TooLong) = (more : List ℕ) × (old ≡ prepend_known (line ++ more) new) × IsLine line × (max < length line)
ReadsLine max old new line (Err ReadFailed) = (old ≡ prepend_known line new) × IsLine line × (length line ≤ max)
ReadsLine max old new line (Err FlushFailed) = ⊤
ReadsLine max old new line (Err OutOfMemory) = ⊤

-- the piece was filled with the next bytes of the source
abbrev pub Fills : Option (List ℕ) → Option (List ℕ) → List ℕ → Filled → Type 0
Fills old new held filled.Some = (old ≡ prepend_known held new) × (0 < length held)
Fills old new held filled.End = (old ≡ new) × IsAtEnd new × (held ≡ [])
Fills old new held filled.ReadFailed = (old ≡ new) × (held ≡ [])
Fills old new held filled.FlushFailed = ⊤

-- a byte is to be read, or none is left
abbrev pub FindsByte : Option (List ℕ) → Option (List ℕ) → Filled → Type 0
FindsByte old new filled.Some = (more : List ℕ) × (rest : Option (List ℕ)) × (old ≡ prepend_known more rest) × (0 < length more)
FindsByte old new filled.End = (old ≡ new) × IsAtEnd new
FindsByte old new filled.ReadFailed = old ≡ new
FindsByte old new filled.FlushFailed = ⊤

-- what is held ends the line at its first LF, or goes on with the line
abbrev pub TakesPart : LineReader → LineReader → Part → Type 0
TakesPart old new part.Whole = (tail : List ℕ) × (held_of old ≡ tail ++ 10 ∷ held_of new) × IsLine tail × (line_of new ≡ old.gathered.items ++ tail)
TakesPart old new part.More = (new.gathered.items ≡ old.gathered.items ++ held_of old) × (held_of new ≡ []) × IsLine (held_of old) × (new.is_gathered ≡ old.is_gathered)
TakesPart old new part.End = ⊥

-- the same, of what is held and what the source has left
abbrev pub GoesOn : LineReader → LineReader → Option (List ℕ) → Option (List ℕ) → Result Part LineFault → Type 0
GoesOn old new left left' (Ok part.Whole) = (tail : List ℕ) × (ahead old left ≡ prepend_known (tail ++ 10 ∷ []) (ahead new left')) × IsLine tail × (line_of new ≡ old.gathered.items ++ tail)
GoesOn old new left left' (Ok part.More) = (more : List ℕ) × (ahead old left ≡ prepend_known more (ahead new left')) × IsLine more × (0 < length more) × (length more ≤ 65536) × (held_of new ≡ []) × (new.gathered.items ≡ old.gathered.items ++ more) × (new.is_gathered ≡ old.is_gathered)
GoesOn old new left left' (Ok part.End) = (ahead old left ≡ ahead new left') × IsAtEnd (ahead new left') × (new.gathered.items ≡ old.gathered.items) × (new.is_gathered ≡ old.is_gathered)
GoesOn old new left left' (Err OutOfMemory) = ⊤
GoesOn old new left left' (Err ReadFailed) = (ahead old left ≡ left') × (held_of new ≡ []) × (new.gathered.items ≡ old.gathered.items) × (new.is_gathered ≡ old.is_gathered)
GoesOn old new left left' (Err FlushFailed) = ⊤
GoesOn old new left left' (Err TooLong) = ⊥
