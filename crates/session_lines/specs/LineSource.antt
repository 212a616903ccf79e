-- What one read of a source gives, the cause of a failure, and how much was taken.
use Rattle.std.specs.Prelude.{◌≡◌, ℕ, ◌+◌, ◌<◌, ◌≤◌, List, length, take, drop, Option, Some, ⊤}
use Rattle.std.specs.Io.KnownBytes.{prepend_known, IsAtEnd}
use Rattle.ty_model.specs.Faults.{Rose}
use Rattle.session_lines.specs.declared.source.ReadStep.{ReadStep}
use Rattle.session_lines.specs.declared.source.ReadStep.TheVariants.{Got, End, Failed}

-- what a source shows: the bytes that it has left, where it tells them, and how often it has failed
pub record SourceSeen : Type 0 where
  pub left : Option (List ℕ)
  pub faults : ℕ

-- bytes that are got are the next of those that are left, at the start of the buffer; the end comes only where none is left
abbrev pub Reads : Option (List ℕ) → Option (List ℕ) → ReadStep → List ℕ → List ℕ → Type 0
Reads old new (Got n) buffer after = (n ≤ length after) × (old ≡ prepend_known (take n after) new) × (drop n after ≡ drop n buffer) × (n ≡ 0 → 0 < length after → IsAtEnd new)
Reads old new End buffer after = (old ≡ new) × IsAtEnd new
Reads old new Failed buffer after = old ≡ new

-- the read failed
abbrev pub IsFailedRead : ReadStep → Type 0
IsFailedRead Failed = ⊤
IsFailedRead (Got n) = ⊥
IsFailedRead End = ⊥

-- a count never falls, and this happened only where it rose
pub record HasCause (happened : Type 0) (before now : ℕ) : Type 0 where
  pub later : before ≤ now
  pub cause : happened → Rose before now

-- of this input no more than so many bytes were taken
pub record TakenWithin (most : ℕ) (input : List ℕ) (left : Option (List ℕ)) : Type 0 where
  pub rest : List ℕ
  pub left_is : left ≡ Some rest
  pub within : length input ≤ length rest + most
