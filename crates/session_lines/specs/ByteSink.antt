-- What one write and one flush of a sink do.
use Rattle.std.specs.Prelude.{◌≡◌, ◌⊎◌, ℕ, ◌==◌, ◌<◌, ◌≤◌, if◌then◌else◌, Bool, true, false, List, length, take, Option, ⊤}
use Rattle.std.specs.Io.KnownBytes.{append_known}
use Rattle.ty_model.specs.Faults.{Rose}
use Rattle.session_lines.specs.declared.sink.WriteStep.{WriteStep}
use Rattle.session_lines.specs.declared.sink.WriteStep.TheVariants as wrote
use Rattle.session_lines.specs.declared.sink.FlushStep.{FlushStep}
use Rattle.session_lines.specs.declared.sink.FlushStep.TheVariants as flush

-- what a sink shows: the bytes that it has taken, where it tells them, how often it has failed, how often it has taken
-- nothing of a piece that isn't empty, and whether all that it took has gone on
pub record SinkSeen : Type 0 where
  pub taken : Option (List ℕ)
  pub faults : ℕ
  pub dry : ℕ
  pub flushed : Bool

-- a write takes a prefix of the piece, or nothing
abbrev pub Writes : Option (List ℕ) → Option (List ℕ) → WriteStep → List ℕ → Type 0
Writes old new (wrote.Took n) piece = (n ≤ length piece) × (new ≡ append_known old (take n piece))
Writes old new wrote.Failed piece = new ≡ old

-- the write failed
abbrev pub IsFailedWrite : WriteStep → Type 0
IsFailedWrite (wrote.Took n) = ⊥
IsFailedWrite wrote.Failed = ⊤

-- a dry take: nothing of a piece that isn't empty
abbrev pub IsDry : WriteStep → List ℕ → Type 0
IsDry (wrote.Took n) piece = (n ≡ 0) × (0 < length piece)
IsDry wrote.Failed piece = ⊥

-- a write of at least one byte leaves the sink unflushed
abbrev pub flushed_by_write : Bool → WriteStep → Bool
flushed_by_write old (wrote.Took n) = if n == 0 then old else false
flushed_by_write old wrote.Failed = old

-- whether all has gone on after a flush
abbrev pub flushed_by : Bool → FlushStep → Bool
flushed_by old flush.Done = true
flushed_by old flush.Failed = old

-- the flush failed
abbrev pub IsFailedFlush : FlushStep → Type 0
IsFailedFlush flush.Done = ⊥
IsFailedFlush flush.Failed = ⊤

-- some prefix of the piece was taken
abbrev pub TakesFront : Option (List ℕ) → Option (List ℕ) → List ℕ → Type 0
TakesFront old new piece = (n : ℕ) × (new ≡ append_known old (take n piece))

-- a failure or a dry take was counted
abbrev pub HasRefused : SinkSeen → SinkSeen → Type 0
HasRefused old new = Rose old.faults new.faults ⊎ Rose old.dry new.dry
