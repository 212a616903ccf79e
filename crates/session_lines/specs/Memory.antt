-- A source and a sink in memory: what they hold, and what their next call does.
use Rattle.std.specs.Prelude.{ℕ, ◌+◌, ◌-◌, ◌^◌, ◌==◌, if◌then◌else◌, min, nat_lt, Bool, true, false, List, [], ◌∷◌, ◌++◌, length, take, drop, ⊤, ◌≡◌}
use Rattle.std.specs.List.{list_any, list_all}
use Rattle.session_lines.specs.declared.source.ReadStep.{ReadStep}
use Rattle.session_lines.specs.declared.source.ReadStep.TheVariants.{Got, End, Failed}
use Rattle.session_lines.specs.declared.sink.WriteStep.{WriteStep}
use Rattle.session_lines.specs.declared.sink.WriteStep.TheVariants as wrote
use Rattle.session_lines.specs.declared.sink.FlushStep.{FlushStep}
use Rattle.session_lines.specs.declared.sink.FlushStep.TheVariants as flush
use Rattle.session_lines.specs.ByteSink.{flushed_by_write}

-- a count after one more, which stands still at its last value
abbrev pub counted : ℕ → ℕ
counted count = min (count + 1) (2 ^ 64 - 1)

-- the call after so many fails: its number, from 1 on, is listed
abbrev pub is_listed : List ℕ → ℕ → Bool
is_listed fails calls = list_any (λ n. n == counted calls) fails

-- each of these is at least 1
abbrev pub are_positive : List ℕ → Bool
are_positive numbers = list_all (λ n. nat_lt 0 n) numbers

-- the least of the next number and this one
abbrev pub at_most_next : List ℕ → ℕ → ℕ
at_most_next [] most = most
at_most_next (next ∷ later) most = min most next

-- the bytes that are left, the sizes of the next pieces, the calls that fail, and how many calls and faults there were
pub record SourceHolds : Type 0 where
  pub left : List ℕ
  pub sizes : List ℕ
  pub fails : List ℕ
  pub calls : ℕ
  pub faults : ℕ

-- what a read of so many bytes gives
abbrev pub read_by : List ℕ → List ℕ → ℕ → ReadStep
read_by [] sizes room = End
read_by (b ∷ bs) sizes room = Got (at_most_next sizes (min room (length (b ∷ bs))))

-- what the next read of a buffer of this length gives
abbrev pub next_read : SourceHolds → ℕ → ReadStep
next_read s room = if is_listed s.fails s.calls then Failed else read_by s.left s.sizes room

-- a piece is no longer left and has used up its size, and a failure is counted
abbrev pub after_read : SourceHolds → ReadStep → SourceHolds
after_read s (Got n) = record s { left = drop n s.left; sizes = drop 1 s.sizes }
after_read s End = s
after_read s Failed = record s { faults = counted s.faults }

-- the bytes that were taken, the most that the next writes take, the calls that fail, and the counts
pub record SinkHolds : Type 0 where
  pub taken : List ℕ
  pub most : List ℕ
  pub fails : List ℕ
  pub calls : ℕ
  pub faults : ℕ
  pub dry : ℕ
  pub flushed : Bool

-- a write takes as much as is let, and out of memory is a fault
abbrev pub WritesNext : SinkHolds → WriteStep → List ℕ → Type 0
WritesNext s (wrote.Took n) piece = (is_listed s.fails s.calls ≡ false) × (n ≡ at_most_next s.most (length piece))
WritesNext s wrote.Failed piece = ⊤

-- the count of dry takes after so many bytes of this piece were taken
abbrev pub dry_after : ℕ → ℕ → List ℕ → ℕ
dry_after dry n [] = dry
dry_after dry n (b ∷ bs) = if n == 0 then counted dry else dry

-- a take adds a prefix of the piece and has used up its number, and a failure is counted
abbrev pub after_write : SinkHolds → WriteStep → List ℕ → SinkHolds
after_write s (wrote.Took n) piece = record s { taken = s.taken ++ take n piece; most = drop 1 s.most; dry = dry_after s.dry n piece; flushed = flushed_by_write s.flushed (wrote.Took n) }
after_write s wrote.Failed piece = record s { faults = counted s.faults }

-- all that was taken has gone on, or a failure is counted
abbrev pub after_flush : SinkHolds → FlushStep → SinkHolds
after_flush s flush.Done = record s { flushed = true }
after_flush s flush.Failed = record s { faults = counted s.faults }
