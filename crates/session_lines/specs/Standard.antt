-- What a call of the library says as a step of a source or a sink.
use Rattle.std.specs.Prelude.{ℕ, Result, Ok, Err}
use Rattle.std.specs.declared.io.Error.{Error}
use Rattle.session_lines.specs.declared.source.ReadStep.{ReadStep}
use Rattle.session_lines.specs.declared.source.ReadStep.TheVariants as read
use Rattle.session_lines.specs.declared.sink.WriteStep.{WriteStep}
use Rattle.session_lines.specs.declared.sink.WriteStep.TheVariants as wrote
use Rattle.session_lines.specs.declared.sink.FlushStep.{FlushStep}
use Rattle.session_lines.specs.declared.sink.FlushStep.TheVariants as flush

-- so many bytes were read, or the read failed
abbrev pub step_of_read : Result ℕ Error → ReadStep
step_of_read (Ok n) = read.Got n
step_of_read (Err error) = read.Failed

-- so many bytes were taken, or the write failed
abbrev pub step_of_write : Result ℕ Error → WriteStep
step_of_write (Ok n) = wrote.Took n
step_of_write (Err error) = wrote.Failed

-- all has gone on, or the flush failed
abbrev pub step_of_flush : Result (Unit {0}) Error → FlushStep
step_of_flush (Ok done) = flush.Done
step_of_flush (Err error) = flush.Failed
