-- The kind that an `ErrKind` stands for.
use Rattle.std.specs.Prelude.{string_bytes}
use Rattle.tinymist_std.specs.Error.{Kind, untold, message, report, no_memory, plain, wrapping}
use Rattle.tinymist_std.specs.Diagnostic.{report_of}
use Rattle.tinymist_std.specs.declared.error.ErrKind.{ErrKind}
use Rattle.tinymist_std.specs.declared.error.ErrKind.TheVariants.{None, Msg, Diag, Inner, OutOfMemory}

-- a kind as plain data
abbrev pub kind_of : ErrKind → Kind
kind_of None = plain untold
kind_of (Msg text) = plain (message (string_bytes text))
kind_of (Diag d) = plain (report (report_of d.value))
kind_of (Inner e) = wrapping e.value
kind_of OutOfMemory = plain no_memory
