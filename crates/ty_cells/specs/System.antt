-- What a read of a file of the system says of its path.
use Rattle.std.specs.Prelude.{ℕ, List, None, Result, Ok, Err}
use Rattle.std.specs.IoError.{error_kind}
use Rattle.std.specs.declared.io.Error.{Error}
use Rattle.std.specs.declared.io.ErrorKind.{ErrorKind}
use Rattle.std.specs.declared.io.ErrorKind.TheVariants as kind
use Rattle.ty_model.specs.Values.{Answer, Content, Refused, Refusal, NotFound, AccessDenied, IsDirectory, Other}

-- a missing file, a file that may not be read, a folder, and all else, as a path below a file
abbrev pub refusal_of_kind : List ℕ → ErrorKind → Refusal
refusal_of_kind path kind.NotFound = NotFound path
refusal_of_kind path kind.PermissionDenied = AccessDenied
refusal_of_kind path kind.IsADirectory = IsDirectory
refusal_of_kind path _ = Other None

-- the bytes that were read, or why the read failed
abbrev pub answer_of_read : List ℕ → Result (List ℕ) Error → Answer
answer_of_read path (Ok bytes) = Content bytes
answer_of_read path (Err error) = Refused (refusal_of_kind path (error_kind error))
