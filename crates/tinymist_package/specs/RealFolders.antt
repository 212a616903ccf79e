-- What the system says of a path, where links aren't followed.
use Rattle.std.specs.Prelude.{◌==◌, ⊤, if◌then◌else◌, Result, Ok, Err}
use Rattle.std.specs.IoError.{error_kind}
use Rattle.std.specs.declared.io.Error.{Error}
use Rattle.std.specs.declared.io.ErrorKind.{ErrorKind}
use Rattle.std.specs.declared.io.ErrorKind.TheVariants as kind
use Rattle.std.specs.declared.fs.FileType.{FileType}
use Rattle.tinymist_package.specs.declared.folders.FolderAnswer.{FolderAnswer}
use Rattle.tinymist_package.specs.declared.folders.FolderAnswer.TheVariants as answer
use Rattle.tinymist_package.specs.declared.folders.real.Standing.{Standing}
use Rattle.tinymist_package.specs.declared.folders.real.Standing.TheVariants.{Folder, File, Other, Missing}

-- a folder, a file, or something else, as a link
abbrev pub standing_of_type : FileType → Standing
standing_of_type t = if t.bits == 0o040000 then Folder else if t.bits == 0o100000 then File else Other

-- nothing is there, and neither is anything below a file; all else is a failure
abbrev pub standing_of_kind : ErrorKind → Result Standing ErrorKind
standing_of_kind kind.NotFound = Ok Missing
standing_of_kind kind.NotADirectory = Ok Missing
standing_of_kind k = Err k

-- what stands at a path, by what the system says of it
abbrev pub standing_of : Result FileType Error → Result Standing ErrorKind
standing_of (Ok t) = Ok (standing_of_type t)
standing_of (Err error) = standing_of_kind (error_kind error)

-- out of memory is no fault, and each other error is one
abbrev pub IsRefusal : {T : Type 0} → ErrorKind → FolderAnswer T → Type 0
IsRefusal kind.OutOfMemory (answer.Done x) = ⊥
IsRefusal kind.OutOfMemory answer.Failed = ⊥
IsRefusal kind.OutOfMemory answer.OutOfMemory = ⊤
IsRefusal k (answer.Done x) = ⊥
IsRefusal k answer.Failed = ⊤
IsRefusal k answer.OutOfMemory = ⊥
