-- A locked file.
use Rattle.std.specs.Prelude.{◌≡◌, ◌≢◌, ℕ, Bool, true, false, List, Result, Ok, Err, string_bytes}
use Rattle.std.specs.IoError.{error_kind}
use Rattle.std.specs.declared.io.Error.{Error as IoError}
use Rattle.std.specs.declared.io.ErrorKind.TheVariants.{Unsupported}
use Rattle.std.specs.declared.fs.TryLockError.{TryLockError}
use Rattle.std.specs.declared.fs.TryLockError.TheVariants.{Error, WouldBlock}
use Rattle.std.specs.declared.fs.File.{File}
use Rattle.tinymist_std.specs.declared.file_lock.FileLock.{FileLock}

-- the open file
abbrev pub lock_file : FileLock → File
lock_file l = l.file

-- its path
abbrev pub lock_path : FileLock → List ℕ
lock_path l = string_bytes l.path

-- a lock was waited for; a file system without locks goes on, and another failure stays
abbrev pub IsWaited : Result (Unit {0}) IoError → Result (Unit {0}) IoError → Type 0
IsWaited (Ok u) answer = answer ≡ Ok tt
IsWaited (Err e) answer = (error_kind e ≡ Unsupported → answer ≡ Ok tt)
    × (error_kind e ≢ Unsupported → answer ≡ Err e)

-- a lock is taken, or another holds it; a file system without locks goes on, and another failure stays
abbrev pub IsTaken : Result (Unit {0}) TryLockError → Result Bool IoError → Type 0
IsTaken (Ok u) answer = answer ≡ Ok true
IsTaken (Err WouldBlock) answer = answer ≡ Ok false
IsTaken (Err (Error e)) answer = (error_kind e ≡ Unsupported → answer ≡ Ok true)
    × (error_kind e ≢ Unsupported → answer ≡ Err e)
