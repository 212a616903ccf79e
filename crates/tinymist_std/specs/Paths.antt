-- Failures of calls on files, and paths as one text.
use Rattle.std.specs.Prelude.{◌≡◌, ◌≢◌, ◌⊎◌, ℕ, ◌==◌, Bool, IsTrue, List, [], ◌∷◌, ◌++◌, Option, Some, None, IfSome, IsSomeAnd, Result, Ok, Err, codes, decimal, string_bytes}
use Rattle.std.specs.IoError.{error_kind}
use Rattle.std.specs.declared.io.Error.{Error as IoError}
use Rattle.std.specs.declared.io.ErrorKind.TheVariants.{NotFound}
use Rattle.std.specs.declared.string.String.{String}
use Rattle.std.specs.declared.alloc.Global.{Global}
use Rattle.std.specs.List.{join_by, list_any}
use Rattle.std.specs.Path.{path_file_name, path_parent}
use Rattle.ty_model.specs.Paths.{is_name, join}
use Rattle.tinymist_std.specs.Error.{Arguments, Failure, plain, untold}
use Rattle.tinymist_std.specs.Context.{HasArguments, UnlessMemory}

-- the arguments are the path and then the system's reason
abbrev pub NamesPath : List ℕ → Option Arguments → Type 0
NamesPath path arguments = IsSomeAnd arguments (λ xs. (reason : List ℕ)
    × (xs ≡ (codes "path", path) ∷ (codes "error", reason) ∷ []))

-- an error of a call at a path: it names both, or memory ran out
pub record IsFileFault (call path : List ℕ) (e : Failure) : Type 0 where
  pub place_is : e.place ≡ call
  pub kind_is : UnlessMemory e.kind (e.kind ≡ plain untold)
  pub arguments_are : HasArguments (NamesPath path) e

-- the arguments are the path and what a cause prints, where that is told
abbrev pub TellsCause : List ℕ → Option (List ℕ) → Failure → Type 0
TellsCause path printed e = IfSome printed (λ reason.
    HasArguments (λ a. a ≡ Some ((codes "path", path) ∷ (codes "error", reason) ∷ [])) e)

-- the arguments are both paths of a copy and then the system's reason
abbrev pub NamesBoth : List ℕ → List ℕ → Option Arguments → Type 0
NamesBoth from to arguments = IsSomeAnd arguments (λ xs. (reason : List ℕ)
    × (xs ≡ (codes "from", from) ∷ (codes "to", to) ∷ (codes "error", reason) ∷ []))

-- an error of a copy: it names both paths, or memory ran out
pub record IsCopyFault (call from to : List ℕ) (e : Failure) : Type 0 where
  pub place_is : e.place ≡ call
  pub kind_is : UnlessMemory e.kind (e.kind ≡ plain untold)
  pub arguments_are : HasArguments (NamesBoth from to) e

-- the arguments are the path, an entry beside it and then the system's reason
abbrev pub NamesEntry : List ℕ → List ℕ → Option Arguments → Type 0
NamesEntry path entry arguments = IsSomeAnd arguments (λ xs. (reason : List ℕ)
    × (xs ≡ (codes "path", path) ∷ (codes "entry", entry) ∷ (codes "error", reason) ∷ []))

-- an error of a call at a path that failed at an entry beside it: it names both, or memory ran out
pub record IsEntryFault (call path entry : List ℕ) (e : Failure) : Type 0 where
  pub place_is : e.place ≡ call
  pub kind_is : UnlessMemory e.kind (e.kind ≡ plain untold)
  pub arguments_are : HasArguments (NamesEntry path entry) e

-- what was read is present; where the system calls it missing, nothing is
abbrev pub IsPresent : {T : Type 0} → Result T IoError → Result (Option T) IoError → Type 0
IsPresent (Ok x) answer = answer ≡ Ok (Some x)
IsPresent (Err e) answer = (error_kind e ≡ NotFound → answer ≡ Ok None) × (error_kind e ≢ NotFound → answer ≡ Err e)

-- the text has a slash
abbrev pub has_slash : List ℕ → Bool
has_slash text = list_any (λ b. b == 47) text

-- the text has a `:`
abbrev pub has_colon : List ℕ → Bool
has_colon text = list_any (λ b. b == 58) text

-- a path has a `:`
abbrev pub any_has_colon : List (String Global) → Bool
any_has_colon paths = list_any (λ path. has_colon (string_bytes path)) paths

-- the paths with `:` between
abbrev pub joined_paths : List (String Global) → List ℕ
joined_paths paths = join_by string_bytes (codes ":") paths

-- the arguments that name a variable and say why its paths aren't joined
abbrev pub separator_arguments : List ℕ → Arguments
separator_arguments env = (codes "env", env) ∷ (codes "error", codes "path segment contains separator `:`") ∷ []

-- a path is that of a name of one component in a folder
abbrev pub StandsIn : List ℕ → List ℕ → Type 0
StandsIn folder path = (name : List ℕ) × IsTrue (is_name name) × (path ≡ join folder name)

-- the path has no parent or no name
abbrev pub IsNameless : List ℕ → Type 0
IsNameless path = (path_parent path ≡ None) ⊎ (path_file_name path ≡ None)

-- the name of a temporary: its number, a part that other runs don't share, and the name that it carries
abbrev pub temporary_name : ℕ → ℕ → List ℕ → List ℕ
temporary_name number unique carried =
    codes ".tmp" ++ (decimal number ++ (codes "-" ++ (decimal unique ++ (codes "-" ++ carried))))

-- a folder as the system reads it: an empty path is the folder in which the program runs
abbrev pub readable_folder : List ℕ → List ℕ
readable_folder [] = codes "."
readable_folder (b ∷ path) = b ∷ path
