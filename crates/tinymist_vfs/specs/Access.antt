-- What a model of files by ids answers, and the disk that it leaves.
use Rattle.std.specs.Prelude.{◌≡◌, ◌⊎◌, ℕ, List, Option, Some, None, Result, Ok, Err}
use Rattle.std.specs.Option.{option_map}
use Rattle.ty_model.specs.Values.{Answer, Content, Refused, Refusal, AccessDenied}
use Rattle.ty_model.specs.Places.{Place, At, Rootless, RefusedAt}
use Rattle.ty_model.specs.Disk.{Told, answer_of, after_ask}
use Rattle.ty_path.specs.Shared.{path_text}
use Rattle.ty_syntax.specs.Error.{refusal_of}
use Rattle.ty_syntax.specs.declared.error.FileFault.{FileFault}
use Rattle.ty_syntax.specs.declared.error.FileFault.TheVariants.{File, OutOfMemory}
use Rattle.tinymist_vfs.specs.Maps.{Path}

-- a path, where one was resolved, and an answer
abbrev pub Found : Type 0
Found = Option (List ℕ) × Answer

-- the result by what is given over a disk that is told; where memory was wanting, the disk may have been asked
abbrev pub AnswersOver : (Told → Found → Told → Type 0) → Option Told → Option Path × Result (List ℕ) FileFault → Option Told → Type 0
AnswersOver gives None result after = after ≡ None
AnswersOver gives (Some told) (path, Ok bytes) after = (left : Told) × (after ≡ Some left) × gives told (option_map path_text path, Content bytes) left
AnswersOver gives (Some told) (path, Err (File error)) after = (left : Told) × (after ≡ Some left) × gives told (option_map path_text path, Refused (refusal_of error)) left
AnswersOver gives (Some told) (path, Err OutOfMemory) after = (after ≡ Some told) ⊎ ((found : Found) × (left : Told) × (after ≡ Some left) × gives told found left)

-- the path of a place, or why there is none
abbrev pub path_at : Place → Result (List ℕ) Refusal
path_at (At path) = Ok path
path_at Rootless = Err AccessDenied
path_at (RefusedAt refusal) = Err refusal

-- a path is asked of the disk
abbrev pub Asked : Result (List ℕ) Refusal → Told → Found → Told → Type 0
Asked (Ok path) told found left = (found ≡ (Some path, answer_of told path)) × (left ≡ after_ask told path)
Asked (Err refusal) told found left = (found ≡ (None, Refused refusal)) × (left ≡ told)

-- a file that comes first has no path, and else the inner model is asked
abbrev pub Shadowed : Option Answer → (Told → Found → Told → Type 0) → Told → Found → Told → Type 0
Shadowed (Some shadow) inner told found left = (found ≡ (None, shadow)) × (left ≡ told)
Shadowed None inner told found left = inner told found left
