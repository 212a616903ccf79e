-- An ask of a disk, by what the disk tells before and after.
use Rattle.std.specs.Prelude.{◌≡◌, ◌↔◌, ⊤, IsTrue, ℕ, Bool, if◌then◌else◌, List, [], ◌∷◌, Option, Some, None, Result, Ok, Err}
use Rattle.std.specs.Str.{bytes_eq}
use Rattle.ty_model.specs.Values.{Answer}
use Rattle.ty_model.specs.Disk.{Told, Rest, AllDenied, IsFixed, rest_says, answer_of, after_ask}
use Rattle.ty_path.specs.declared.memory.OutOfMemory.{OutOfMemory}

-- a disk that tells answers as told; out of memory drops no answer, and what is untold stays untold
abbrev pub AnswersAsTold : Option Told → List ℕ → Result Answer OutOfMemory → Option Told → Type 0
AnswersAsTold None path result after = after ≡ None
AnswersAsTold (Some told) path (Ok answer) after = (answer ≡ answer_of told path) × (after ≡ Some (after_ask told path))
AnswersAsTold (Some told) path (Err wanting) after = after ≡ Some told

-- the answers of a path that are still to come; a path that isn't listed has the one of the rest
abbrev pub answers_in : List (List ℕ × List Answer) → Rest → List ℕ → List Answer
answers_in [] rest path = rest_says rest path ∷ []
answers_in (f ∷ fs) rest path = if bytes_eq f.0 path then f.1 else answers_in fs rest path

-- the answers of a path that are still to come, on a disk
abbrev pub answers_at : Told → List ℕ → List Answer
answers_at told path = answers_in told.files told.rest path

-- a disk that tells holds an answer exactly where the path has this one alone
abbrev pub HoldsAsTold : Option Told → List ℕ → Answer → Bool → Type 0
HoldsAsTold None path answer holds = ⊤
HoldsAsTold (Some told) path answer holds = IsTrue holds ↔ (answers_at told path ≡ answer ∷ [])

-- a disk that denies every path
abbrev pub all_denied : Told
all_denied = record { files = []; rest = AllDenied }

-- a disk that tells, with one fixed answer for each path
abbrev pub TellsFixed : Option Told → Type 0
TellsFixed None = ⊥
TellsFixed (Some told) = IsFixed told
