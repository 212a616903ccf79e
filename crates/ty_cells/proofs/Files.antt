-- The file at an index decides, or those after it do.
use Rattle.std.proofs.Common.{◌≡◌, ℕ, ◌+◌, ◌<◌, true, false, List, [], ◌∷◌, map, refl, length, drop, get_or, sym, ap, add-one, drop-cons, Some, Result, Ok, Err}
use Rattle.std.specs.Prelude.{IfOk}
use Rattle.std.specs.Str.{bytes_eq}
use Rattle.std.specs.declared.string.String.{String}
use Rattle.std.specs.declared.alloc.Global.{Global}
use Rattle.std.specs.List.{AllByRecursion}
use Rattle.ty_model.specs.Values.{Answer}
use Rattle.ty_path.specs.declared.memory.OutOfMemory.{OutOfMemory}
use Rattle.ty_model.specs.Disk.{Told, answer_of, IsFixed}
use Rattle.ty_model.proofs.DiskLaws.{fixed_stays}
use Rattle.ty_cells.specs.Disk.{AnswersAsTold}
use Rattle.ty_cells.specs.MapAccess.{path_of, one_answer, told_by}

module _ (files : List (String Global × Answer)) (i : ℕ) (f : String Global × Answer) (path : List ℕ) (within : i < length files) (is : f ≡ get_or files i f) where
  from_here : drop i files ≡ f ∷ drop (i + 1) files
  from_here = rw (add-one, drop-cons files i f, ← is) refl

  pub decides : bytes_eq (path_of f) path ≡ true → answer_of (told_by (drop i files)) path ≡ f.1
  decides e = rw (from_here, e)

  pub passes : bytes_eq (path_of f) path ≡ false → answer_of (told_by (drop i files)) path ≡ answer_of (told_by (drop (i + 1) files)) path
  passes e = rw (from_here, e)

one_each : (files : List (String Global × Answer)) → AllByRecursion (λ (f : List ℕ × List Answer). length f.1 ≡ 1) (map one_answer files)
one_each [] = tt
one_each (f ∷ fs) = (refl, one_each fs)

-- a map of files is a fixed disk
pub map_is_fixed : (files : List (String Global × Answer)) → IsFixed (told_by files)
map_is_fixed files = one_each files

-- an answer of a fixed disk leaves it as it was
pub answers_fixed : (told : Told) (path : List ℕ) (r : Result Answer OutOfMemory) → IsFixed told → IfOk r (λ answer. answer ≡ answer_of told path) → AnswersAsTold (Some told) path r (Some told)
answers_fixed told path (Ok answer) fixed is = (is, ap Some (sym (fixed_stays told path fixed)))
answers_fixed told path (Err wanting) fixed is = refl
