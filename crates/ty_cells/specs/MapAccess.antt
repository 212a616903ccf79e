-- What a map of files tells: one answer for each of its paths.
use Rattle.std.specs.Prelude.{ℕ, List, [], ◌∷◌, map}
use Rattle.std.specs.String.{string_bytes}
use Rattle.std.specs.declared.string.String.{String}
use Rattle.std.specs.declared.alloc.Global.{Global}
use Rattle.ty_model.specs.Values.{Answer}
use Rattle.ty_model.specs.Disk.{Told, NothingElse}

-- the path of a file
abbrev pub path_of : String Global × Answer → List ℕ
path_of f = string_bytes f.0

-- a file as its path with one answer
abbrev pub one_answer : String Global × Answer → List ℕ × List Answer
one_answer f = (path_of f, f.1 ∷ [])

-- what a disk of these files tells: each file is the one answer of its path, and there is no other
abbrev pub told_by : List (String Global × Answer) → Told
told_by files = record { files = map one_answer files; rest = NothingElse }
