-- What a disk with one file tells.
use Rattle.std.specs.Prelude.{ℕ, List, [], ◌∷◌}
use Rattle.ty_model.specs.Values.{Answer}
use Rattle.ty_model.specs.Disk.{Told, NothingElse}

-- a disk that says this of one path, and has nothing else
abbrev pub one_file : List ℕ → Answer → Told
one_file path answer = record { files = (path, answer ∷ []) ∷ []; rest = NothingElse }
