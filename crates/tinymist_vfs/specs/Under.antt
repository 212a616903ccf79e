-- What a disk tells under some files that come first.
use Rattle.std.specs.Prelude.{ℕ, Bool, not, is_some, if◌then◌else◌, List, [], ◌∷◌, ◌++◌, map, filter, Option, Some, None}
use Rattle.std.specs.Option.{option_map}
use Rattle.std.specs.Str.{bytes_eq}
use Rattle.ty_model.specs.Values.{Answer}
use Rattle.ty_model.specs.Disk.{Told}
use Rattle.tinymist_vfs.specs.Maps.{Path}
use Rattle.tinymist_vfs.specs.Items.{file_of}

-- the file at a path, if there is one
abbrev pub file_at : List (List ℕ × Answer) → List ℕ → Option Answer
file_at [] path = None
file_at (f ∷ fs) path = if bytes_eq f.0 path then Some f.1 else file_at fs path

-- a file as its path with one answer
abbrev pub one_answer : List ℕ × Answer → List ℕ × List Answer
one_answer f = (f.0, f.1 ∷ [])

-- none of these files is at the path
abbrev pub has_none : List (List ℕ × Answer) → List ℕ → Bool
has_none files path = not (is_some (file_at files path))

-- each of these files as the one answer of its path, and every other path as the disk tells it
abbrev pub told_under : List (List ℕ × Answer) → Told → Told
told_under files disk = record { files = map one_answer files ++ filter (λ f. has_none files f.0) disk.files; rest = disk.rest }

-- the same of the entries of a map, over a disk that may tell nothing
abbrev pub tells_under : List (Path × Answer) → Option Told → Option Told
tells_under entries told = option_map (told_under (map file_of entries)) told
