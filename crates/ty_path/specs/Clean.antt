-- The parts of a clean path.
use Rattle.std.specs.Prelude.{ℕ, ◌==◌, Bool, true, false, not, ◌&&◌, List, [], ◌∷◌, if◌then◌else◌, Option, Some, None}
use Rattle.std.specs.List.{list_all}
use Rattle.std.specs.Str.{bytes_eq}
use Rattle.ty_model.specs.Paths.{dot, dot_dot, counts, parts_at, clean}
use Rattle.ty_path.specs.declared.pass.Part.{Part}
use Rattle.ty_path.specs.declared.pass.Part.TheVariants.{Empty, Dot, DotDot, Name}

-- these parts can end a clean path: names, and where `ups` says so any number of .. before them
abbrev pub are_clean : Bool → List (List ℕ) → Bool
are_clean ups [] = true
are_clean ups (part ∷ parts) = if bytes_eq part dot_dot then ups && are_clean true parts else counts part && are_clean false parts

-- a part that isn't empty and doesn't begin with .
abbrev pub begins_plain : List ℕ → Bool
begins_plain [] = false
begins_plain (b ∷ bs) = not (b == 46)

-- each part of a text is one of these
abbrev pub are_plain : List ℕ → Bool
are_plain text = list_all begins_plain (parts_at 47 text)

-- the path, where it is its own cleaned form
abbrev pub if_clean : List ℕ → Option (List ℕ)
if_clean path = if bytes_eq path (clean path) then Some path else None

-- which part a text is
abbrev pub part_of : List ℕ → Part
part_of text =
    if bytes_eq text [] then Empty
    else if bytes_eq text dot then Dot
    else if bytes_eq text dot_dot then DotDot
    else Name
