-- Where a path stands below a root.
use Rattle.std.specs.Prelude.{ℕ, Bool, true, false, if◌then◌else◌, List, [], ◌∷◌, ◌++◌, Option, Some, None, IsSome, Result, Ok, Err, ◌&&◌}
use Rattle.std.specs.Str.{bytes_eq}
use Rattle.ty_model.specs.Paths.{Component, Normal, components, cleaned, after_front, clean, text_of, is_absolute, has_nul, virtual_path, PathRefusal, Escapes, BadByte}

-- these components lead down: there is none, or a name comes first
abbrev pub leads_down : List Component → Bool
leads_down [] = true
leads_down (Normal name ∷ cs) = true
leads_down cs = false

-- these components, where they lead down
abbrev pub only_down : Option (List Component) → Option (List Component)
only_down None = None
only_down (Some cs) = if leads_down cs then Some cs else None

-- what follows all of a root's components in those of a path, both cleaned, where it leads down
abbrev pub way_down : List ℕ → List ℕ → Option (List Component)
way_down root path = only_down (after_front (cleaned (components root)) (cleaned (components path)))

-- the path stands below the root, or is the root
abbrev pub IsBelow : List ℕ → List ℕ → Type 0
IsBelow root path = IsSome (way_down root path)

-- ---- virtual paths

-- a clean text that begins with a slash, as each virtual path is
abbrev pub is_virtual : List ℕ → Bool
is_virtual text = is_absolute text && bytes_eq (clean text) text

-- the components as a virtual path; there is none where they do not lead down
abbrev pub way_as_text : Option (List Component) → Result (List ℕ) PathRefusal
way_as_text None = Err Escapes
way_as_text (Some cs) = Ok (47 ∷ text_of cs)

-- the virtual path of a path below a root, or why it has none
abbrev pub virtualized : List ℕ → List ℕ → Result (List ℕ) PathRefusal
virtualized root path = if has_nul path then Err BadByte else way_as_text (way_down root path)

-- a text after a virtual path, with a slash between
abbrev pub joined_path : List ℕ → List ℕ → Result (List ℕ) PathRefusal
joined_path vpath text = virtual_path (vpath ++ 47 ∷ text)
