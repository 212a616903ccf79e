-- Shared paths looked up by a text that nobody shares.
use Rattle.std.specs.Prelude.{ℕ, List, Bool}
use Rattle.std.specs.Ordering.{nat_cmp, is_eq}
use Rattle.std.specs.Cmp.Lexicographic.{slice_cmp}
use Rattle.std.specs.declared.sync.Arc.{Arc}
use Rattle.std.specs.declared.string.String.{String}
use Rattle.std.specs.declared.alloc.Global.{Global}
use Rattle.ty_path.specs.Shared.{path_text}

-- whether a path has this text
abbrev pub is_text : List ℕ → Arc (String Global) Global → Bool
is_text text path = is_eq (slice_cmp nat_cmp text (path_text path))

-- whether a clean path, seen as its text, has this one
abbrev pub has_text : List ℕ → List ℕ → Bool
has_text text path = is_eq (slice_cmp nat_cmp text path)
