-- A walk from a path up over its parents.
use Rattle.std.specs.Prelude.{◌≡◌, ℕ, Bool, false, List, Option, None, Some, if◌then◌else◌}
use Rattle.std.specs.Borrow.{Bor}
use Rattle.std.specs.Option.{option_and_then, option_copied}
use Rattle.std.specs.Ordering.{is_eq}
use Rattle.std.specs.Path.{path_cmp, path_parent}
use Rattle.std.specs.Path.Iter.{ancestors_next}
use Rattle.tinymist_std.specs.declared.path_ancestors.PathAncestors.{PathAncestors}

-- the path that comes next, if one does
abbrev pub path_next : PathAncestors → Option (List ℕ)
path_next w = if w.is_done then None else ancestors_next w.rest

-- the path after which the walk ends, if one was given
abbrev pub path_stop : PathAncestors → Option (List ℕ)
path_stop w = option_copied w.stop

-- the path has the components of the stop
abbrev pub is_stop : Option (List ℕ) → List ℕ → Bool
is_stop None path = false
is_stop (Some stop) path = is_eq (path_cmp path stop)

-- what comes after a path: its parent, and nothing after the stop
abbrev pub path_after : Option (List ℕ) → List ℕ → Option (List ℕ)
path_after stop path = if is_stop stop path then None else path_parent path

-- a step gives the path that comes next, and then what comes after it does; after none comes none
pub record StepsUp (old : PathAncestors) (item : Option (Bor (List ℕ))) (new : PathAncestors) : Type 0 where
  pub item_is : option_copied item ≡ path_next old
  pub next_is : path_next new ≡ option_and_then (path_after (path_stop old)) (path_next old)
  pub stop_stays : path_stop new ≡ path_stop old
