-- A version: its layers, its stamps and its resolver.
use Rattle.std.specs.Prelude.{ℕ, ◌==◌, ◌&&◌, Bool}
use Rattle.std.specs.Ordering.{is_eq}
use Rattle.std.specs.FinMap as map
use Rattle.ty_model.specs.Values.{Id, Answer, id_cmp, text_cmp}
use Rattle.ty_model.specs.Places.{Resolver}

-- when a path was dropped, or all was: the number of the space that did it, and the revision
pub record Stamp : Type 0 where
  pub space : ℕ
  pub revision : ℕ

-- the layers that a commit changes
pub record Layers : Type 0 where
  pub by_id : map.FinMap id_cmp Answer
  pub by_path : map.FinMap text_cmp Answer
  pub told : map.FinMap text_cmp Answer
  pub drops : map.FinMap text_cmp Stamp

-- all that a space holds at a revision
pub record Version : Type 0 where
  pub revision : ℕ
  pub layers : Layers
  pub reset : Stamp
  pub resolver : Resolver

-- two stamps are the same
abbrev pub same_stamp : Stamp → Stamp → Bool
same_stamp a b = (a.space == b.space) && (a.revision == b.revision)

-- two ids are the same
abbrev pub same_id : Id → Id → Bool
same_id a b = is_eq (id_cmp a b)

-- layers with nothing in them
abbrev pub no_layers : Layers
no_layers = record { by_id = map.empty; by_path = map.empty; told = map.empty; drops = map.empty }

-- a new version
abbrev pub first_version : ℕ → Resolver → Version
first_version space resolver = record { revision = 2; layers = no_layers; reset = record { space = space; revision = 2 }; resolver = resolver }

-- the first version of a fork
abbrev pub forked : ℕ → Version → Version
forked space v = record v { revision = 2; layers = record (v.layers) { drops = map.empty }; reset = record { space = space; revision = 2 } }
