-- A batch of changes, and its commit.
use Rattle.std.specs.Prelude.{ℕ, ◌+◌, ◌&&◌, ◌||◌, Bool, true, false, if◌then◌else◌, not, List, [], ◌∷◌}
use Rattle.std.specs.Str.{bytes_eq}
use Rattle.std.specs.List.{list_any}
use Rattle.std.specs.FinMap as map
use Rattle.ty_model.specs.Values.{Id, Answer, text_cmp, same_answer}
use Rattle.ty_model.specs.Places.{Resolver}
use Rattle.ty_model.specs.Version.{Stamp, Layers, Version, same_stamp, same_id}

-- what a batch gathers
pub data Item : Type 0 where
  MapPath : (path : List ℕ) (answer : Answer) → Item
  UnmapPath : (path : List ℕ) → Item
  MapId : (id : Id) (answer : Answer) → Item
  UnmapId : (id : Id) → Item
  Clear : Item
  ChangeSet : (removes : List (List ℕ)) (inserts : List (List ℕ × Answer)) → Item
  ChangeView : Item

-- these paths with this drop stamp
abbrev pub dropped : Stamp → map.FinMap text_cmp Stamp → List (List ℕ) → map.FinMap text_cmp Stamp
dropped stamp m [] = m
dropped stamp m (path ∷ paths) = dropped stamp (map.insert m path stamp) paths

-- the told files without these paths
abbrev pub removed : map.FinMap text_cmp Answer → List (List ℕ) → map.FinMap text_cmp Answer
removed m [] = m
removed m (path ∷ paths) = removed (map.remove m path) paths

-- the told files with these, of which the last of a path stands
abbrev pub inserted : map.FinMap text_cmp Answer → List (List ℕ × Answer) → map.FinMap text_cmp Answer
inserted m [] = m
inserted m (f ∷ fs) = inserted (map.insert m f.0 f.1) fs

-- one item, where the stamp is that of the commit
abbrev pub applied : Stamp → Layers → Item → Layers
applied stamp l (MapPath path answer) = record l { by_path = map.insert l.by_path path answer }
applied stamp l (UnmapPath path) = record l { by_path = map.remove l.by_path path; drops = map.insert l.drops path stamp }
applied stamp l (MapId id answer) = record l { by_id = map.insert l.by_id id answer }
applied stamp l (UnmapId id) = record l { by_id = map.remove l.by_id id }
applied stamp l Clear = record l { by_id = map.empty; by_path = map.empty; drops = dropped stamp l.drops (map.keys l.by_path) }
applied stamp l (ChangeSet removes inserts) = record l { told = inserted (removed l.told removes) inserts; drops = dropped stamp l.drops removes }
applied stamp l ChangeView = l

-- all items in their order
abbrev pub applied_all : Stamp → Layers → List Item → Layers
applied_all stamp l [] = l
applied_all stamp l (item ∷ items) = applied_all stamp (applied stamp l item) items

-- the item is a change of view
abbrev pub is_view : Item → Bool
is_view ChangeView = true
is_view item = false

-- some item is a change of view
abbrev pub changes_view : List Item → Bool
changes_view items = list_any is_view items

-- two lists of entries are the same
abbrev pub same_entries : {K X : Type 0} → (K → K → Bool) → (X → X → Bool) → List (K × X) → List (K × X) → Bool
same_entries key value [] [] = true
same_entries key value [] (f ∷ fs) = false
same_entries key value (e ∷ es) [] = false
same_entries key value (e ∷ es) (f ∷ fs) = key e.0 f.0 && value e.1 f.1 && same_entries key value es fs

-- old and new hold the same layers
abbrev pub same_layers : Layers → Layers → Bool
same_layers old new =
    same_entries same_id same_answer (map.entries new.by_id) (map.entries old.by_id)
    && same_entries bytes_eq same_answer (map.entries new.by_path) (map.entries old.by_path)
    && same_entries bytes_eq same_answer (map.entries new.told) (map.entries old.told)
    && same_entries bytes_eq same_stamp (map.entries new.drops) (map.entries old.drops)

-- the stamp of a commit or reset in a space: its number, and the revision that comes next
abbrev pub next_stamp : ℕ → ℕ → Stamp
next_stamp space revision = record { space = space; revision = revision + 1 }

-- the layers after the batch
abbrev pub staged : ℕ → ℕ → Layers → List Item → Layers
staged space revision l batch = applied_all (next_stamp space revision) l batch

-- a commit of the batch raises the revision
abbrev pub rises : ℕ → ℕ → Layers → List Item → Bool
rises space revision l batch = not (same_layers l (staged space revision l batch)) || changes_view batch

-- the version after a commit of the batch in the space
abbrev pub commit : ℕ → Version → List Item → Version
commit space v batch =
    if rises space v.revision v.layers batch then record v { layers = staged space v.revision v.layers batch; revision = v.revision + 1 } else v

-- the version after a reset, with this resolver
abbrev pub reset : ℕ → Version → Resolver → Version
reset space v resolver =
    record v { resolver = resolver; layers = record (v.layers) { drops = map.empty }; reset = next_stamp space v.revision; revision = v.revision + 1 }
