-- The items of a batch as plain data.
use Rattle.std.specs.Prelude.{ℕ, Bool, if◌then◌else◌, List, [], ◌∷◌, ◌++◌, map}
use Rattle.ty_model.specs.Values.{Answer}
use Rattle.ty_model.specs.Paths.{clean}
use Rattle.ty_model.specs.Batch as change
use Rattle.ty_path.specs.Shared.{path_text}
use Rattle.tinymist_vfs.specs.Maps.{Path}
use Rattle.tinymist_vfs.specs.declared.batch.item.Item.{Item}
use Rattle.tinymist_vfs.specs.declared.batch.item.Item.TheVariants.{MapPath, UnmapPath, MapId, UnmapId, Clear, ChangeSet, ChangeView}

-- a file as its path and what it has
abbrev pub file_of : Path × Answer → List ℕ × Answer
file_of f = (path_text f.0, f.1)

-- the cleaned text of a path
abbrev pub clean_text : Path → List ℕ
clean_text path = clean (path_text path)

-- a file under its cleaned path
abbrev pub clean_file : Path × Answer → List ℕ × Answer
clean_file f = (clean_text f.0, f.1)

-- an item as plain data
abbrev pub item_of : Item → change.Item
item_of (MapPath path answer) = change.MapPath path answer
item_of (UnmapPath path) = change.UnmapPath path
item_of (MapId id answer) = change.MapId id answer
item_of (UnmapId id) = change.UnmapId id
item_of Clear = change.Clear
item_of (ChangeSet set) = change.ChangeSet (map path_text set.removes.items) (map file_of set.inserts.items)
item_of ChangeView = change.ChangeView

-- the items of a batch as plain data
abbrev pub items_of : List Item → List change.Item
items_of items = map item_of items

-- an item as a batch takes it: the paths of a change set are cleaned
abbrev pub clean_item : Item → change.Item
clean_item (MapPath path answer) = change.MapPath path answer
clean_item (UnmapPath path) = change.UnmapPath path
clean_item (MapId id answer) = change.MapId id answer
clean_item (UnmapId id) = change.UnmapId id
clean_item Clear = change.Clear
clean_item (ChangeSet set) = change.ChangeSet (map clean_text set.removes.items) (map clean_file set.inserts.items)
clean_item ChangeView = change.ChangeView

-- what a batch gathers: its items, and after them the change of view where there was one
abbrev pub gathered : List change.Item → Bool → List change.Item
gathered items view = items ++ (if view then change.ChangeView ∷ [] else [])
