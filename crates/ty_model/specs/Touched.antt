-- The keys that a batch names or clears, and what of them became other.
use Rattle.std.specs.Prelude.{◌≡◌, ℕ, ◌+◌, ◌||◌, not, Bool, if◌then◌else◌, List, [], ◌∷◌, ◌++◌, map}
use Rattle.std.specs.List.{list_any}
use Rattle.std.specs.FinMap as finmap
use Rattle.ty_model.specs.Values.{Id, id_cmp, text_cmp, same_answer}
use Rattle.ty_model.specs.Version.{Layers}
use Rattle.ty_model.specs.Batch.{Item, rises, staged, MapPath, UnmapPath, MapId, UnmapId, Clear, ChangeSet, ChangeView}
use Rattle.ty_model.specs.Standing.{same_option, at_path, same_at_path, Changes, Held}

-- the ids that an item names or clears, where `l` are the layers before the batch
abbrev pub item_ids : Layers → Item → List Id
item_ids l (MapId id answer) = id ∷ []
item_ids l (UnmapId id) = id ∷ []
item_ids l Clear = finmap.keys l.by_id
item_ids l (MapPath path answer) = []
item_ids l (UnmapPath path) = []
item_ids l (ChangeSet removes inserts) = []
item_ids l ChangeView = []

-- the paths that an item names or clears
abbrev pub item_paths : Layers → Item → List (List ℕ)
item_paths l (MapPath path answer) = path ∷ []
item_paths l (UnmapPath path) = path ∷ []
item_paths l Clear = finmap.keys l.by_path
item_paths l (ChangeSet removes inserts) = removes ++ map (λ f. f.0) inserts
item_paths l (MapId id answer) = []
item_paths l (UnmapId id) = []
item_paths l ChangeView = []

-- the ids that a batch names or clears
abbrev pub touched_ids : Layers → List Item → List Id
touched_ids l [] = []
touched_ids l (item ∷ items) = item_ids l item ++ touched_ids l items

-- the paths that a batch names or clears
abbrev pub touched_paths : Layers → List Item → List (List ℕ)
touched_paths l [] = []
touched_paths l (item ∷ items) = item_paths l item ++ touched_paths l items

-- old and new have the same at an id
abbrev pub same_id_at : Layers → Layers → Id → Bool
same_id_at old new id = same_option same_answer (finmap.get old.by_id id) (finmap.get new.by_id id)

-- old and new have the same at a path
abbrev pub same_path_at : Layers → Layers → List ℕ → Bool
same_path_at old new path = same_at_path (at_path old path) (at_path new path)

-- the keys that became other get the revision
abbrev pub marked_ids : Layers → Layers → ℕ → finmap.FinMap id_cmp ℕ → List Id → finmap.FinMap id_cmp ℕ
marked_ids old new revision m [] = m
marked_ids old new revision m (id ∷ ids) = marked_ids old new revision (if same_id_at old new id then m else finmap.insert m id revision) ids

-- the same of paths
abbrev pub marked_paths : Layers → Layers → ℕ → finmap.FinMap text_cmp ℕ → List (List ℕ) → finmap.FinMap text_cmp ℕ
marked_paths old new revision m [] = m
marked_paths old new revision m (path ∷ paths) = marked_paths old new revision (if same_path_at old new path then m else finmap.insert m path revision) paths

-- some of these ids became other
abbrev pub ids_differ : Layers → Layers → List Id → Bool
ids_differ old new ids = list_any (λ id. not (same_id_at old new id)) ids

-- some of these paths became other
abbrev pub paths_differ : Layers → Layers → List (List ℕ) → Bool
paths_differ old new paths = list_any (λ path. not (same_path_at old new path)) paths

-- some of these ids or paths became other
abbrev pub differ : Layers → Layers → List Id → List (List ℕ) → Bool
differ old new ids paths = ids_differ old new ids || paths_differ old new paths

-- the change revisions of these keys are marked where they became other, and b tells whether one did
pub record IsMarked (old new : Layers) (revision : ℕ) (before : Changes) (ids : List Id) (paths : List (List ℕ)) (b : Bool) (now : Changes) : Type 0 where
  pub differs : b ≡ differ old new ids paths
  pub after : now ≡ record { ids = marked_ids old new revision before.ids ids; paths = marked_paths old new revision before.paths paths; reset = before.reset }

-- what is held after a commit of the batch
abbrev pub commit_held : Held → List Item → Held
commit_held h batch =
    if rises h.space h.revision h.layers batch then record {
      space = h.space;
      revision = h.revision + 1;
      layers = staged h.space h.revision h.layers batch;
      reset = h.reset;
      changes = record {
        ids = marked_ids h.layers (staged h.space h.revision h.layers batch) (h.revision + 1) h.changes.ids (touched_ids h.layers batch);
        paths = marked_paths h.layers (staged h.space h.revision h.layers batch) (h.revision + 1) h.changes.paths (touched_paths h.layers batch);
        reset = h.changes.reset;
      };
    } else h
