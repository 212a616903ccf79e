-- The plain machine: its state, and a step for each command.
use Rattle.std.specs.Prelude.{◌≡◌, ◌≢◌, ℕ, ◌+◌, ◌-◌, ◌==◌, ◌&&◌, nat_le, not, Bool, true, if◌then◌else◌, List, [], ◌∷◌, ◌++◌, length, slice_get, slice_set, Option, Some, None}
use Rattle.std.specs.List.{list_any}
use Rattle.std.specs.FinMap as map
use Rattle.std.specs.Option.{option_map, option_and_then}
use Rattle.ty_model.specs.Values.{Id, Project, Answer, Content}
use Rattle.ty_model.specs.Places.{id_by_parent, place_of, detached_entry, memory_main_entry}
use Rattle.ty_model.specs.Disk.{Told}
use Rattle.ty_model.specs.Version.{Version, first_version, same_id}
use Rattle.ty_model.specs.Batch as batch
use Rattle.ty_model.specs.Batch.{Item}
use Rattle.ty_model.specs.LookUp.{look}
use Rattle.ty_model.specs.Standing.{are_clean}
use Rattle.ty_model.specs.Space.{Space, after_commit, snapshot_of}
use Rattle.tinymist_vfs.specs.Reading.{source_of}
use Rattle.session_grammar.specs.Command.{Target, Live, View, Command, Edit, MapId, UnmapId, Rootless, Snapshot, Read, Source, Line, Paths, Ids, Path, Clean, IdWord, PathWord, TagWord}
use Rattle.session_grammar.specs.Grammar.{answer_at}
use Rattle.session_grammar.specs.Reply.{Reply, AtRevision, ViewNumber, PathList, IdList, IdTag, IsClean, BadView, BadId, BadRevision, reply_to, text_reply, line_reply, place_reply}

-- the live space, the views with view 1 first, and what is drawn next
pub record State : Type 0 where
  pub live : Space
  pub views : List Space
  pub next_tag : ℕ
  pub next_space : ℕ
  pub tagged : List Id

-- what a step leaves, and what it replies
pub record Stepped : Type 0 where
  pub state : State
  pub reply : Reply

-- the state at the start: one space with one version, and nothing in it
abbrev pub opening : State
opening = record {
  live = record { number = 1; now = first_version 1 map.empty; past = []; entry = record { root = None; main = None }; universe = 1; asked = []; compiling = true };
  views = [];
  next_tag = 3;
  next_space = 2;
  tagged = detached_entry ∷ memory_main_entry ∷ [];
}

-- ---- spaces and ids

-- view k, where 0 is none
abbrev pub view_at : List Space → ℕ → Option Space
view_at views k = if k == 0 then None else slice_get views (k - 1)

-- the space of a target, if there is one
abbrev pub space_at : State → Target → Option Space
space_at s Live = Some s.live
space_at s (View k) = view_at s.views k

-- the state with this space at a target
abbrev pub with_space : State → Target → Space → State
with_space s Live space = record s { live = space }
with_space s (View k) space = record s { views = slice_set s.views (k - 1) space }

-- the id of a tag, where 0 is none
abbrev pub tagged_at : List Id → ℕ → Option Id
tagged_at tagged tag = if tag == 0 then None else slice_get tagged (tag - 1)

-- the id that a field names: the file of a path in the workspace of its parent, or the id of a tag
abbrev pub id_for : List Id → IdWord → Option Id
id_for tagged (PathWord path) = id_by_parent path
id_for tagged (TagWord tag) = tagged_at tagged tag

-- the ids that fields name, where each names one
abbrev pub ids_for : List Id → List IdWord → Option (List Id)
ids_for tagged [] = Some []
ids_for tagged (word ∷ words) = option_and_then (λ id. option_map (λ ids. id ∷ ids) (ids_for tagged words)) (id_for tagged word)

-- a reply that changes nothing
abbrev pub replied : State → Reply → Stepped
replied s reply = record { state = s; reply = reply }

-- a step on a space and what a line names in it: the space is looked for first, then the other
abbrev pub on_named : {A : Type 0} → State → Option Space → Option A → (Space → A → Stepped) → Stepped
on_named s None named f = replied s BadView
on_named s (Some space) None f = replied s BadId
on_named s (Some space) (Some named) f = f space named

-- ---- edits

-- an edit commits a batch of one item on its target, and leaves all other spaces as they are
abbrev pub edited : State → Target → Item → Space → Stepped
edited s target item space =
    let new = after_commit space (item ∷ []) in
    record { state = with_space s target new; reply = AtRevision new.now.revision }

-- an edit of a space that may be missing
abbrev pub edit_in : State → Target → Item → Option Space → Stepped
edit_in s target item None = replied s BadView
edit_in s target item (Some space) = edited s target item space

-- an edit of a target
abbrev pub edit_step : State → Target → Item → Stepped
edit_step s target item = edit_in s target item (space_at s target)

-- an edit of an id that a field names
abbrev pub id_edit_step : State → Target → IdWord → (Id → Item) → Stepped
id_edit_step s target word item = on_named s (space_at s target) (id_for s.tagged word) (λ space id. edited s target (item id) space)

-- an id of no workspace
abbrev pub rootless_id : List ℕ → ℕ → Id
rootless_id vpath tag = record { root = Project; vpath = vpath; tag = tag }

-- a new id under the next tag
abbrev pub rootless_step : State → List ℕ → Stepped
rootless_step s vpath = record {
  state = record s { next_tag = s.next_tag + 1; tagged = s.tagged ++ rootless_id vpath s.next_tag ∷ [] };
  reply = IdTag s.next_tag;
}

-- ---- snapshots and reads

-- a snapshot copies the live space under a fresh number
abbrev pub snapshot_step : State → Stepped
snapshot_step s = record {
  state = record s { views = s.views ++ snapshot_of s.next_space s.live ∷ []; next_space = s.next_space + 1 };
  reply = ViewNumber (length s.views + 1);
}

-- the id is asked for, where the space is compiling and it wasn't before
abbrev pub with_asked : Id → Space → Space
with_asked id s = if s.compiling && not (list_any (same_id id) s.asked) then record s { asked = s.asked ++ id ∷ [] } else s

-- the state after an id of a view was asked for
abbrev pub asking : State → ℕ → Space → Id → State
asking s k view id = record s { views = slice_set s.views (k - 1) (with_asked id view) }

-- a read looks the id up in the last version of the view
abbrev pub read_in : State → Told → ℕ → Space → Id → Stepped
read_in s disk k view id = record { state = asking s k view id; reply = reply_to (look view.now disk id) }

-- a read of what a field names in view k
abbrev pub read_step : State → Told → ℕ → IdWord → Stepped
read_step s disk k word = on_named s (view_at s.views k) (id_for s.tagged word) (read_in s disk k)

-- the source of an id in a version over a disk; that of the detached entry is empty
abbrev pub source_at : Version → Told → Id → Answer
source_at v disk id = if same_id id detached_entry then Content [] else source_of (look v disk id)

-- the source of an id in the last version of a view; the detached entry isn't asked for
abbrev pub source_in : State → Told → (Answer → Reply) → ℕ → Space → Id → Stepped
source_in s disk reply k view id = record {
  state = if same_id id detached_entry then s else asking s k view id;
  reply = reply (source_at view.now disk id);
}

-- a command that reads the source of an id, and makes a reply of it
abbrev pub source_step : State → Told → ℕ → IdWord → (Answer → Reply) → Stepped
source_step s disk k word reply = on_named s (view_at s.views k) (id_for s.tagged word) (source_in s disk reply k)

-- ---- questions that change nothing

-- what is listed of a space, if there is one
abbrev pub listed : (Space → Reply) → Option Space → Reply
listed reply None = BadView
listed reply (Some space) = reply space

-- the paths of an overlay, ascending
abbrev pub path_list : Space → Reply
path_list space = PathList (map.keys space.now.layers.by_path)

-- the ids of an overlay, ascending
abbrev pub id_list : Space → Reply
id_list space = IdList (map.keys space.now.layers.by_id)

-- the space had this revision
abbrev pub has_revision : Space → ℕ → Bool
has_revision space r = nat_le 2 r && nat_le r space.now.revision

-- whether ids are clean since a revision, by the versions of the space
abbrev pub clean_reply : Space → ℕ → List Id → Reply
clean_reply space r ids = if has_revision space r then IsClean (are_clean (space.now ∷ space.past) r ids) else BadRevision

-- where the id that a field names stands in a target
abbrev pub path_step : State → Target → IdWord → Stepped
path_step s target word = on_named s (space_at s target) (id_for s.tagged word) (λ space id. replied s (place_reply id (place_of space.now.resolver id)))

-- whether the ids that fields name are clean in a target
abbrev pub clean_step : State → Target → ℕ → List IdWord → Stepped
clean_step s target r words = on_named s (space_at s target) (ids_for s.tagged words) (λ space ids. replied s (clean_reply space r ids))

-- ---- all commands

-- a step of a state over a disk
abbrev pub step : State → Told → Command → Stepped
step s disk (Edit target item) = edit_step s target item
step s disk (MapId target word content) = id_edit_step s target word (λ id. batch.MapId id (answer_at id.vpath content))
step s disk (UnmapId target word) = id_edit_step s target word batch.UnmapId
step s disk (Rootless vpath) = rootless_step s vpath
step s disk Snapshot = snapshot_step s
step s disk (Read k word) = read_step s disk k word
step s disk (Source k word) = source_step s disk k word text_reply
step s disk (Line k word offset) = source_step s disk k word (line_reply offset)
step s disk (Paths target) = replied s (listed path_list (space_at s target))
step s disk (Ids target) = replied s (listed id_list (space_at s target))
step s disk (Path target word) = path_step s target word
step s disk (Clean target r words) = clean_step s target r words

-- the space that a command edits, if any; a command that reads edits none
abbrev pub edited_space : Command → Option Target
edited_space (Edit target item) = Some target
edited_space (MapId target word content) = Some target
edited_space (UnmapId target word) = Some target
edited_space command = None

-- the space that a command may change, if any: a read of a view notes there what was asked for
abbrev pub changed_space : Command → Option Target
changed_space (Read view word) = Some (View view)
changed_space (Source view word) = Some (View view)
changed_space (Line view word offset) = Some (View view)
changed_space command = edited_space command

-- a step leaves each space but the one that its command may change as it was, and a view that is there stays
abbrev pub LeavesOthers : Type 0
LeavesOthers = (disk : Told) (s : State) (command : Command) (target : Target) (space : Space) → changed_space command ≢ Some target → space_at s target ≡ Some space → space_at (step s disk command).state target ≡ Some space
