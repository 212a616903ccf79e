-- The plain program's lists as versions, spaces and a state.
use Rattle.std.specs.Prelude.{◌≡◌, ℕ, ◌-◌, ◌==◌, ◌&&◌, nat_le, Bool, true, if◌then◌else◌, List, [], ◌∷◌, map, max, slice_get, Option, Some, None}
use Rattle.std.specs.List.{list_all}
use Rattle.std.specs.Option.{option_or, unwrap_or}
use Rattle.std.specs.Str.{bytes_eq}
use Rattle.std.specs.FinMap as finmap
use Rattle.ty_model.specs.Values.{Id, Answer, Refused, AccessDenied, id_cmp, text_cmp, same_answer}
use Rattle.ty_model.specs.Places as place
use Rattle.ty_model.specs.Version as model
use Rattle.ty_model.specs.Version.{same_stamp, same_id}
use Rattle.ty_model.specs.Batch.{same_entries}
use Rattle.ty_model.specs.Disk.{Told}
use Rattle.ty_model.specs.LookUp.{Asks, said_or, answer_by}
use Rattle.ty_model.specs.Standing.{AtPath, nothing_at, Entries, same_entries_at}
use Rattle.ty_model.specs.Space as model_space
use Rattle.session_grammar.specs.Command.{Target, Live, View}
use Rattle.tinymist_session.specs.Machine as machine
use Rattle.tinymist_plain.specs.Lists.{pairs, id_pairs}
use Rattle.tinymist_plain.specs.declared.version.Version.{Version}
use Rattle.tinymist_plain.specs.declared.space.Space.{Space}
use Rattle.tinymist_plain.specs.declared.state.State.{State}

-- the layers of a version as lists
pub record Lists : Type 0 where
  pub by_id : List (Id × Answer)
  pub by_path : List (List ℕ × Answer)
  pub told : List (List ℕ × Answer)
  pub drops : List (List ℕ × model.Stamp)

-- a version as lists
pub record Listed : Type 0 where
  pub revision : ℕ
  pub layers : Lists
  pub reset : model.Stamp
  pub resolver : place.Resolver

-- layers of the definition as lists: the entries of their maps
abbrev pub lists_of : model.Layers → Lists
lists_of l = record { by_id = finmap.entries l.by_id; by_path = finmap.entries l.by_path; told = finmap.entries l.told; drops = finmap.entries l.drops }

-- a version of the definition as lists
abbrev pub listed : model.Version → Listed
listed v = record { revision = v.revision; layers = lists_of v.layers; reset = v.reset; resolver = v.resolver }

-- the layers that the plain program keeps of a version
abbrev pub layers_of : Version → Lists
layers_of v = record { by_id = id_pairs v.by_id.items; by_path = pairs v.by_path.items; told = pairs v.told.items; drops = pairs v.drops.items }

-- a version of the plain program as lists; no package is listed
abbrev pub version_of : Version → Listed
version_of v = record { revision = v.revision; layers = layers_of v; reset = v.reset; resolver = finmap.empty }

-- old and new are the same lists
abbrev pub same_lists : Lists → Lists → Bool
same_lists old new =
    same_entries same_id same_answer new.by_id old.by_id
    && same_entries bytes_eq same_answer new.by_path old.by_path
    && same_entries bytes_eq same_answer new.told old.told
    && same_entries bytes_eq same_stamp new.drops old.drops

-- these paths, each with this drop stamp
abbrev pub stamped : model.Stamp → List (List ℕ) → List (List ℕ × model.Stamp)
stamped stamp paths = map (λ path. (path, stamp)) paths

-- ---- look-ups

-- what a path has: by the overlay, or else what is told, or else by the disk
abbrev pub said_at : Lists → Told → List ℕ → Answer
said_at l told path = answer_by (said_or (option_or (finmap.find text_cmp path l.by_path) (finmap.find text_cmp path l.told)) (Asks path)) told

-- what a place has
abbrev pub said_in : Lists → Told → place.Place → Answer
said_in l told (place.At path) = said_at l told path
said_in l told place.Rootless = Refused AccessDenied
said_in l told (place.RefusedAt refusal) = Refused refusal

-- what an id has: by its overlay, or else at its place
abbrev pub looked : Listed → Told → Id → Answer
looked v told id = unwrap_or (finmap.find id_cmp id v.layers.by_id) (said_in v.layers told (place.place_of v.resolver id))

-- ---- the entries that decide whether an id is clean

-- what lists have at a path
abbrev pub path_entries : Lists → List ℕ → AtPath
path_entries l path = record { shadow = finmap.find text_cmp path l.by_path; told = finmap.find text_cmp path l.told; drop = finmap.find text_cmp path l.drops }

-- what lists have at a place
abbrev pub place_entries : Lists → place.Place → AtPath
place_entries l (place.At path) = path_entries l path
place_entries l place.Rootless = nothing_at
place_entries l (place.RefusedAt refusal) = nothing_at

-- what a version has of an id
abbrev pub id_entries : Listed → Id → Entries
id_entries v id = record { shadow = finmap.find id_cmp id v.layers.by_id; path = place_entries v.layers (place.place_of v.resolver id); reset = v.reset }

-- these versions, from a revision on, have the same of an id as another one
abbrev pub same_past : Listed → ℕ → Id → List Listed → Bool
same_past now r id [] = true
same_past now r id (v ∷ vs) =
    if nat_le r v.revision then same_entries_at (id_entries now id) (id_entries v id) && same_past now r id vs
    else same_past now r id vs

-- ---- spaces and the state

-- what is kept of a space: its number and its versions, the last one first
abbrev pub space_of : Space → ℕ × List Listed
space_of s = (s.number, version_of s.latest ∷ map version_of s.past.items)

-- the same parts of a space
abbrev pub part_of : model_space.Space → ℕ × List Listed
part_of s = (s.number, listed s.now ∷ map listed s.past)

-- ids are clean since a revision, by all versions of a space
abbrev pub all_clean : Space → ℕ → List Id → Bool
all_clean s r ids = list_all (λ id. same_past (version_of s.latest) r id (map version_of s.past.items)) ids

-- the plain state keeps these parts of the machine's
pub record IsKept (p : State) (s : machine.State) : Type 0 where
  pub live : space_of p.live ≡ part_of s.live
  pub views : map space_of p.views.items ≡ map part_of s.views
  pub next_space : p.next_space ≡ s.next_space
  pub next_tag : p.next_tag ≡ s.next_tag
  pub tagged : p.tagged.items ≡ s.tagged

-- the greatest revision of these spaces
abbrev pub highest : List Space → ℕ
highest [] = 0
highest (s ∷ ss) = max s.latest.revision (highest ss)

-- the greatest revision of all spaces
abbrev pub top_revision : State → ℕ
top_revision p = max p.live.latest.revision (highest p.views.items)

-- view k of those that are kept, where 0 is none
abbrev pub view_kept : List Space → ℕ → Option Space
view_kept views k = if k == 0 then None else slice_get views (k - 1)

-- the space that is kept of a target
abbrev pub space_kept : State → Target → Option Space
space_kept p Live = Some p.live
space_kept p (View k) = view_kept p.views.items k
