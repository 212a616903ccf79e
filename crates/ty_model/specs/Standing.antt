-- What change revisions say of the versions that came before.
use Rattle.std.specs.Prelude.{◌≡◌, ℕ, ◌+◌, ◌≤◌, ◌&&◌, nat_le, Bool, true, false, if◌then◌else◌, List, [], ◌∷◌, map, filter, Option, Some, None}
use Rattle.std.specs.List.{list_all}
use Rattle.std.specs.Option.{unwrap_or}
use Rattle.std.specs.FinMap as finmap
use Rattle.ty_model.specs.Values.{Id, Answer, id_cmp, text_cmp, same_answer}
use Rattle.ty_model.specs.Places.{Resolver}
use Rattle.ty_model.specs.Places.{Place, At, Rootless, RefusedAt, place_of}
use Rattle.ty_model.specs.Version.{Stamp, Layers, Version, same_stamp}
use Rattle.ty_model.specs.Batch.{Item, commit, rises, next_stamp}

-- ---- versions, the newest first

-- the versions of revision at least r
abbrev pub since : ℕ → List Version → List Version
since r versions = filter (λ v. nat_le r v.revision) versions

-- all of a list are the same as its first
abbrev pub all_same : {A : Type 0} → (A → A → Bool) → List A → Bool
all_same same [] = true
all_same same (x ∷ xs) = list_all (same x) xs

-- f gives the same in all versions of revision at least r
abbrev pub same_since : {A : Type 0} → (A → A → Bool) → (Version → A) → ℕ → List Version → Bool
same_since same f r versions = all_same same (map f (since r versions))

-- both are missing, or both are there and the same
abbrev pub same_option : {A : Type 0} → (A → A → Bool) → Option A → Option A → Bool
same_option same None None = true
same_option same None (Some y) = false
same_option same (Some x) None = false
same_option same (Some x) (Some y) = same x y

-- what the layers have at a path
pub record AtPath : Type 0 where
  pub shadow : Option Answer
  pub told : Option Answer
  pub drop : Option Stamp

-- what these layers have at a path
abbrev pub at_path : Layers → List ℕ → AtPath
at_path l path = record { shadow = finmap.get l.by_path path; told = finmap.get l.told path; drop = finmap.get l.drops path }

-- two layers have the same at a path
abbrev pub same_at_path : AtPath → AtPath → Bool
same_at_path a b = same_option same_answer a.shadow b.shadow && same_option same_answer a.told b.told && same_option same_stamp a.drop b.drop

-- nothing at a path
abbrev pub nothing_at : AtPath
nothing_at = record { shadow = None; told = None; drop = None }

-- ---- clean

-- the entries that decide whether an id is clean
pub record Entries : Type 0 where
  pub shadow : Option Answer
  pub path : AtPath
  pub reset : Stamp

-- what the layers have at a place: nothing where that is no path
abbrev pub at_place_of : Layers → Place → AtPath
at_place_of l (At path) = at_path l path
at_place_of l Rootless = nothing_at
at_place_of l (RefusedAt refusal) = nothing_at

-- the entries of an id in a version
abbrev pub entries_at : Version → Id → Entries
entries_at v id = record { shadow = finmap.get v.layers.by_id id; path = at_place_of v.layers (place_of v.resolver id); reset = v.reset }

-- two versions have the same entries of an id
abbrev pub same_entries_at : Entries → Entries → Bool
same_entries_at a b = same_option same_answer a.shadow b.shadow && same_at_path a.path b.path && same_stamp a.reset b.reset

-- an id is clean since r: its entries are the same in all versions since
abbrev pub is_clean : List Version → ℕ → Id → Bool
is_clean versions r id = same_since same_entries_at (λ v. entries_at v id) r versions

-- each of these ids is clean since r
abbrev pub are_clean : List Version → ℕ → List Id → Bool
are_clean versions r ids = list_all (is_clean versions r) ids

-- ---- histories

-- the revisions rise by one
abbrev pub RisesByOne : List Version → Type 0
RisesByOne [] = Unit {0}
RisesByOne (v ∷ []) = Unit {0}
RisesByOne (v ∷ w ∷ vs) = (v.revision ≡ w.revision + 1) × RisesByOne (w ∷ vs)

-- each stamp of a version is no later than the version
pub record IsStamped (v : Version) : Type 0 where
  pub reset : v.reset.revision ≤ v.revision
  pub drops : (path : List ℕ) (stamp : Stamp) → finmap.get v.layers.drops path ≡ Some stamp → stamp.revision ≤ v.revision

-- each of these versions has stamps no later than it
abbrev pub AllStamped : List Version → Type 0
AllStamped [] = Unit {0}
AllStamped (v ∷ vs) = IsStamped v × AllStamped vs

-- v has the resolver of each of these that has its reset stamp
abbrev pub Agrees : Version → List Version → Type 0
Agrees v [] = Unit {0}
Agrees v (w ∷ ws) = (same_stamp v.reset w.reset ≡ true → v.resolver ≡ w.resolver) × Agrees v ws

-- of these versions, any two with one reset stamp have one resolver
abbrev pub AllAgree : List Version → Type 0
AllAgree [] = Unit {0}
AllAgree (v ∷ vs) = Agrees v vs × AllAgree vs

-- the versions of one space, the newest first
pub record IsHistory (versions : List Version) : Type 0 where
  pub rising : RisesByOne versions
  pub stamped : AllStamped versions
  pub agreed : AllAgree versions

-- ---- change revisions

-- the revision at which each id and each path last changed, and that of the last reset; 0 is never
pub record Changes : Type 0 where
  pub ids : finmap.FinMap id_cmp ℕ
  pub paths : finmap.FinMap text_cmp ℕ
  pub reset : ℕ

-- nothing has changed yet
abbrev pub no_changes : Changes
no_changes = record { ids = finmap.empty; paths = finmap.empty; reset = 0 }

-- the revision at which an id last changed
abbrev pub changed_id : Changes → Id → ℕ
changed_id c id = unwrap_or (finmap.get c.ids id) 0

-- the revision at which a path last changed
abbrev pub changed_path : Changes → List ℕ → ℕ
changed_path c path = unwrap_or (finmap.get c.paths path) 0

-- the change revisions stand for these versions
pub record StandsFor (c : Changes) (versions : List Version) : Type 0 where
  pub history : IsHistory versions
  pub resets : (r : ℕ) → nat_le c.reset r ≡ same_since same_stamp (λ v. v.reset) r versions
  pub ids : (id : Id) (r : ℕ) → c.reset ≤ r → nat_le (changed_id c id) r ≡ same_since (same_option same_answer) (λ v. finmap.get v.layers.by_id id) r versions
  pub paths : (path : List ℕ) (r : ℕ) → c.reset ≤ r → nat_le (changed_path c path) r ≡ same_since same_at_path (λ v. at_path v.layers path) r versions

-- ---- what a space keeps of its versions

-- a space by its number, its last version less the resolver, and its change revisions
pub record Held : Type 0 where
  pub space : ℕ
  pub revision : ℕ
  pub layers : Layers
  pub reset : Stamp
  pub changes : Changes

-- the last version, with this resolver
abbrev pub version_with : Held → Resolver → Version
version_with h resolver = record { revision = h.revision; layers = h.layers; reset = h.reset; resolver = resolver }

-- what is kept after a reset: nothing was dropped, and nothing has changed since
abbrev pub reset_held : Held → Held
reset_held h = record {
  space = h.space;
  revision = h.revision + 1;
  layers = record (h.layers) { drops = finmap.empty };
  reset = next_stamp h.space h.revision;
  changes = record { ids = finmap.empty; paths = finmap.empty; reset = h.revision + 1 };
}

-- the change revisions after the layers became others at a revision
pub record Marks (old new : Layers) (revision : ℕ) (before after : Changes) : Type 0 where
  pub reset : after.reset ≡ before.reset
  pub ids : (id : Id) → changed_id after id ≡ (if same_option same_answer (finmap.get old.by_id id) (finmap.get new.by_id id) then changed_id before id else revision)
  pub paths : (path : List ℕ) → changed_path after path ≡ (if same_at_path (at_path old path) (at_path new path) then changed_path before path else revision)

-- what is kept after a commit of the batch
pub record IsCommit (old : Held) (batch : List Item) (new : Held) : Type 0 where
  pub space : new.space ≡ old.space
  pub version : (resolver : Resolver) → version_with new resolver ≡ commit old.space (version_with old resolver) batch
  pub marks : Marks old.layers new.layers new.revision old.changes new.changes

-- the versions before, after a commit
abbrev pub past_after : ℕ → Version → List Version → List Item → List Version
past_after space now past batch = if rises space now.revision now.layers batch then now ∷ past else past

-- what is kept, with this resolver, stands for its version and those before it
abbrev pub Stands : Held → Resolver → List Version → Type 0
Stands h resolver past = StandsFor h.changes (version_with h resolver ∷ past)

-- what the change revisions say of an id at its place
abbrev pub path_by : Changes → ℕ → Place → Bool
path_by c r (At path) = nat_le (changed_path c path) r
path_by c r Rootless = true
path_by c r (RefusedAt refusal) = true

-- what the change revisions say of an id since r
abbrev pub clean_by : Changes → Resolver → ℕ → Id → Bool
clean_by c resolver r id = nat_le (changed_id c id) r && path_by c r (place_of resolver id) && nat_le c.reset r
