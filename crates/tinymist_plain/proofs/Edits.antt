-- What edits make of the lists of a version and of a space.
use Rattle.std.proofs.Common.{◌≡◌, ℕ, ◌+◌, ◌||◌, not, Bool, true, false, cond, List, [], ◌∷◌, map, refl, sym, ap, ◌∙◌}
use Rattle.std.specs.FinMap as finmap
use Rattle.std.specs.FinMap.{put}
use Rattle.ty_model.specs.Values.{Id, Answer, id_cmp, text_cmp}
use Rattle.ty_model.specs.Version as model
use Rattle.ty_model.specs.Batch.{Item, MapPath, UnmapPath, MapId, UnmapId, Clear, ChangeSet, applied, staged, rises, commit, is_view}
use Rattle.ty_model.specs.Space as model_space
use Rattle.ty_model.specs.Space.{after_commit}
use Rattle.tinymist_plain.specs.Lists.{without, without_id, put_all, without_all}
use Rattle.tinymist_plain.specs.Kept.{Lists, Listed, lists_of, listed, layers_of, version_of, same_lists, stamped, space_of, part_of}
use Rattle.tinymist_plain.specs.declared.space.Space.{Space}
use Rattle.tinymist_plain.proofs.Lists.{entries-put, entries-remove, entries-inserted, entries-removed, entries-dropped, entries-empty}
use Rattle.tinymist_plain.proofs.IdLists as ids

-- ---- layers

module _ (old : Lists) (l : model.Layers) (stamp : model.Stamp) (is : old ≡ lists_of l) where
  pub mapped : (path : List ℕ) (answer : Answer) (by_path : List (List ℕ × Answer)) → by_path ≡ put text_cmp path answer old.by_path → record old { by_path = by_path } ≡ lists_of (applied stamp l (MapPath path answer))
  mapped path answer by_path e =
      let now = e ∙ ap (λ (o : Lists). put text_cmp path answer o.by_path) is ∙ sym (entries-put l.by_path path answer) in
      λ j. record { by_id = (is j).by_id; by_path = now j; told = (is j).told; drops = (is j).drops }

  pub unmapped : (path : List ℕ) (by_path : List (List ℕ × Answer)) (drops : List (List ℕ × model.Stamp)) → by_path ≡ without path old.by_path → drops ≡ put text_cmp path stamp old.drops
      → record old { by_path = by_path; drops = drops } ≡ lists_of (applied stamp l (UnmapPath path))
  unmapped path by_path drops e d =
      let now = e ∙ ap (λ (o : Lists). without path o.by_path) is ∙ sym (entries-remove l.by_path path) in
      let dropped = d ∙ ap (λ (o : Lists). put text_cmp path stamp o.drops) is ∙ sym (entries-put l.drops path stamp) in
      λ j. record { by_id = (is j).by_id; by_path = now j; told = (is j).told; drops = dropped j }

  pub mapped_id : (id : Id) (answer : Answer) (by_id : List (Id × Answer)) → by_id ≡ put id_cmp id answer old.by_id → record old { by_id = by_id } ≡ lists_of (applied stamp l (MapId id answer))
  mapped_id id answer by_id e =
      let now = e ∙ ap (λ (o : Lists). put id_cmp id answer o.by_id) is ∙ sym (ids.entries-put l.by_id id answer) in
      λ j. record { by_id = now j; by_path = (is j).by_path; told = (is j).told; drops = (is j).drops }

  pub unmapped_id : (id : Id) (by_id : List (Id × Answer)) → by_id ≡ without_id id old.by_id → record old { by_id = by_id } ≡ lists_of (applied stamp l (UnmapId id))
  unmapped_id id by_id e =
      let now = e ∙ ap (λ (o : Lists). without_id id o.by_id) is ∙ sym (ids.entries-remove l.by_id id) in
      λ j. record { by_id = now j; by_path = (is j).by_path; told = (is j).told; drops = (is j).drops }

  pub cleared : (paths : List (List ℕ)) (by_id : List (Id × Answer)) (by_path : List (List ℕ × Answer)) (drops : List (List ℕ × model.Stamp)) → paths ≡ map (λ e. e.0) old.by_path → by_id ≡ [] → by_path ≡ [] → drops ≡ put_all old.drops (stamped stamp paths)
      → record old { by_id = by_id; by_path = by_path; drops = drops } ≡ lists_of (applied stamp l Clear)
  cleared paths by_id by_path drops p i e d =
      let dropped = d ∙ ap (λ (ps : List (List ℕ)). put_all old.drops (stamped stamp ps)) p
      ∙ ap (λ (o : Lists). put_all o.drops (stamped stamp (map (λ e. e.0) o.by_path))) is
      ∙ sym (entries-dropped stamp (finmap.keys l.by_path) l.drops) in
      λ j. record { by_id = (i ∙ sym (entries-empty id_cmp)) j; by_path = (e ∙ sym (entries-empty text_cmp)) j; told = (is j).told; drops = dropped j }

  pub notified : (removes : List (List ℕ)) (inserts : List (List ℕ × Answer)) (told : List (List ℕ × Answer)) (drops : List (List ℕ × model.Stamp)) → told ≡ put_all (without_all old.told removes) inserts → drops ≡ put_all old.drops (stamped stamp removes)
      → record old { told = told; drops = drops } ≡ lists_of (applied stamp l (ChangeSet removes inserts))
  notified removes inserts told drops t d =
      let now = t ∙ ap (λ (o : Lists). put_all (without_all o.told removes) inserts) is ∙ sym (entries-inserted inserts _ ∙ ap (λ es. put_all es inserts) (entries-removed removes l.told)) in
      let dropped = d ∙ ap (λ (o : Lists). put_all o.drops (stamped stamp removes)) is ∙ sym (entries-dropped stamp removes l.drops) in
      λ j. record { by_id = (is j).by_id; by_path = (is j).by_path; told = now j; drops = dropped j }

-- ---- a space

last_of : Listed → List Listed → Listed
last_of other [] = other
last_of other (v ∷ vs) = v

-- the last version of a space
pub latest_is : (p : Space) (s : model_space.Space) → space_of p ≡ part_of s → version_of p.latest ≡ listed s.now
unfolding last_of
latest_is p s is = ap (λ (k : ℕ × List Listed). last_of (listed s.now) k.1) is

-- the next version after an edit
abbrev pub raised : ℕ → model.Version → Item → model.Version
raised number v item = record v { layers = staged number v.revision v.layers (item ∷ []); revision = v.revision + 1 }

module _ (number : ℕ) (v : model.Version) (l : Listed) (is : l ≡ listed v) (item : Item) (view : Bool) (views : is_view item ≡ view) (edited : Lists) (by : edited ≡ lists_of (staged number v.revision v.layers (item ∷ []))) where
  pub rises_by : rises number v.revision v.layers (item ∷ []) ≡ (not (same_lists l.layers edited) || view)
  rises_by = (λ j. not (same_lists (sym is j).layers (sym by j)) || (views j || false)) ∙ ap (λ b. not (same_lists l.layers edited) || b) (plainly view)
    where
      plainly : (b : Bool) → (b || false) ≡ b
      plainly true = refl
      plainly false = refl

  pub committed : listed (commit number v (item ∷ [])) ≡ cond (not (same_lists l.layers edited) || view) (record { revision = l.revision + 1; layers = edited; reset = l.reset; resolver = l.resolver }) l
  committed =
      ap (λ b. listed (cond b (raised number v item) v)) rises_by
      ∙ turned (not (same_lists l.layers edited) || view)
    where
      turned : (b : Bool) → listed (cond b (raised number v item) v) ≡ cond b (record { revision = l.revision + 1; layers = edited; reset = l.reset; resolver = l.resolver }) l
      turned false = sym is
      turned true = λ j. record { revision = (sym is j).revision + 1; layers = sym by j; reset = (sym is j).reset; resolver = (sym is j).resolver }

module _ (p : Space) (s : model_space.Space) (is : space_of p ≡ part_of s) where
  pub layers_are : layers_of p.latest ≡ lists_of s.now.layers
  layers_are = ap (λ (v : Listed). v.layers) (latest_is p s is)

  pub stamps_are : ◌≡◌ {A = model.Stamp} (record { space = p.number; revision = p.latest.revision + 1 }) (record { space = s.number; revision = s.now.revision + 1 })
  stamps_are = λ j. record { space = (is j).0; revision = (latest_is p s is j).revision + 1 }

  module _ (item : Item) (view : Bool) (views : is_view item ≡ view) (edited : Lists) (by : edited ≡ lists_of (staged s.number s.now.revision s.now.layers (item ∷ []))) where
    abbrev after : Bool → ℕ × List Listed
    after b = (s.number, listed (cond b (raised s.number s.now item) s.now) ∷ map listed (cond b (s.now ∷ s.past) s.past))

    risen : rises s.number s.now.revision s.now.layers (item ∷ []) ≡ (not (same_lists (layers_of p.latest) edited) || view)
    risen = rises_by s.number s.now (version_of p.latest) (latest_is p s is) item view views edited by

    pub stays : (not (same_lists (layers_of p.latest) edited) || view) ≡ false → space_of p ≡ part_of (after_commit s (item ∷ []))
    stays e = is ∙ sym (ap after (risen ∙ e))

    pub goes_on : (reset : model.Stamp) → reset ≡ p.latest.reset → (not (same_lists (layers_of p.latest) edited) || view) ≡ true → ◌≡◌ {A = ℕ × List Listed} (p.number, record { revision = p.latest.revision + 1; layers = edited; reset = reset; resolver = finmap.empty } ∷ (space_of p).1) (part_of (after_commit s (item ∷ [])))
    goes_on reset kept e =
        (λ j. ((is j).0, record { revision = (latest_is p s is j).revision + 1; layers = by j; reset = (kept ∙ ap (λ (v : Listed). v.reset) (latest_is p s is)) j; resolver = (latest_is p s is j).resolver } ∷ (is j).1))
        ∙ sym (ap after (risen ∙ e))
