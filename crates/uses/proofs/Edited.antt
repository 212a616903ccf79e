-- What a commit of one item leaves in the overlays.
use Rattle.std.proofs.Common.{◌≡◌, ℕ, ◌+◌, Bool, true, false, cond, not, ◌||◌, List, [], ◌∷◌, refl, sym, ap, ◌∙◌, Some, Result, Ok, Err}
use Rattle.std.specs.Prelude.{OnOk, IfOk}
use Rattle.std.specs.FinMap as finmap
use Rattle.std.proofs.lemmas.Cmp.{eq_by_cmp_equiv}
use Rattle.ty_model.specs.Values.{Answer, text_cmp}
use Rattle.ty_model.specs.Version.{Layers, Version}
use Rattle.ty_model.specs.Batch.{Item, MapPath, ChangeSet, same_layers, staged, rises}
use Rattle.ty_model.specs.Standing.{Held, version_with}
use Rattle.ty_model.specs.Touched.{commit_held}
use Rattle.ty_model.specs.Held.{Kept}
use Rattle.ty_model.proofs.Commits.{is_commit}
use Rattle.ty_model.proofs.Tests.{text_total, same_layers-Decides}
use Rattle.tinymist_vfs.specs.Commits.{committed}

no_rise : (same : Bool) → (not same || false) ≡ false → same ≡ true
no_rise true h = refl
no_rise false h = absurd (cc)

-- the layers after a commit: those of the batch, or the ones before
abbrev after_commit : Bool → Held → List Item → Layers
after_commit b h batch = cond b (staged h.space h.revision h.layers batch) h.layers

by_rises : (h : Held) (batch : List Item) (v : Version) → v.layers ≡ h.layers → (b : Bool) → (cond b (record v { layers = staged h.space h.revision h.layers batch; revision = h.revision + 1 }) v).layers ≡ after_commit b h batch
by_rises h batch v is true = refl
by_rises h batch v is false = is

layers_after : (h : Held) (batch : List Item) → (commit_held h batch).layers ≡ after_commit (rises h.space h.revision h.layers batch) h batch
layers_after h batch =
    ap (λ (w : Version). w.layers) ((is_commit h batch).version finmap.empty)
    ∙ by_rises h batch (version_with h finmap.empty) refl (rises h.space h.revision h.layers batch)

module _ (h : Held) (path : List ℕ) (answer : Answer) where
  abbrev edit : List Item
  edit = MapPath path answer ∷ []

  abbrev edited : Layers
  edited = staged h.space h.revision h.layers edit

  here : finmap.get edited.by_path path ≡ Some answer
  here = finmap.get-insert text_total h.layers.by_path path answer path ∙ ap (λ b. cond b (Some answer) (finmap.get h.layers.by_path path)) ((eq_by_cmp_equiv text_total).refl path)

  in_layers : finmap.get (after_commit (rises h.space h.revision h.layers edit) h edit).by_path path ≡ Some answer
  in_layers =
      elim (rises h.space h.revision h.layers edit) as (λ b. rises h.space h.revision h.layers edit ≡ b → finmap.get (after_commit b h edit).by_path path ≡ Some answer) [
        | true ↦ λ e. here
        | false ↦ λ e. ap (λ (l : Layers). finmap.get l.by_path path) (sym ((same_layers-Decides h.layers edited).0 (no_rise (same_layers h.layers edited) e))) ∙ here
      ] refl

  has : finmap.get (commit_held h edit).layers.by_path path ≡ Some answer
  has = ap (λ (l : Layers). finmap.get l.by_path path) (layers_after h edit) ∙ in_layers

module _ {R F : Type 0} (k new : Kept R) where
  -- the answer of a call that commits these items
  abbrev pub Commits : List Item → Result ℕ F → Type 0
  Commits batch r = IfOk r (λ n. (new ≡ committed k batch) × (n ≡ new.held.revision))

  -- a path that was mapped has its answer
  pub has_shadow : (path : List ℕ) (answer : Answer) (r : Result ℕ F) → Commits (MapPath path answer ∷ []) r → OnOk r (finmap.get new.held.layers.by_path path ≡ Some answer)
  has_shadow path answer (Ok n) is = ap (λ (x : Kept R). finmap.get x.held.layers.by_path path) is.0 ∙ has k.held path answer
  has_shadow path answer (Err e) is = tt

module _ (h : Held) (removes : List (List ℕ)) (inserts : List (List ℕ × Answer)) where
  abbrev told : List Item
  told = ChangeSet removes inserts ∷ []

  same_paths : (b : Bool) → (after_commit b h told).by_path ≡ h.layers.by_path
  same_paths true = refl
  same_paths false = refl

  same_ids : (b : Bool) → (after_commit b h told).by_id ≡ h.layers.by_id
  same_ids true = refl
  same_ids false = refl

module _ {R F : Type 0} (k new : Kept R) (removes : List (List ℕ)) (inserts : List (List ℕ × Answer)) where
  -- what is told leaves the overlay by path
  pub keeps_paths : (r : Result ℕ F) → Commits k new (ChangeSet removes inserts ∷ []) r → OnOk r (new.held.layers.by_path ≡ k.held.layers.by_path)
  keeps_paths (Ok n) is = ap (λ (x : Kept R). x.held.layers.by_path) is.0 ∙ ap (λ (l : Layers). l.by_path) (layers_after k.held (ChangeSet removes inserts ∷ [])) ∙ same_paths k.held removes inserts (rises k.held.space k.held.revision k.held.layers (ChangeSet removes inserts ∷ []))
  keeps_paths (Err e) is = tt

  -- and the overlay by id
  pub keeps_ids : (r : Result ℕ F) → Commits k new (ChangeSet removes inserts ∷ []) r → OnOk r (new.held.layers.by_id ≡ k.held.layers.by_id)
  keeps_ids (Ok n) is = ap (λ (x : Kept R). x.held.layers.by_id) is.0 ∙ ap (λ (l : Layers). l.by_id) (layers_after k.held (ChangeSet removes inserts ∷ [])) ∙ same_ids k.held removes inserts (rises k.held.space k.held.revision k.held.layers (ChangeSet removes inserts ∷ []))
  keeps_ids (Err e) is = tt
