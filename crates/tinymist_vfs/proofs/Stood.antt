-- What a new or reset value stands for.
use Rattle.std.proofs.Common.{◌≡◌, ℕ, ◌≤◌, Bool, true, List, [], ◌∷◌, sym, ap, ◌∙◌, arith, Some, None, Result, Ok, Err}
use Rattle.std.specs.Prelude.{IfOk, OnOk}
use Rattle.std.specs.List.{list_all}
use Rattle.std.specs.FinMap as finmap
use Rattle.ty_model.specs.Values.{Id, text_cmp}
use Rattle.ty_model.specs.Places.{Resolver}
use Rattle.ty_model.specs.Version.{Layers, Stamp, Version, no_layers}
use Rattle.ty_model.specs.Batch.{next_stamp}
use Rattle.ty_model.specs.Batch as change
use Rattle.ty_model.specs.Standing.{Changes, no_changes, StandsFor, clean_by, are_clean, reset_held}
use Rattle.ty_model.specs.Held.{Kept, version_of, Standing}
use Rattle.ty_model.proofs.Standing.{first_stands, reset_stands}
use Rattle.ty_model.proofs.Clean.{clean_all, newest_clean}
use Rattle.ty_syntax.specs.declared.error.FileFault.{FileFault}
use Rattle.tinymist_vfs.specs.Commits.{put_held}

pub new_stands : (space : ℕ) (resolver : Resolver) (c : Changes) (l : Layers) (t : Stamp) → c ≡ no_changes → l ≡ no_layers → t ≡ next_stamp space 1
    → StandsFor c (record { revision = 2; layers = l; reset = t; resolver = resolver } ∷ [])
new_stands space resolver c l t is_c is_l is_t =
    rw (is_c, is_l, is_t)
    (first_stands (record { revision = 2; layers = no_layers; reset = next_stamp space 1; resolver = resolver }) (record { reset = omega arith; drops = λ p s e. absurd (let n : None ≡ Some s = sym (finmap.get-empty text_cmp p) ∙ e in cc) }))

module _ {R F : Type 0} (known : R → Resolver) (k new : Kept R) where
  pub reset_version : (r : Result ℕ F) → OnOk r (new ≡ put_held k (reset_held k.held)) → OnOk r (version_of known new ≡ change.reset k.held.space (version_of known k) (known k.resolver))
  reset_version (Ok n) is = ap (version_of known) is
  reset_version (Err e) is = is

  pub reset_stood : (past : List Version) → Standing known k past → (r : Result ℕ F) → OnOk r (new ≡ put_held k (reset_held k.held)) → OnOk r (Standing known new (version_of known k ∷ past))
  reset_stood past s (Ok n) is = rw is (reset_stands k.held.changes (version_of known k) past s k.held.space (known k.resolver))
  reset_stood past s (Err e) is = is

pub renewed_stood : {R : Type 0} (known : R → Resolver) (k new : Kept R) (resolver : R) (past : List Version) → Standing known k past → new ≡ record { held = reset_held k.held; resolver = resolver } → Standing known new (version_of known k ∷ past)
renewed_stood known k new resolver past s is = rw is (reset_stands k.held.changes (version_of known k) past s k.held.space (known resolver))

pub clean_stood : {R : Type 0} (known : R → Resolver) (k : Kept R) (past : List Version) → Standing known k past → (r : ℕ) (ids : List Id) (result : Result Bool FileFault)
    → IfOk result (λ b. b ≡ list_all (clean_by k.held.changes (known k.resolver) r) ids) → IfOk result (λ b. b ≡ are_clean (version_of known k ∷ past) r ids)
clean_stood known k past s r ids (Ok b) h = h ∙ clean_all k.held.changes (version_of known k) past s r ids
clean_stood known k past s r ids (Err e) h = h

pub fork_stands : (space : ℕ) (resolver : Resolver) (c : Changes) (m l : Layers) (t : Stamp) → c ≡ no_changes → l ≡ record m { drops = finmap.empty } → t ≡ next_stamp space 1
    → StandsFor c (record { revision = 2; layers = l; reset = t; resolver = resolver } ∷ [])
fork_stands space resolver c m l t is_c is_l is_t =
    rw (is_c, is_l, is_t)
    (first_stands (record { revision = 2; layers = record m { drops = finmap.empty }; reset = next_stamp space 1; resolver = resolver }) (record { reset = omega arith; drops = λ p s e. absurd (let n : None ≡ Some s = sym (finmap.get-empty text_cmp p) ∙ e in cc) }))

pub newest_stood : {R : Type 0} (known : R → Resolver) (k : Kept R) (past : List Version) → Standing known k past → (r : ℕ) (ids : List Id) → k.held.revision ≤ r → true ≡ are_clean (version_of known k ∷ past) r ids
newest_stood known k past s r ids le = sym (newest_clean (version_of known k) past r s.history.rising le ids)
