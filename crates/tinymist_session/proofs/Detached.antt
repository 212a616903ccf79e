-- An id with another tag isn't the detached entry.
use Rattle.std.proofs.Common.{◌≡◌, ◌≢◌, true, false, refl, ap}
use Rattle.ty_model.specs.Values.{Id}
use Rattle.ty_model.specs.Version.{same_id}
use Rattle.ty_model.specs.Places.{detached_entry}
use Rattle.ty_model.proofs.Tests.{same_id-Decides}

pub other_tag : (id : Id) → id.tag ≢ 1 → same_id id detached_entry ≡ false
other_tag id other = elim (same_id id detached_entry) as (λ b. same_id id detached_entry ≡ b → b ≡ false) [
  | true ↦ λ is. absurd (other (ap (λ (x : Id). x.tag) ((same_id-Decides id detached_entry).0 is)))
  | false ↦ λ _. refl
] refl
