-- What a commit does to what is kept.
use Rattle.std.specs.Prelude.{◌≡◌, ◌-◌, ◌^◌, IsTrue, List}
use Rattle.ty_model.specs.Version.{Layers, Stamp}
use Rattle.ty_model.specs.Batch.{Item, applied_all, rises}
use Rattle.ty_model.specs.Standing.{Held}
use Rattle.ty_model.specs.Touched.{commit_held}
use Rattle.ty_model.specs.Held.{Kept}

-- what is kept, with this held in it
abbrev pub put_held : {R : Type 0} → Kept R → Held → Kept R
put_held k h = record k { held = h }

-- what is kept after a commit of the batch
abbrev pub committed : {R : Type 0} → Kept R → List Item → Kept R
committed k batch = put_held k (commit_held k.held batch)

-- a commit of the batch would raise the revision past its last value
abbrev pub is_full : Held → List Item → Type 0
is_full h batch = IsTrue (rises h.space h.revision h.layers batch) × (h.revision ≡ 2 ^ 64 - 1)

-- new are the layers after the items of a batch, with some stamp
abbrev pub IsStaged : Layers → List Item → Layers → Type 0
IsStaged old batch new = (stamp : Stamp) × (new ≡ applied_all stamp old batch)

-- the new layers with the told files of the old ones: from these to the new ones told files alone differ
abbrev pub told_before : Layers → Layers → Layers
told_before old new = record new { told = old.told }
