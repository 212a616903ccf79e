-- What was read of an id, and may be used again.
use Rattle.std.specs.Prelude.{◌≡◌, ℕ, List, Contains}
use Rattle.ty_model.specs.Values.{Id}
use Rattle.ty_model.specs.Version.{Version}
use Rattle.ty_model.specs.Disk.{Told}
use Rattle.ty_model.specs.LookUp.{look}
use Rattle.ty_model.specs.Standing.{since}
use Rattle.tinymist_vfs.specs.Reading.{source_of}

-- over the disk, the id has the same answer and the same source in both versions
abbrev pub ReadsAlike : Told → Id → Version → Version → Type 0
ReadsAlike disk id v w = (look v disk id ≡ look w disk id) × (source_of (look v disk id) ≡ source_of (look w disk id))

-- over the disk, each of the ids has the same answer and the same source in all versions of revision at least r
abbrev pub SameAnswers : List Version → ℕ → Told → List Id → Type 0
SameAnswers versions r disk ids = (id : Id) (v w : Version) → Contains ids id → Contains (since r versions) v → Contains (since r versions) w → ReadsAlike disk id v w
