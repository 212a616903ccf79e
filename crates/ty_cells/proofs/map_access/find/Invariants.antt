use Rattle.std.proofs.Common.{◌≡◌, drop}
use Rattle.ty_model.specs.Disk.{answer_of}
use Rattle.ty_cells.specs.MapAccess.{told_by}
use Rattle.ty_cells.proofs.map_access.find.Given as goal

abbrev pub invariant-loop-name : goal.invariant-loop-name
invariant-loop-name l = answer_of (told_by (drop l.name-index l.files)) l.path ≡ answer_of (told_by l.files) l.path
