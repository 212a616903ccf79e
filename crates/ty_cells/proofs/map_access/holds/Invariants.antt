use Rattle.std.proofs.Common.{◌≡◌, drop}
use Rattle.ty_cells.specs.Disk.{answers_at}
use Rattle.ty_cells.specs.MapAccess.{told_by}
use Rattle.ty_cells.proofs.map_access.holds.Given as goal

abbrev pub invariant-loop-listed : goal.invariant-loop-listed
invariant-loop-listed l = answers_at (told_by (drop l.listed-index l.files)) l.path ≡ answers_at (told_by l.files) l.path
