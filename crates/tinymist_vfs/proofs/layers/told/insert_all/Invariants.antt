use Rattle.std.proofs.Common.{◌≡◌, map, take}
use Rattle.ty_model.specs.Batch.{inserted}
use Rattle.tinymist_vfs.specs.Maps.{path_map}
use Rattle.tinymist_vfs.specs.Items.{file_of}
use Rattle.tinymist_vfs.proofs.layers.told.insert_all.Given as goal

abbrev pub invariant-loop-path : goal.invariant-loop-path
invariant-loop-path g l = path_map l.told.entries ≡ inserted (path_map l.initial.told.entries) (map file_of (take l.path-index l.files))
