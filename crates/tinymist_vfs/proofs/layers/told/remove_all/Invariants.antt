use Rattle.std.proofs.Common.{◌≡◌, map, take}
use Rattle.ty_path.specs.Shared.{path_text}
use Rattle.ty_model.specs.Batch.{removed}
use Rattle.tinymist_vfs.specs.Maps.{path_map}
use Rattle.tinymist_vfs.proofs.layers.told.remove_all.Given as goal

abbrev pub invariant-loop-path : goal.invariant-loop-path
invariant-loop-path g l = path_map l.told.entries ≡ removed (path_map l.initial.told.entries) (map path_text (take l.path-index l.paths))
