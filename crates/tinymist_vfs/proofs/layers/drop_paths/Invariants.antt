use Rattle.std.proofs.Common.{◌≡◌, map, take}
use Rattle.ty_path.specs.Shared.{path_text}
use Rattle.ty_model.specs.Batch.{dropped}
use Rattle.tinymist_vfs.specs.Maps.{path_map}
use Rattle.tinymist_vfs.proofs.layers.drop_paths.Given as goal

abbrev pub invariant-loop-path : goal.invariant-loop-path
invariant-loop-path g l = path_map l.drops.entries ≡ dropped l.stamp (path_map l.initial.drops.entries) (map path_text (take l.path-index l.paths))
