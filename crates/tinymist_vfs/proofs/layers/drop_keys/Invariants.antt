use Rattle.std.proofs.Common.{◌≡◌, map}
use Rattle.ty_path.specs.Shared.{path_text}
use Rattle.ty_model.specs.Batch.{dropped}
use Rattle.tinymist_vfs.specs.Maps.{path_map}
use Rattle.tinymist_vfs.proofs.layers.drop_keys.Given as goal

abbrev pub invariant-loop-path : goal.invariant-loop-path
invariant-loop-path g l = path_map l.drops.entries ≡ dropped l.stamp (path_map l.initial.drops.entries) (map (λ e. path_text e.0.now) l.yielded)
