use Rattle.std.proofs.Common.{refl}
use Rattle.tinymist_vfs.proofs.Steps.{remove_step}
use Rattle.tinymist_vfs.proofs.layers.told.remove_all.Goals as goal

pub loop-path-preserved : goal.loop-path-preserved
loop-path-preserved g c = remove_step c.args.paths.now c.loop-path.path-index c.path-item.result c.path-item.result c.loop-path-test.true c.path-item.is refl _ _ _ c.loop-path.invariant c.in_ok-take_path.ensures
