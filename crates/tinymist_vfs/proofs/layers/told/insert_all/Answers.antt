use Rattle.std.proofs.Common.{refl}
use Rattle.tinymist_vfs.proofs.Steps.{insert_step}
use Rattle.tinymist_vfs.proofs.layers.told.insert_all.Goals as goal

pub loop-path-preserved : goal.loop-path-preserved
loop-path-preserved g c = insert_step c.args.files.now c.loop-path.path-index c.loop-path-item.result c.loop-path-item.result.0 c.loop-path-item.result.1 c.loop-path-test.true c.loop-path-item.is refl refl _ _ _ c.loop-path.invariant c.in_ok-tell.ensures
