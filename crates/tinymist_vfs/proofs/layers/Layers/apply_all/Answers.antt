use Rattle.tinymist_vfs.proofs.Steps.{apply_step}
use Rattle.tinymist_vfs.proofs.layers.Layers.apply_all.Goals as goal

pub loop-item-preserved : goal.loop-item-preserved
loop-item-preserved g c = apply_step c.args.batch.now c.loop-item.item-index c.item-item.result c.loop-item-test.true c.item-item.is c.args.stamp _ _ _ c.loop-item.invariant c.in_ok-apply.ensures
