use Rattle.tinymist_vfs.proofs.Steps.{mark_item_step}
use Rattle.tinymist_vfs.proofs.layers.changes.Changes.mark_items.Goals as goal

pub loop-item-preserved : goal.loop-item-preserved
loop-item-preserved g c = rw c.either-differs.ensures (mark_item_step c.args.old.now c.args.new.now c.args.revision _ _ _ _ _ c.args.batch.now c.loop-item.item-index c.item-item.result c.loop-item-test.true c.item-item.is c.loop-item.invariant c.in_ok-more.ensures)
