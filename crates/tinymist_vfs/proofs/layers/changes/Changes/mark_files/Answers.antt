use Rattle.tinymist_vfs.proofs.Steps.{mark_file_step}
use Rattle.tinymist_vfs.proofs.layers.changes.Changes.mark_files.Goals as goal

pub loop-path-preserved : goal.loop-path-preserved
loop-path-preserved g c = rw c.either-differs.ensures (mark_file_step c.args.old.now c.args.new.now c.args.revision _ _ _ _ _ c.args.files.now c.loop-path.path-index c.loop-path-item.result c.loop-path-test.true c.loop-path-item.is c.loop-path.invariant c.in_ok-more.ensures)
