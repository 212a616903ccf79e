use Rattle.tinymist_vfs.proofs.Steps.{mark_path_step}
use Rattle.tinymist_vfs.proofs.layers.changes.Changes.mark_paths.Goals as goal

pub loop-path-preserved : goal.loop-path-preserved
loop-path-preserved g c = rw c.either-differs.ensures (mark_path_step c.args.old.now c.args.new.now c.args.revision _ _ _ _ _ c.args.paths.now c.loop-path.path-index c.path-item.result c.loop-path-test.true c.path-item.is c.loop-path.invariant c.in_ok-more.ensures)
