use Rattle.tinymist_vfs.specs.Commits.{told_before}
use Rattle.tinymist_vfs.proofs.Steps.{mark_file_step}
use Rattle.tinymist_vfs.proofs.layers.changes.Changes.mark_told_files.Goals as goal

pub loop-path-preserved : goal.loop-path-preserved
loop-path-preserved g c = rw c.either-differs.ensures (mark_file_step (told_before c.args.old.now c.args.new.now) c.args.new.now c.args.revision _ _ _ _ _ c.args.files.now c.loop-path.path-index c.loop-path-item.result c.loop-path-test.true c.loop-path-item.is c.loop-path.invariant c.in_ok-more.ensures)
