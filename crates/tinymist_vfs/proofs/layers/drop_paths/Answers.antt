use Rattle.tinymist_vfs.proofs.Steps.{drop_step}
use Rattle.tinymist_vfs.proofs.layers.drop_paths.Goals as goal

pub loop-path-preserved : goal.loop-path-preserved
loop-path-preserved g c = drop_step c.args.paths.now c.loop-path.path-index c.path-item.result c.in_ok-share.field-0 c.loop-path-test.true c.path-item.is c.in_ok-share.ensures c.args.stamp _ _ _ c.loop-path.invariant c.in_ok-put_path.ensures.ok
