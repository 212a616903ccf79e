use Rattle.tinymist_vfs.proofs.Stood.{fork_stands}
use Rattle.tinymist_vfs.proofs.vfs.Vfs.fork.Goals as goal

pub returns-clause-standing : goal.returns-clause-standing
returns-clause-standing g c = fork_stands c.in_ok-space.space _ _ c.in_ok-layers.layers _ _ c.new.ensures c.forget_drops.ensures c.next.ensures
