use Rattle.tinymist_vfs.proofs.Stood.{new_stands}
use Rattle.tinymist_vfs.proofs.vfs.Vfs.new.Goals as goal

pub returns-clause-standing : goal.returns-clause-standing
returns-clause-standing g c = new_stands c.in_ok-space.space _ _ _ _ c.new-2.ensures c.new.ensures c.next.ensures
