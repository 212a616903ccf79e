use Rattle.std.proofs.Common.{length}
use Rattle.ty_persist.proofs.tree.Tree.+put.Given as goal

-- each side has fewer entries
abbrev pub decreases-put : goal.decreases-put
decreases-put g l = length l.self.now.entries
