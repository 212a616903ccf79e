use Rattle.ty_model.proofs.Marks.{one_test}
use Rattle.ty_model.proofs.Tests.{same_answer-Decides}
use Rattle.ty_cells.proofs.snapshot.FileSnapshot.same_as.Goals as goal

pub returns : goal.returns
returns c = one_test _ _ _ c.says_same.ensures (same_answer-Decides c.args.self.now c.args.other.now)
