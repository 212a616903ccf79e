use Rattle.std.proofs.Common.{subst, List}
use Rattle.std.specs.Prelude.{OnOk}
use Rattle.ty_model.specs.Batch as change
use Rattle.ty_model.specs.Standing.{IsCommit, Stands, past_after, version_with}
use Rattle.tinymist_vfs.proofs.Commit.{left_commit, left_stands}
use Rattle.tinymist_vfs.proofs.batch.revise.RevisingVfs+R+H.finish.Goals as goal

pub returns-clause-commit : goal.returns-clause-commit
returns-clause-commit g c =
    subst (λ (b : List change.Item). OnOk c.commit-answer.result (IsCommit (g.H.HoldsVfs.kept c.args.self.holder.now).held b (g.H.HoldsVfs.kept c.commit-answer.new.self).held)) c.in_ok-batch.ensures
    (left_commit g.H.HoldsVfs.kept g.H.HoldsVfs.with_held g.met.H.HoldsVfs.holds c.args.self.holder.now c.commit-answer.new.self c.in_ok-batch.batch c.commit-answer.result c.commit-answer.ensures.ok)

pub returns-clause-standing : goal.returns-clause-standing
returns-clause-standing g c = λ resolver past s.
    subst (λ (b : List change.Item). OnOk c.commit-answer.result (Stands (g.H.HoldsVfs.kept c.commit-answer.new.self).held resolver (past_after (g.H.HoldsVfs.kept c.args.self.holder.now).held.space (version_with (g.H.HoldsVfs.kept c.args.self.holder.now).held resolver) past b))) c.in_ok-batch.ensures
    (left_stands g.H.HoldsVfs.kept g.H.HoldsVfs.with_held g.met.H.HoldsVfs.holds c.args.self.holder.now c.commit-answer.new.self c.in_ok-batch.batch resolver past s c.commit-answer.result c.commit-answer.ensures.ok)
