use Rattle.std.proofs.Common.{subst, List}
use Rattle.std.specs.Prelude.{IsErr}
use Rattle.ty_model.specs.Batch as change
use Rattle.tinymist_vfs.specs.Items.{items_of}
use Rattle.tinymist_vfs.specs.Commits.{is_full}
use Rattle.tinymist_vfs.proofs.Full.{full_refused}
use Rattle.tinymist_vfs.proofs.vfs.Vfs.commit_batch.Goals as goal

pub returns-clause-exact : goal.returns-clause-exact
returns-clause-exact g c =
    subst (λ (b : List change.Item). is_full c.args.self.now.held b → IsErr c.commit_blank.result) c.items.ensures
    (full_refused c.args.self.now c.commit_blank.new.self (items_of c.items.result.now) c.commit_blank.result c.commit_blank.ensures.small c.commit_blank.ensures.ok)
