use Rattle.std.proofs.Common.{subst, List}
use Rattle.ty_model.specs.Batch as change
use Rattle.tinymist_vfs.specs.Commits.{IsStaged}
use Rattle.tinymist_vfs.proofs.Told.{only_marked}
use Rattle.tinymist_vfs.proofs.layers.changes.Changes.mark_all.Goals as goal

pub mark_only_set-requires : goal.mark_only_set-requires
mark_only_set-requires g c = subst (λ (b : List change.Item). IsStaged c.args.old.now b c.args.new.now) c.in-Some.ensures c.requires

pub returns-in-Some : goal.returns-in-Some
returns-in-Some g c = only_marked c.args.old.now c.args.new.now c.args.revision _ _ _ _ _ _ c.in-Some.ensures c.mark_only_set.ensures
