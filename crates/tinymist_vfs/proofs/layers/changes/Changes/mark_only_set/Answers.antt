use Rattle.tinymist_vfs.specs.ChangeSet.{removed_paths, inserted_files}
use Rattle.tinymist_vfs.proofs.Steps.{files_texts}
use Rattle.tinymist_vfs.proofs.Told.{join_told}
use Rattle.tinymist_vfs.proofs.layers.changes.Changes.mark_only_set.Goals as goal

pub returns : goal.returns
returns g c =
    let removed = rw c.deref.ensures.value at c.in_ok-removed.ensures in
    let inserted = rw (c.deref-2.ensures.value, ← files_texts c.args.set.now.inserts.items) at c.in_ok-inserted.ensures in
    rw c.either.ensures
    (join_told c.args.old.now c.args.new.now c.args.revision _ _ _ (removed_paths c.args.set.now) (inserted_files c.args.set.now) _ _ c.requires removed inserted)
