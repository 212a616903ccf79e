use Rattle.std.proofs.Common.{[]}
use Rattle.ty_model.proofs.Marks.{join_marked}
use Rattle.tinymist_vfs.proofs.Steps.{files_texts}
use Rattle.tinymist_vfs.proofs.layers.changes.Changes.mark_set.Goals as goal

pub returns : goal.returns
returns g c =
    rw (c.either.ensures, files_texts c.args.set.now.inserts.items, ← c.deref.ensures.value, ← c.deref-2.ensures.value)
    (join_marked c.args.old.now c.args.new.now c.args.revision _ _ _ [] [] _ _ _ _ c.in_ok-removed.ensures c.in_ok-inserted.ensures)
