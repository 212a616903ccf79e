use Rattle.std.proofs.Common.{[], append-nil}
use Rattle.ty_model.proofs.Marks.{join_marked}
use Rattle.tinymist_vfs.proofs.layers.changes.Changes.mark_clear.Goals as goal

pub returns : goal.returns
returns g c = rw c.either.ensures (rw (append-nil _) at (join_marked c.args.old.now c.args.new.now c.args.revision _ _ _ _ [] [] _ _ _ c.in_ok-ids.ensures c.in_ok-paths.ensures))
