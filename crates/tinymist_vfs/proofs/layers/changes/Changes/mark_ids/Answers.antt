use Rattle.std.proofs.Common.{subst, []}
use Rattle.std.specs.FinMap as map
use Rattle.std.specs.Map.Iter.{deref_pair}
use Rattle.std.proofs.lemmas.Map.Iter.{iter_end}
use Rattle.ty_model.specs.Version as plain
use Rattle.ty_model.specs.Touched.{IsMarked}
use Rattle.tinymist_vfs.proofs.Maps.{keys_by_id}
use Rattle.std.proofs.Common.{ap, sym, ◌∙◌}
use Rattle.tinymist_vfs.proofs.Steps.{mark_id_step, ids_so_far}
use Rattle.tinymist_vfs.proofs.layers.changes.Changes.mark_ids.Goals as goal

pub loop-id-preserved : goal.loop-id-preserved
loop-id-preserved g c = rw c.either-differs.ensures (mark_id_step c.args.old.now c.args.new.now c.args.revision _ _ _ _ _ c.loop-id.yielded (c.in-Some.id, c.in-Some.field-0-1) c.loop-id.invariant c.in_ok-more.ensures)

pub returns : goal.returns
returns g c =
    let all = iter_end deref_pair c.old.inside.by_id.entries c.loop-id.yielded _ _ _ _ (c.into_iter-id-iterator.ensures.into_iter_gives ∙ c.iter-id-items.ensures.rest) c.loop-id.yielded_by c.in-None.is c.next.ensures.steps in
    let keys = ids_so_far c.old.inside.by_id.entries c.loop-id.yielded all.0 ∙ sym (keys_by_id c.old.inside.by_id.entries c.iter-id-items.ensures.ascending) ∙ ap (λ (l : plain.Layers). map.keys l.by_id) c.old.view_is in
    subst (λ ks. IsMarked c.args.old.now c.args.new.now c.args.revision c.args.self.now ks [] c.loop-id.differs c.loop-id.self) keys c.loop-id.invariant
