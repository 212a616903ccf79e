use Rattle.std.proofs.Common.{subst, []}
use Rattle.std.specs.FinMap as map
use Rattle.std.specs.Map.Iter.{deref_pair}
use Rattle.std.proofs.lemmas.Map.Iter.{iter_end}
use Rattle.ty_model.specs.Version as plain
use Rattle.ty_model.specs.Touched.{IsMarked}
use Rattle.tinymist_vfs.proofs.Maps.{keys_by_text}
use Rattle.std.proofs.Common.{ap, sym, ◌∙◌}
use Rattle.tinymist_vfs.proofs.Steps.{mark_key_step, keys_so_far}
use Rattle.tinymist_vfs.proofs.layers.changes.Changes.mark_overlay.Goals as goal

pub loop-path-preserved : goal.loop-path-preserved
loop-path-preserved g c = rw c.either-differs.ensures (mark_key_step c.args.old.now c.args.new.now c.args.revision _ _ _ _ _ c.loop-path.yielded (c.in-Some.path, c.in-Some.field-0-1) c.loop-path.invariant c.in_ok-more.ensures)

pub returns : goal.returns
returns g c =
    let all = iter_end deref_pair c.old.inside.by_path.entries c.loop-path.yielded _ _ _ _ (c.into_iter-path-iterator.ensures.into_iter_gives ∙ c.iter-path-items.ensures.rest) c.loop-path.yielded_by c.in-None.is c.next.ensures.steps in
    let keys = keys_so_far c.old.inside.by_path.entries c.loop-path.yielded all.0 ∙ sym (keys_by_text c.old.inside.by_path.entries c.iter-path-items.ensures.ascending) ∙ ap (λ (l : plain.Layers). map.keys l.by_path) c.old.view_is in
    subst (λ ks. IsMarked c.args.old.now c.args.new.now c.args.revision c.args.self.now [] ks c.loop-path.differs c.loop-path.self) keys c.loop-path.invariant
