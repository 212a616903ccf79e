use Rattle.std.proofs.Common.{ap, sym, ◌∙◌}
use Rattle.std.specs.Map.Iter.{deref_pair}
use Rattle.std.proofs.lemmas.Map.Iter.{iter_end}
use Rattle.ty_model.specs.Batch.{dropped}
use Rattle.tinymist_vfs.specs.Maps.{path_map}
use Rattle.tinymist_vfs.proofs.Maps.{keys_by_text}
use Rattle.tinymist_vfs.proofs.Steps.{drop_key_step, keys_so_far}
use Rattle.tinymist_vfs.proofs.layers.drop_keys.Goals as goal

pub loop-path-preserved : goal.loop-path-preserved
loop-path-preserved g c = drop_key_step c.loop-path.yielded (c.in-Some.path, c.in-Some.field-0-1) c.in_ok-share.field-0 c.in_ok-share.ensures c.args.stamp _ _ _ c.loop-path.invariant c.in_ok-put_path.ensures.ok

pub returns : goal.returns
returns g c =
    let all = iter_end deref_pair c.args.files.now.entries c.loop-path.yielded _ _ _ _ (c.into_iter-path-iterator.ensures.into_iter_gives ∙ c.iter-path-items.ensures.rest) c.loop-path.yielded_by c.in-None.is c.next.ensures.steps in
    c.loop-path.invariant ∙ ap (dropped c.args.stamp (path_map c.args.drops.now.entries)) (keys_so_far c.args.files.now.entries c.loop-path.yielded all.0 ∙ sym (keys_by_text c.args.files.now.entries c.iter-path-items.ensures.ascending))
