use Rattle.std.proofs.Common.{sym, ◌∙◌}
use Rattle.std.specs.Map.Iter.{deref_pair}
use Rattle.std.proofs.lemmas.Map.Iter.{iter_end}
use Rattle.tinymist_vfs.proofs.Maps.{keys_by_id}
use Rattle.tinymist_vfs.proofs.Steps.{id_step, ids_so_far}
use Rattle.tinymist_vfs.proofs.vfs.listing.ids_of.Goals as goal

pub loop-id-preserved : goal.loop-id-preserved
loop-id-preserved c = id_step c.loop-id.ids.items c.loop-id.yielded (c.in-Some.id, c.in-Some.field-0-1) c.in_ok-share.field-0 _ c.loop-id.invariant c.in_ok-share.ensures c.in_ok-push.ensures.items

pub returns : goal.returns
returns c =
    let all = iter_end deref_pair c.args.files.now.entries c.loop-id.yielded _ _ _ _ (c.into_iter-id-iterator.ensures.into_iter_gives ∙ c.iter-id-items.ensures.rest) c.loop-id.yielded_by c.in-None.is c.next.ensures.steps in
    c.loop-id.invariant ∙ ids_so_far c.args.files.now.entries c.loop-id.yielded all.0 ∙ sym (keys_by_id c.args.files.now.entries c.iter-id-items.ensures.ascending)
