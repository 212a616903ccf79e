use Rattle.std.proofs.Common.{◌∙◌, ap, sym, Some, None, append-nil}
use Rattle.std.specs.Option.{option_map}
use Rattle.std.specs.Map.Iter.{deref_pair}
use Rattle.std.proofs.lemmas.Map.Iter.{iter_end}
use Rattle.tinymist_package.specs.Folders.{plain_entry}
use Rattle.tinymist_package.proofs.FolderMaps.{entries_step, listed_all}
use Rattle.tinymist_package.proofs.folders.memory.entries_in.Goals as goal

pub loop-path-preserved-in-Continue-branch-3 : goal.loop-path-preserved-in-Continue-branch-3
loop-path-preserved-in-Continue-branch-3 c =
    entries_step c.args.folder.now c.loop-path.yielded (c.in-Some.path, c.in-Some.stored) c.loop-path.entries.items c.push.new.self.items (Some c.in-Some-2.entry)
    c.loop-path.invariant (ap (option_map plain_entry) (sym c.in-Some-2.is) ∙ c.in_ok-entry.ensures) c.in_ok-push-in-Some-2.ensures.items

pub loop-path-preserved : goal.loop-path-preserved
loop-path-preserved c =
    entries_step c.args.folder.now c.loop-path.yielded (c.in-Some.path, c.in-Some.stored) c.loop-path.entries.items c.loop-path.entries.items None
    c.loop-path.invariant (ap (option_map plain_entry) (sym c.in-None-2.is) ∙ c.in_ok-entry.ensures) (sym (append-nil _))

pub returns : goal.returns
returns c =
    let all = iter_end deref_pair c.args.tree.now.entries c.loop-path.yielded _ _ _ _ (c.into_iter-path-iterator.ensures.into_iter_gives ∙ c.iter-path-items.ensures.rest) c.loop-path.yielded_by c.in-None.is c.next.ensures.steps in
    c.loop-path.invariant
    ∙ listed_all c.args.folder.now c.args.tree.now.entries c.loop-path.yielded all.0 c.iter-path-items.ensures.ascending
