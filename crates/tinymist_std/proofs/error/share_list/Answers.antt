use Rattle.std.proofs.Common.{◌≤◌, length, ap, ◌∙◌}
use Rattle.std.proofs.lemmas.List.{take_all}
use Rattle.tinymist_std.specs.Error.{arguments_of}
use Rattle.tinymist_std.proofs.error.share_list.Goals as goal

pub returns : goal.returns
returns c =
    let past : length c.args.args.now.items ≤ c.loop-name.name-index = rw c.deref-name-items.ensures.value at c.loop-name-test.false in
    c.loop-name.invariant ∙ ap arguments_of (take_all _ _ past)
