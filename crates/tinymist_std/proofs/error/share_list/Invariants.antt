use Rattle.std.proofs.Common.{◌≡◌, take}
use Rattle.tinymist_std.specs.Error.{arguments_of}
use Rattle.tinymist_std.proofs.error.share_list.Given as goal

abbrev pub invariant-loop-name : goal.invariant-loop-name
invariant-loop-name l = arguments_of l.again.items ≡ arguments_of (take l.name-index l.args.items)
