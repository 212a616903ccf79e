use Rattle.std.proofs.Common.{◌≡◌, take, map}
use Rattle.tinymist_plain.specs.Kept.{version_of}
use Rattle.tinymist_plain.proofs.space.Space.copy.Given as goal

abbrev pub invariant-loop-version : goal.invariant-loop-version
invariant-loop-version l = map version_of l.past.items ≡ map version_of (take l.version-index l.self.past.items)
