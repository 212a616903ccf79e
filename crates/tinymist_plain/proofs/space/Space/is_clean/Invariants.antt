use Rattle.std.proofs.Common.{◌≡◌, drop, map}
use Rattle.tinymist_plain.specs.Kept.{version_of, same_past}
use Rattle.tinymist_plain.proofs.space.Space.is_clean.Given as goal

abbrev pub invariant-loop-version : goal.invariant-loop-version
invariant-loop-version l = same_past (version_of l.self.latest) l.revision l.id (map version_of (drop l.version-index l.self.past.items)) ≡ same_past (version_of l.self.latest) l.revision l.id (map version_of l.self.past.items)
