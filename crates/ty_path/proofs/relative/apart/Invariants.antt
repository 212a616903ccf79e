-- What is left of the two is apart as the two were.
use Rattle.std.proofs.Common.{◌≡◌, length}
use denote.Text.{Utf8}
use denote.Shadow.{shadow}
use Rattle.ty_model.specs.Paths.{apart, components}
use Rattle.ty_path.proofs.relative.apart.Given as goal

abbrev pub invariant-loop-next : goal.invariant-loop-next
invariant-loop-next l = shadow (Utf8 l.down) × shadow (Utf8 l.up) × (apart (components l.down) (components l.up) ≡ apart (components l.path) (components l.base))

abbrev pub decreases-loop-next : goal.decreases-loop-next
decreases-loop-next l = length (components l.down)
