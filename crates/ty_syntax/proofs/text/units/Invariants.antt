use Rattle.std.proofs.Common.{◌≡◌, ◌≤◌, ◌*◌, take}
use Rattle.ty_syntax.specs.Text.{units}
use Rattle.ty_syntax.proofs.text.units.Given as goal

abbrev pub invariant-loop-byte : goal.invariant-loop-byte
invariant-loop-byte l = (l.units ≡ units (take l.byte-index l.bytes)) × (l.units ≤ 2 * l.byte-index)
