-- What was read and what is left answer together.
use Rattle.std.proofs.Common.{◌≡◌, ◌&&◌, drop}
use Rattle.ty_path.specs.Clean.{are_plain}
use Rattle.ty_path.proofs.CleanLaws.{plain_from}
use Rattle.ty_path.proofs.pass.has_plain_parts.Given as goal

abbrev pub invariant-loop-byte : goal.invariant-loop-byte
invariant-loop-byte l = are_plain l.text ≡ (l.plain && plain_from l.begins (drop l.byte-index l.text))
