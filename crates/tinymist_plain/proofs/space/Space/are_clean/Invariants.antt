use Rattle.std.proofs.Common.{◌≡◌, drop}
use Rattle.tinymist_plain.specs.Kept.{all_clean}
use Rattle.tinymist_plain.proofs.space.Space.are_clean.Given as goal

abbrev pub invariant-loop-id : goal.invariant-loop-id
invariant-loop-id l = all_clean l.self l.revision (drop l.id-index l.ids) ≡ all_clean l.self l.revision l.ids
