use Rattle.std.specs.List.{AllZip}
use Rattle.tinymist_std.proofs.parts.each_unlocked.Given as goal

abbrev pub invariant-loop-part : goal.invariant-loop-part
invariant-loop-part g l = AllZip (λ part given. g.F.Fn.post l.unlock (part, tt) given) l.yielded l.unlocked.items
