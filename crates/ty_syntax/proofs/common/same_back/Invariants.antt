use Rattle.std.proofs.Common.{◌≡◌, ◌-◌, length, drop}
use Rattle.ty_syntax.proofs.common.same_back.Given as goal

abbrev pub invariant-loop-back : goal.invariant-loop-back
invariant-loop-back l = drop (length l.one - l.back) l.one ≡ drop (length l.other - l.back) l.other
