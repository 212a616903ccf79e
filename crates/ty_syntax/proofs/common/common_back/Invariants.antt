use Rattle.std.proofs.Common.{◌≡◌, ◌+◌, ◌-◌, ◌≤◌, drop, length}
use Rattle.ty_syntax.proofs.common.common_back.Given as goal

abbrev pub invariant-loop-back : goal.invariant-loop-back
invariant-loop-back l = record {
  same : drop (length l.one - l.back) l.one ≡ drop (length l.other - l.back) l.other;
  one : l.front + l.back ≤ length l.one;
  other : l.front + l.back ≤ length l.other;
}

abbrev pub decreases-loop-back : goal.decreases-loop-back
decreases-loop-back l = l.back
