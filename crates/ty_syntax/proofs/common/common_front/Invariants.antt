use Rattle.std.proofs.Common.{◌≡◌, ◌≤◌, take, length}
use Rattle.ty_syntax.proofs.common.common_front.Given as goal

abbrev pub invariant-loop-front : goal.invariant-loop-front
invariant-loop-front l = record {
  same : take l.front l.one ≡ take l.front l.other;
  one : l.front ≤ length l.one;
  other : l.front ≤ length l.other;
}

abbrev pub decreases-loop-front : goal.decreases-loop-front
decreases-loop-front l = l.front
