use Rattle.std.proofs.Common.{◌≡◌, ◌-◌, ◌&&◌, false, arith}
use Rattle.ty_syntax.specs.Text.{is_place}
use Rattle.ty_syntax.proofs.Commons.{some_front, shorter_front}
use Rattle.ty_syntax.proofs.common.common_front.Goals as goal

pub overflow_sub-front : goal.overflow_sub-front
overflow_sub-front c =
    let none : (is_place c.args.one.now c.loop-front.front && is_place c.args.other.now c.loop-front.front) ≡ false = cc in
    some_front c.args.one.now c.args.other.now c.loop-front.front c.utf8.one c.utf8.other none

pub loop-front-smaller : goal.loop-front-smaller
loop-front-smaller c =
    let none : (is_place c.args.one.now c.loop-front.front && is_place c.args.other.now c.loop-front.front) ≡ false = cc in
    omega (arith, some_front c.args.one.now c.args.other.now c.loop-front.front c.utf8.one c.utf8.other none)

pub loop-front-preserved : goal.loop-front-preserved
loop-front-preserved c = record {
  same = shorter_front c.args.one.now c.args.other.now (c.loop-front.front - 1) c.loop-front.front (omega arith) c.loop-front.invariant.same;
  one = omega (arith, c.loop-front.invariant.one);
  other = omega (arith, c.loop-front.invariant.other);
}
