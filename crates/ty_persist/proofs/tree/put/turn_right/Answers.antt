use Rattle.std.proofs.Common.{◌≡◌, ◌+◌, ◌≤◌, refl, subst, ◌∙◌, arith}
use Rattle.ty_persist.specs.Shape.{node_contents, IsAvl}
use Rattle.ty_persist.proofs.Turns.{lowered_right}
use Rattle.ty_persist.proofs.tree.put.turn_right.Goals as goal

pub invariant_of-side-2 : goal.invariant_of-side-2
invariant_of-side-2 g c =
    let n = c.args.node.now in
    let child = c.in-Some.child.now in
    let inner = rw (← c.in-Some.ensures.value) at (subst (IsAvl g.K.Ord.cmp) c.in-Fork.is c.side.invariant) in
    let is : n.left ≡ node_contents child = rw (← c.side.view_is, c.in-Fork.is, ← c.in-Some.ensures.value) refl in
    let higher : n.right.height + 1 ≤ n.left.height = omega (arith, c.height.ensures.height, c.height-2.ensures.height, c.if-height.false) in
    let outer : child.right.height ≤ child.left.height = omega (arith, c.height-3.ensures.height, c.height-4.ensures.height, c.if-height-2.false) in
    lowered_right g.K.Ord.cmp n child c.requires.balanced inner is c.height-4.ensures.low c.height-2.ensures.low higher outer c.hang_right-outer.new.child
    c.hang_right-outer.ensures.inner c.hang_right-outer.ensures.lowered (c.hang_right-outer.ensures.right ∙ c.replace-right.ensures.value)
    (rw c.replace-right.ensures.value at c.hang_right-outer.ensures.height)
