use Rattle.std.proofs.Common.{◌≡◌, ◌+◌, ◌≤◌, refl, subst, ◌∙◌, arith}
use Rattle.ty_persist.specs.Shape.{node_contents, IsAvl}
use Rattle.ty_persist.proofs.Turns.{lowered_left}
use Rattle.ty_persist.proofs.tree.put.turn_left.Goals as goal

pub invariant_of-side-2 : goal.invariant_of-side-2
invariant_of-side-2 g c =
    let n = c.args.node.now in
    let child = c.in-Some.child.now in
    let inner = rw (← c.in-Some.ensures.value) at (subst (IsAvl g.K.Ord.cmp) c.in-Fork.is c.side.invariant) in
    let is : n.right ≡ node_contents child = rw (← c.side.view_is, c.in-Fork.is, ← c.in-Some.ensures.value) refl in
    let higher : n.left.height + 1 ≤ n.right.height = omega (arith, c.height.ensures.height, c.height-2.ensures.height, c.if-height.false) in
    let outer : child.left.height ≤ child.right.height = omega (arith, c.height-3.ensures.height, c.height-4.ensures.height, c.if-height-2.false) in
    lowered_left g.K.Ord.cmp n child c.requires.balanced inner is c.height-4.ensures.low c.height-2.ensures.low higher outer c.hang_left-outer.new.child
    c.hang_left-outer.ensures.inner c.hang_left-outer.ensures.lowered (c.hang_left-outer.ensures.left ∙ c.replace-left.ensures.value)
    (rw c.replace-left.ensures.value at c.hang_left-outer.ensures.height)
