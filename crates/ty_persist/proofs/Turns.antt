-- A child turned down below the node that it was a side of: it is still balanced.
use Rattle.std.proofs.Common.{◌≡◌, ◌+◌, ◌^◌, ◌≤◌, ◌∷◌, ◌++◌, length, max, sym, ap, subst, arith}
use Rattle.std.specs.declared.cmp.Ordering.{Ordering}
use Rattle.ty_persist.specs.Contents.{IsAscending, IsLow}
use Rattle.ty_persist.specs.Shape.{pair, node_contents, IsBalanced}
use Rattle.ty_persist.specs.declared.tree.Node.{Node}
use Rattle.ty_persist.proofs.Entries.{inner_left, inner_right}
use Rattle.ty_persist.proofs.Low.{low_fork}

module _ {K V : Type 0} (R : K → K → Ordering) (n child : Node K V) (good : IsBalanced R n) (inner : IsBalanced R child) where
  -- a child of the left side
  module _ (is : n.left ≡ node_contents child) (low_inner : IsLow child.right) (low_side : IsLow n.right) (higher : n.right.height + 1 ≤ n.left.height) (outer : child.right.height ≤ child.left.height) where
    near_right : (child.right.height ≤ n.right.height) × (n.right.height ≤ child.right.height + 1)
    near_right =
        let h = ap (λ t. t.height) is in
        let a = inner.2 in
        let a' = inner.3 in
        let b = good.3 in
        (omega arith, omega arith)

    pub lowered_right : (m : Node K V) → m.left ≡ child.right → m.entry ≡ n.entry → m.right ≡ n.right → m.height ≡ n.right.height + 1 → IsBalanced R m
    lowered_right m l e r h =
        let near = near_right in
        let to : child.right.height ≤ n.right.height + 1 = omega arith in
        let high : max child.right.height n.right.height + 1 ≡ n.right.height + 1 = omega arith in
        let s = subst (λ t. IsAscending R (t.entries ++ pair n.entry.value ∷ n.right.entries)) is good.0 in
        let low = subst (λ k. 2 ^ k ≤ (length (child.right.entries ++ pair n.entry.value ∷ n.right.entries) + 1) ^ 2) high (low_fork child.right n.right (pair n.entry.value) low_inner low_side to near.1) in
        rw (l, e, r, h) (inner_right R child.left.entries (pair child.entry.value) child.right.entries (pair n.entry.value) n.right.entries s, low, sym high, to, near.1)

  -- a child of the right side
  module _ (is : n.right ≡ node_contents child) (low_inner : IsLow child.left) (low_side : IsLow n.left) (higher : n.left.height + 1 ≤ n.right.height) (outer : child.left.height ≤ child.right.height) where
    near_left : (child.left.height ≤ n.left.height) × (n.left.height ≤ child.left.height + 1)
    near_left =
        let h = ap (λ t. t.height) is in
        let a = inner.2 in
        let a' = inner.4 in
        let b = good.4 in
        (omega arith, omega arith)

    pub lowered_left : (m : Node K V) → m.right ≡ child.left → m.entry ≡ n.entry → m.left ≡ n.left → m.height ≡ n.left.height + 1 → IsBalanced R m
    lowered_left m r e l h =
        let near = near_left in
        let to : child.left.height ≤ n.left.height + 1 = omega arith in
        let high : max n.left.height child.left.height + 1 ≡ n.left.height + 1 = omega arith in
        let s = subst (λ t. IsAscending R (n.left.entries ++ pair n.entry.value ∷ t.entries)) is good.0 in
        let low = subst (λ k. 2 ^ k ≤ (length (n.left.entries ++ pair n.entry.value ∷ child.left.entries) + 1) ^ 2) high (low_fork n.left child.left (pair n.entry.value) low_side low_inner near.1 to) in
        rw (r, e, l, h) (inner_left R n.left.entries (pair n.entry.value) child.left.entries (pair child.entry.value) child.right.entries s, low, sym high, near.1, to)
