-- A key taken out of one side of a node.
use Rattle.std.proofs.Common.{◌≡◌, ◌+◌, ◌^◌, ◌≤◌, List, ◌∷◌, ◌++◌, length, max, Option, Some, None, is_some, true, refl, sym, ap, subst, ◌∙◌}
use Rattle.std.specs.declared.cmp.Ordering.{Ordering}
use Rattle.std.specs.declared.cmp.Ordering.TheVariants.{Less, Greater}
use Rattle.std.specs.Option.{option_map}
use Rattle.std.specs.BTreeMap.{is_at}
use Rattle.std.specs.Cmp.{IsTotalOrder}
use Rattle.ty_persist.specs.Contents.{Contents, IsAscending, IsLow}
use Rattle.ty_persist.specs.Shape.{pair, node_contents, IsBalanced}
use Rattle.ty_persist.specs.Cuts.{IsCut}
use Rattle.ty_persist.specs.declared.tree.Node.{Node}
use Rattle.ty_persist.specs.declared.tree.cut.Removal.{Removal}
use Rattle.ty_persist.specs.declared.tree.cut.Removal.TheVariants.{Absent, Gone, Waits}
use Rattle.ty_persist.proofs.Entries.{lookup_left, lookup_right, remove_left, remove_right, ascending_remove}
use Rattle.ty_persist.proofs.Low.{low_fork}

-- a node whose sides are low and near each other is balanced
pub balanced_again : {K V : Type 0} (R : K → K → Ordering) (n : Node K V) → IsAscending R (node_contents n).entries → IsLow n.left → IsLow n.right → n.height ≡ max n.left.height n.right.height + 1 → n.left.height ≤ n.right.height + 1 → n.right.height ≤ n.left.height + 1 → IsBalanced R n
balanced_again R n s l r h near near' =
    let low = low_fork n.left n.right (pair n.entry.value) l r near near' in
    (s, subst (λ k. 2 ^ k ≤ (length (node_contents n).entries + 1) ^ 2) (sym h) low, h, near, near')

module _ {K V S : Type 0} {R : K → K → Ordering} (o : IsTotalOrder R) (k : K) (seen : V → S) where
  -- what a removal leaves
  pub cut_ascends : (p : Removal V) (es new : List (K × V)) → IsAscending R es → IsCut R k seen es new p → IsAscending R new
  cut_ascends Absent es new s h = subst (IsAscending R) (sym h.1) s
  cut_ascends (Gone b) es new s h = subst (IsAscending R) (sym h.1) (ascending_remove o (is_at (R k)) es s)
  cut_ascends (Waits b) es new s h = subst (IsAscending R) (sym h.1) s

  module _ (l : List (K × V)) (e : K × V) (r : List (K × V)) (s : IsAscending R (l ++ e ∷ r)) where
    -- a removal from the left side is one from the whole
    pub cut_in_left : (p : Removal V) (l' : List (K × V)) → R k e.0 ≡ Less → IsCut R k seen l l' p → IsCut R k seen (l ++ e ∷ r) (l' ++ e ∷ r) p
    cut_in_left Absent l' h is = (lookup_left o k l e r s h ∙ is.0, ap (λ m. m ++ e ∷ r) is.1)
    cut_in_left (Gone b) l' h is = (ap (option_map seen) (lookup_left o k l e r s h) ∙ is.0, ap (λ m. m ++ e ∷ r) is.1 ∙ sym (remove_left o k l e r s h))
    cut_in_left (Waits b) l' h is = (ap (option_map seen) (lookup_left o k l e r s h) ∙ is.0, ap (λ m. m ++ e ∷ r) is.1)

    -- the same of the right side
    pub cut_in_right : (p : Removal V) (r' : List (K × V)) → R k e.0 ≡ Greater → IsCut R k seen r r' p → IsCut R k seen (l ++ e ∷ r) (l ++ e ∷ r') p
    cut_in_right Absent r' h is = (lookup_right o k l e r s h ∙ is.0, ap (λ m. l ++ e ∷ m) is.1)
    cut_in_right (Gone b) r' h is = (ap (option_map seen) (lookup_right o k l e r s h) ∙ is.0, ap (λ m. l ++ e ∷ m) is.1 ∙ sym (remove_right o k l e r s h))
    cut_in_right (Waits b) r' h is = (ap (option_map seen) (lookup_right o k l e r s h) ∙ is.0, ap (λ m. l ++ e ∷ m) is.1)

  -- a balanced node after a removal from a side that keeps its height
  module _ (n : Node K V) (good : IsBalanced R n) where
    pub balanced_cut_left : (p : Removal V) (l : Contents K V) → R k n.entry.value.key ≡ Less → IsCut R k seen n.left.entries l.entries p → l.height ≡ n.left.height → IsLow l → IsLow n.right → IsBalanced R (record n { left = l })
    balanced_cut_left p l h is same low low' =
        let ascends = cut_ascends p _ _ good.0 (cut_in_left n.left.entries (pair n.entry.value) n.right.entries good.0 p l.entries h is) in
        balanced_again R (record n { left = l }) ascends low low' (rw same good.2) (rw same good.3) (rw same good.4)

    pub balanced_cut_right : (p : Removal V) (r : Contents K V) → R k n.entry.value.key ≡ Greater → IsCut R k seen n.right.entries r.entries p → r.height ≡ n.right.height → IsLow n.left → IsLow r → IsBalanced R (record n { right = r })
    balanced_cut_right p r h is same low low' =
        let ascends = cut_ascends p _ _ good.0 (cut_in_right n.left.entries (pair n.entry.value) n.right.entries good.0 p r.entries h is) in
        balanced_again R (record n { right = r }) ascends low low' (rw same good.2) (rw same good.3) (rw same good.4)

-- what has a value that is seen is there
pub found_by_seen : {V S : Type 0} (seen : V → S) (there : Option V) (s : S) → option_map seen there ≡ Some s → is_some there ≡ true
found_by_seen seen None s h = cc
found_by_seen seen (Some v) s h = refl
