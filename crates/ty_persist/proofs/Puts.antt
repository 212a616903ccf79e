-- A value put in one side of a node: the keys still ascend, and no entry is lost.
use Rattle.std.proofs.Common.{◌≡◌, ◌+◌, ◌≤◌, Bool, cond, List, ◌∷◌, ◌++◌, length, Option, Some, None, is_some, IsSome, Result, Ok, Err, IfOk, OnOk, OnErr, refl, sym, ap, subst, ◌∙◌, arith}
use Rattle.std.specs.declared.cmp.Ordering.{Ordering}
use Rattle.std.specs.declared.cmp.Ordering.TheVariants.{Less, Equal, Greater}
use Rattle.std.specs.Map.{lookup}
use Rattle.std.specs.BTreeMap.{is_at}
use Rattle.std.specs.Cmp.{IsTotalOrder}
use Rattle.ty_persist.specs.Contents.{Contents, put_entry, IsAscending}
use Rattle.ty_persist.specs.Shape.{pair, IsBalanced}
use Rattle.ty_persist.specs.Puts.{IsPut, IsBefore}
use Rattle.std.specs.declared.sync.Arc.{Arc}
use Rattle.std.specs.declared.alloc.Global.{Global}
use Rattle.ty_persist.specs.declared.entry.Entry.{Entry}
use Rattle.ty_persist.specs.declared.tree.Node.{Node}
use Rattle.ty_persist.specs.declared.tree.put.Outcome.{Outcome}
use Rattle.ty_persist.specs.declared.tree.put.Outcome.TheVariants.{Replaced, Added, Waits}
use Rattle.ty_persist.proofs.Entries.{lookup_left, lookup_middle, lookup_right, put_left, put_right, put_middle, ascending_put, length_put}
use Rattle.ty_persist.proofs.Low.{low_more}

module _ {K V : Type 0} {R : K → K → Ordering} (o : IsTotalOrder R) (k : K) (v : V) where
  -- where the key is there
  pub as_many : (es : List (K × V)) → IsAscending R es → IsSome (lookup (is_at (R k)) es) → length (put_entry R es k v) ≡ length es
  as_many es s there =
      length_put o k v es s
      ∙ elim (lookup (is_at (R k)) es) as (λ f. IsSome f → length es + cond (is_some f) 0 1 ≡ length es) [
        | None ↦ λ h. cc
        | Some x ↦ λ h. omega arith
      ] there

  -- no entry is lost
  pub no_fewer : (es : List (K × V)) → IsAscending R es → length es ≤ length (put_entry R es k v)
  no_fewer es s = let n = length_put o k v es s in omega arith

  -- what a put leaves
  pub put_keeps : (p : Outcome K V) (es new : List (K × V)) → IsAscending R es → IsPut R k v es new p → IsAscending R new × (length es ≤ length new)
  put_keeps (Replaced b) es new s h = (subst (IsAscending R) (sym h.1) (ascending_put o es k v s), rw h.1 (no_fewer es s))
  put_keeps Added es new s h = (subst (IsAscending R) (sym h.1) (ascending_put o es k v s), rw h.1 (no_fewer es s))
  put_keeps (Waits e) es new s h = (subst (IsAscending R) (sym h.1) s, rw h.1 (omega arith))

  module _ (l : List (K × V)) (e : K × V) (r : List (K × V)) (s : IsAscending R (l ++ e ∷ r)) where
    -- the key is on the side that it leads to
    pub there_left : IsSome (lookup (is_at (R k)) (l ++ e ∷ r)) → R k e.0 ≡ Less → IsSome (lookup (is_at (R k)) l)
    there_left there h = subst IsSome (lookup_left o k l e r s h) there

    pub there_right : IsSome (lookup (is_at (R k)) (l ++ e ∷ r)) → R k e.0 ≡ Greater → IsSome (lookup (is_at (R k)) r)
    there_right there h = subst IsSome (lookup_right o k l e r s h) there

    -- a put in the left side is one in the whole
    pub put_in_left : (p : Outcome K V) (l' : List (K × V)) → R k e.0 ≡ Less → IsPut R k v l l' p → IsPut R k v (l ++ e ∷ r) (l' ++ e ∷ r) p
    put_in_left (Replaced b) l' h is = (subst IsSome (sym (lookup_left o k l e r s h)) is.0, ap (λ m. m ++ e ∷ r) is.1 ∙ sym (put_left o k v l e r h))
    put_in_left Added l' h is = (lookup_left o k l e r s h ∙ is.0, ap (λ m. m ++ e ∷ r) is.1 ∙ sym (put_left o k v l e r h))
    put_in_left (Waits w) l' h is = (lookup_left o k l e r s h ∙ is.0, ap (λ m. m ++ e ∷ r) is.1, is.2)

    -- the same of the right side
    pub put_in_right : (p : Outcome K V) (r' : List (K × V)) → R k e.0 ≡ Greater → IsPut R k v r r' p → IsPut R k v (l ++ e ∷ r) (l ++ e ∷ r') p
    put_in_right (Replaced b) r' h is = (subst IsSome (sym (lookup_right o k l e r s h)) is.0, ap (λ m. l ++ e ∷ m) is.1 ∙ sym (put_right o k l e r s v h))
    put_in_right Added r' h is = (lookup_right o k l e r s h ∙ is.0, ap (λ m. l ++ e ∷ m) is.1 ∙ sym (put_right o k l e r s v h))
    put_in_right (Waits w) r' h is = (lookup_right o k l e r s h ∙ is.0, ap (λ m. l ++ e ∷ m) is.1, is.2)

    -- and of the entry itself
    pub put_in_middle : (b : Option V) (e' : K × V) → R k e.0 ≡ Equal → e' ≡ (k, v) → IsPut R k v (l ++ e ∷ r) (l ++ e' ∷ r) (Replaced b)
    put_in_middle b e' h a =
        let there : lookup (is_at (R k)) (l ++ e ∷ r) ≡ Some e.1 = lookup_middle o k l e r s h in
        (subst IsSome (sym there) refl, ap (λ d. l ++ d ∷ r) a ∙ sym (put_middle o k l e r s v h))

    -- the value before, by the side that it is on
    pub before_left : {S : Type 0} (seen : V → S) (wanted : Bool) (p : Outcome K V) → R k e.0 ≡ Less → IsBefore seen wanted (lookup (is_at (R k)) l) p → IsBefore seen wanted (lookup (is_at (R k)) (l ++ e ∷ r)) p
    before_left seen wanted p h is = subst (λ f. IsBefore seen wanted f p) (sym (lookup_left o k l e r s h)) is

    pub before_right : {S : Type 0} (seen : V → S) (wanted : Bool) (p : Outcome K V) → R k e.0 ≡ Greater → IsBefore seen wanted (lookup (is_at (R k)) r) p → IsBefore seen wanted (lookup (is_at (R k)) (l ++ e ∷ r)) p
    before_right seen wanted p h is = subst (λ f. IsBefore seen wanted f p) (sym (lookup_right o k l e r s h)) is

    pub absent_left : lookup (is_at (R k)) (l ++ e ∷ r) ≡ None → R k e.0 ≡ Less → lookup (is_at (R k)) l ≡ None
    absent_left none h = sym (lookup_left o k l e r s h) ∙ none

    pub absent_right : lookup (is_at (R k)) (l ++ e ∷ r) ≡ None → R k e.0 ≡ Greater → lookup (is_at (R k)) r ≡ None
    absent_right none h = sym (lookup_right o k l e r s h) ∙ none

  -- a new key had no value before
  pub before_absent : {S : Type 0} (seen : V → S) (wanted : Bool) (there : Option V) (es new : List (K × V)) (p : Outcome K V) → lookup (is_at (R k)) es ≡ None → IsPut R k v es new p → IsBefore seen wanted there p
  before_absent seen wanted there es new (Replaced b) none is = let no = subst IsSome none is.0 in cc
  before_absent seen wanted there es new Added none is = tt
  before_absent seen wanted there es new (Waits e) none is = tt

  pub settled_before : {S E : Type 0} (seen : V → S) (wanted : Bool) (there : Option V) (es new : List (K × V)) (res : Result (Outcome K V) E) → lookup (is_at (R k)) es ≡ None → IfOk res (λ p. IsPut R k v es new p) → IfOk res (λ p. IsBefore seen wanted there p)
  settled_before seen wanted there es new (Ok p) none is = before_absent seen wanted there es new p none is
  settled_before seen wanted there es new (Err e) none is = tt

  -- ---- a balanced node after a put
  module _ (n : Node K V) (good : IsBalanced R n) where
    same_pair : (e : Entry K V) → e.key ≡ k → e.value ≡ v → pair e ≡ (k, v)
    same_pair e h w = cc

    -- in its left side, which keeps its height
    pub balanced_left : (p : Outcome K V) (l : Contents K V) → R k n.entry.value.key ≡ Less → IsPut R k v n.left.entries l.entries p → l.height ≡ n.left.height → IsBalanced R (record n { left = l })
    balanced_left p l h is same =
        let kept = put_keeps p _ _ good.0 (put_in_left n.left.entries (pair n.entry.value) n.right.entries good.0 p l.entries h is) in
        (kept.0, low_more n.height _ _ kept.1 good.1, rw same good.2, rw same good.3, rw same good.4)

    pub balanced_right : (p : Outcome K V) (r : Contents K V) → R k n.entry.value.key ≡ Greater → IsPut R k v n.right.entries r.entries p → r.height ≡ n.right.height → IsBalanced R (record n { right = r })
    balanced_right p r h is same =
        let kept = put_keeps p _ _ good.0 (put_in_right n.left.entries (pair n.entry.value) n.right.entries good.0 p r.entries h is) in
        (kept.0, low_more n.height _ _ kept.1 good.1, rw same good.2, rw same good.3, rw same good.4)

    -- at its entry
    pub balanced_middle : {X E : Type 0} (res : Result X E) (a : Arc (Entry K V) Global) → R k n.entry.value.key ≡ Equal → OnOk res (a.value.key ≡ k) → OnOk res (a.value.value ≡ v) → OnErr res (a ≡ n.entry) → IsBalanced R (record n { entry = a })
    balanced_middle (Ok x) a h key value same =
        let kept = put_keeps (Replaced None) _ _ good.0 (put_in_middle n.left.entries (pair n.entry.value) n.right.entries good.0 None (pair a.value) h (same_pair a.value key value)) in
        (kept.0, low_more n.height _ _ kept.1 good.1, good.2, good.3, good.4)
    balanced_middle (Err x) a h key value same = subst (λ b. IsBalanced R (record n { entry = b })) (sym same) good

    -- in its lower side, which has grown by at most one
    pub grown_left : (l : Contents K V) → R k n.entry.value.key ≡ Less → lookup (is_at (R k)) n.left.entries ≡ None → l.entries ≡ put_entry R n.left.entries k v → n.left.height ≤ l.height → l.height ≤ n.left.height + 1 → n.left.height + 1 ≤ n.right.height → IsBalanced R (record n { left = l })
    grown_left l h none is from to lower =
        let kept = put_keeps Added _ _ good.0 (put_in_left n.left.entries (pair n.entry.value) n.right.entries good.0 Added l.entries h (none, is)) in
        let high = good.2 in
        let near = good.4 in
        (kept.0, low_more n.height _ _ kept.1 good.1, omega arith, omega arith, omega arith)

    pub grown_right : (r : Contents K V) → R k n.entry.value.key ≡ Greater → lookup (is_at (R k)) n.right.entries ≡ None → r.entries ≡ put_entry R n.right.entries k v → n.right.height ≤ r.height → r.height ≤ n.right.height + 1 → n.right.height + 1 ≤ n.left.height → IsBalanced R (record n { right = r })
    grown_right r h none is from to lower =
        let kept = put_keeps Added _ _ good.0 (put_in_right n.left.entries (pair n.entry.value) n.right.entries good.0 Added r.entries h (none, is)) in
        let high = good.2 in
        let near = good.3 in
        (kept.0, low_more n.height _ _ kept.1 good.1, omega arith, omega arith, omega arith)
