use Rattle.std.proofs.Common.{refl, sym, ap, subst}
use Rattle.ty_persist.specs.Contents.{IsAscending}
use Rattle.ty_persist.specs.Shape.{pair, IsAvl}
use Rattle.ty_persist.proofs.Entries.{ascending_one, ascending_put, put_less, put_equal, put_greater}
use Rattle.ty_persist.proofs.Puts.{there_left, there_right}
use Rattle.ty_persist.proofs.Low.{same_height}
use Rattle.ty_persist.proofs.tree.Tree.+with_entry.Goals as goal

pub fork-requires-clause-ascending : goal.fork-requires-clause-ascending
fork-requires-clause-ascending g t c = rw (c.new.ensures.entries, c.new-in-Leaf.ensures.entries) (ascending_one _ (pair c.args.entry.value))

pub with_left-requires-clause-ascending : goal.with_left-requires-clause-ascending
with_left-requires-clause-ascending g t c =
    let good = subst (IsAvl g.K.Ord.cmp) c.in-Fork.is c.self.invariant in
    let n = c.in-Fork.n.value in
    let e = c.args.entry.value in
    let less = rw (c.cmp.ensures, c.deref.ensures, c.deref-in-Fork.ensures, c.deref-n.ensures) at c.in-Less.is in
    let same = put_less g.met.K.Ord.total e.key e.value n.left.entries (pair n.entry.value) n.right.entries good.0
    c.in_ok-left-in-Less.left.entries _ _ less (rw c.deref-n.ensures at c.in_ok-left-in-Less.ensures.entries) refl refl in
    rw c.deref-n.ensures (subst (IsAscending g.K.Ord.cmp) (sym same) (ascending_put g.met.K.Ord.total _ _ _ good.0))

pub returns-in_ok-left-in-Less-clause-entries : goal.returns-in_ok-left-in-Less-clause-entries
returns-in_ok-left-in-Less-clause-entries g t c =
    let good = subst (IsAvl g.K.Ord.cmp) c.in-Fork.is c.self.invariant in
    let n = c.in-Fork.n.value in
    let e = c.args.entry.value in
    let less = rw (c.cmp.ensures, c.deref.ensures, c.deref-in-Fork.ensures, c.deref-n.ensures) at c.in-Less.is in
    let same = put_less g.met.K.Ord.total e.key e.value n.left.entries (pair n.entry.value) n.right.entries good.0
    c.in_ok-left-in-Less.left.entries _ _ less (rw c.deref-n.ensures at c.in_ok-left-in-Less.ensures.entries) refl refl in
    rw (← c.self.view_is, c.in-Fork.is, ← same) (rw c.deref-n.ensures at c.with_left.ensures.entries)

pub fork-requires-in-Equal-clause-ascending : goal.fork-requires-in-Equal-clause-ascending
fork-requires-in-Equal-clause-ascending g t c =
    let good = subst (IsAvl g.K.Ord.cmp) c.in-Fork.is c.self.invariant in
    let n = c.in-Fork.n.value in
    let e = c.args.entry.value in
    let equal = rw (c.cmp.ensures, c.deref.ensures, c.deref-in-Fork.ensures, c.deref-n.ensures) at c.in-Equal.is in
    let same = put_equal g.met.K.Ord.total e.key e.value n.left.entries (pair n.entry.value) n.right.entries good.0
    c.in_ok-share-in-Equal.field-0.entries c.in_ok-share-in-Equal-2.field-0.entries equal
    (ap (λ t. t.entries) (rw c.deref-n.ensures at c.in_ok-share-in-Equal.ensures.same))
    (ap (λ t. t.entries) (rw c.deref-n.ensures at c.in_ok-share-in-Equal-2.ensures.same)) in
    subst (IsAscending g.K.Ord.cmp) (sym same) (ascending_put g.met.K.Ord.total _ _ _ good.0)

pub returns-in_ok-share-in-Equal-2-clause-entries : goal.returns-in_ok-share-in-Equal-2-clause-entries
returns-in_ok-share-in-Equal-2-clause-entries g t c =
    let good = subst (IsAvl g.K.Ord.cmp) c.in-Fork.is c.self.invariant in
    let n = c.in-Fork.n.value in
    let e = c.args.entry.value in
    let equal = rw (c.cmp.ensures, c.deref.ensures, c.deref-in-Fork.ensures, c.deref-n.ensures) at c.in-Equal.is in
    let same = put_equal g.met.K.Ord.total e.key e.value n.left.entries (pair n.entry.value) n.right.entries good.0
    c.in_ok-share-in-Equal.field-0.entries c.in_ok-share-in-Equal-2.field-0.entries equal
    (ap (λ t. t.entries) (rw c.deref-n.ensures at c.in_ok-share-in-Equal.ensures.same))
    (ap (λ t. t.entries) (rw c.deref-n.ensures at c.in_ok-share-in-Equal-2.ensures.same)) in
    rw (← c.self.view_is, c.in-Fork.is, ← same) c.fork-in-Equal-2.ensures.entries

pub with_right-requires-clause-ascending : goal.with_right-requires-clause-ascending
with_right-requires-clause-ascending g t c =
    let good = subst (IsAvl g.K.Ord.cmp) c.in-Fork.is c.self.invariant in
    let n = c.in-Fork.n.value in
    let e = c.args.entry.value in
    let greater = rw (c.cmp.ensures, c.deref.ensures, c.deref-in-Fork.ensures, c.deref-n.ensures) at c.in-Greater.is in
    let same = put_greater g.met.K.Ord.total e.key e.value n.left.entries (pair n.entry.value) n.right.entries good.0
    _ _ c.in_ok-right-in-Greater.right.entries greater refl refl (rw c.deref-n.ensures at c.in_ok-right-in-Greater.ensures.entries) in
    rw c.deref-n.ensures (subst (IsAscending g.K.Ord.cmp) (sym same) (ascending_put g.met.K.Ord.total _ _ _ good.0))

pub returns-in_ok-right-in-Greater-clause-entries : goal.returns-in_ok-right-in-Greater-clause-entries
returns-in_ok-right-in-Greater-clause-entries g t c =
    let good = subst (IsAvl g.K.Ord.cmp) c.in-Fork.is c.self.invariant in
    let n = c.in-Fork.n.value in
    let e = c.args.entry.value in
    let greater = rw (c.cmp.ensures, c.deref.ensures, c.deref-in-Fork.ensures, c.deref-n.ensures) at c.in-Greater.is in
    let same = put_greater g.met.K.Ord.total e.key e.value n.left.entries (pair n.entry.value) n.right.entries good.0
    _ _ c.in_ok-right-in-Greater.right.entries greater refl refl (rw c.deref-n.ensures at c.in_ok-right-in-Greater.ensures.entries) in
    rw (← c.self.view_is, c.in-Fork.is, ← same) (rw c.deref-n.ensures at c.with_right.ensures.entries)

pub returns-in_ok-left-in-Less-clause-level : goal.returns-in_ok-left-in-Less-clause-level
returns-in_ok-left-in-Less-clause-level g t c there =
    let good = subst (IsAvl g.K.Ord.cmp) c.in-Fork.is c.self.invariant in
    let n = c.in-Fork.n.value in
    let e = c.args.entry.value in
    let less = rw (c.cmp.ensures, c.deref.ensures, c.deref-in-Fork.ensures, c.deref-n.ensures) at c.in-Less.is in
    let there' = rw (← c.self.view_is, c.in-Fork.is) at there in
    let level = rw c.deref-n.ensures at c.in_ok-left-in-Less.ensures.level in
    let left = level (there_left g.met.K.Ord.total e.key e.value n.left.entries (pair n.entry.value) n.right.entries good.0 there' less) in
    let settles = rw (left, c.deref-n.ensures) at c.with_left.ensures.height in
    rw (← c.self.view_is, c.in-Fork.is) (same_height _ _ _ c.with_left.result settles good.3 good.4 good.2)

pub returns-in_ok-right-in-Greater-clause-level : goal.returns-in_ok-right-in-Greater-clause-level
returns-in_ok-right-in-Greater-clause-level g t c there =
    let good = subst (IsAvl g.K.Ord.cmp) c.in-Fork.is c.self.invariant in
    let n = c.in-Fork.n.value in
    let e = c.args.entry.value in
    let greater = rw (c.cmp.ensures, c.deref.ensures, c.deref-in-Fork.ensures, c.deref-n.ensures) at c.in-Greater.is in
    let there' = rw (← c.self.view_is, c.in-Fork.is) at there in
    let level = rw c.deref-n.ensures at c.in_ok-right-in-Greater.ensures.level in
    let right = level (there_right g.met.K.Ord.total e.key e.value n.left.entries (pair n.entry.value) n.right.entries good.0 there' greater) in
    let settles = rw (right, c.deref-n.ensures) at c.with_right.ensures.height in
    rw (← c.self.view_is, c.in-Fork.is) (same_height _ _ _ c.with_right.result settles good.3 good.4 good.2)
