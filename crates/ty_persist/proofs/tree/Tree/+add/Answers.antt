use Rattle.std.proofs.Common.{◌≡◌, ◌+◌, refl, sym, subst, arith}
use Rattle.ty_persist.specs.Contents.{IsAscending}
use Rattle.ty_persist.specs.Shape.{pair, IsAvl}
use Rattle.ty_persist.proofs.Entries.{put_less, put_equal, put_greater, ascending_put}
use Rattle.ty_persist.proofs.Cuts.{balanced_again}
use Rattle.ty_persist.proofs.tree.Tree.+add.Goals as goal

pub invariant_of-self-in-Less : goal.invariant_of-self-in-Less
invariant_of-self-in-Less g t c =
    let good = rw (← c.in-Some.ensures.value) at (subst (IsAvl g.K.Ord.cmp) c.in-Fork.is c.self.invariant) in
    let n = c.in-Some.node.now in
    let e = c.args.entry.value in
    let same = put_less g.met.K.Ord.total e.key e.value n.left.entries (pair n.entry.value) n.right.entries good.0 c.add.new.self.entries _ _ (rw (c.cmp.ensures, c.deref.ensures, c.deref-2.ensures) at c.in-Less.is) c.in_ok-add-in-Less.ensures.ok refl refl in
    let level : n.left.height ≡ n.right.height = grind (arith, c.if-height.false, c.height.ensures.height, c.height-2.ensures.height) in
    let from = c.add.ensures.height.0 in
    let to = c.add.ensures.height.1 in
    let high = c.height-in-Less.ensures.height in
    balanced_again g.K.Ord.cmp (record n { left = c.add.new.self; height = c.height-in-Less.result + 1 }) (subst (IsAscending g.K.Ord.cmp) (sym same) (ascending_put g.met.K.Ord.total _ e.key e.value good.0)) c.height-in-Less.ensures.low c.height-2.ensures.low (omega arith) (omega arith) (omega arith)

pub returns-in_ok-add-in-Less-clause-ok : goal.returns-in_ok-add-in-Less-clause-ok
returns-in_ok-add-in-Less-clause-ok g t c =
    let good = rw (← c.in-Some.ensures.value) at (subst (IsAvl g.K.Ord.cmp) c.in-Fork.is c.self.invariant) in
    let n = c.in-Some.node.now in
    let e = c.args.entry.value in
    rw (← c.self.view_is, c.in-Fork.is, ← c.in-Some.ensures.value) (put_less g.met.K.Ord.total e.key e.value n.left.entries (pair n.entry.value) n.right.entries good.0 c.add.new.self.entries _ _ (rw (c.cmp.ensures, c.deref.ensures, c.deref-2.ensures) at c.in-Less.is) c.in_ok-add-in-Less.ensures.ok refl refl)

pub returns-in_ok-add-in-Less-clause-low : goal.returns-in_ok-add-in-Less-clause-low
returns-in_ok-add-in-Less-clause-low g t c was =
    let good = rw (← c.in-Some.ensures.value) at (subst (IsAvl g.K.Ord.cmp) c.in-Fork.is c.self.invariant) in
    let n = c.in-Some.node.now in
    let e = c.args.entry.value in
    let same = put_less g.met.K.Ord.total e.key e.value n.left.entries (pair n.entry.value) n.right.entries good.0 c.add.new.self.entries _ _ (rw (c.cmp.ensures, c.deref.ensures, c.deref-2.ensures) at c.in-Less.is) c.in_ok-add-in-Less.ensures.ok refl refl in
    let level : n.left.height ≡ n.right.height = grind (arith, c.if-height.false, c.height.ensures.height, c.height-2.ensures.height) in
    let from = c.add.ensures.height.0 in
    let to = c.add.ensures.height.1 in
    let high = c.height-in-Less.ensures.height in
    (balanced_again g.K.Ord.cmp (record n { left = c.add.new.self; height = c.height-in-Less.result + 1 }) (subst (IsAscending g.K.Ord.cmp) (sym same) (ascending_put g.met.K.Ord.total _ e.key e.value good.0)) c.height-in-Less.ensures.low c.height-2.ensures.low (omega arith) (omega arith) (omega arith)).1

pub invariant_of-self-in-Equal : goal.invariant_of-self-in-Equal
invariant_of-self-in-Equal g t c =
    let good = rw (← c.in-Some.ensures.value) at (subst (IsAvl g.K.Ord.cmp) c.in-Fork.is c.self.invariant) in
    let n = c.in-Some.node.now in
    let e = c.args.entry.value in
    let same = put_equal g.met.K.Ord.total e.key e.value n.left.entries (pair n.entry.value) n.right.entries good.0 n.left.entries n.right.entries (rw (c.cmp.ensures, c.deref.ensures, c.deref-2.ensures) at c.in-Equal.is) refl refl in
    balanced_again g.K.Ord.cmp (record n { entry = c.args.entry }) (subst (IsAscending g.K.Ord.cmp) (sym same) (ascending_put g.met.K.Ord.total _ e.key e.value good.0)) c.height.ensures.low c.height-2.ensures.low good.2 good.3 good.4

pub returns-in-Equal-clause-ok : goal.returns-in-Equal-clause-ok
returns-in-Equal-clause-ok g t c =
    let good = rw (← c.in-Some.ensures.value) at (subst (IsAvl g.K.Ord.cmp) c.in-Fork.is c.self.invariant) in
    let n = c.in-Some.node.now in
    let e = c.args.entry.value in
    rw (← c.self.view_is, c.in-Fork.is, ← c.in-Some.ensures.value) (put_equal g.met.K.Ord.total e.key e.value n.left.entries (pair n.entry.value) n.right.entries good.0 n.left.entries n.right.entries (rw (c.cmp.ensures, c.deref.ensures, c.deref-2.ensures) at c.in-Equal.is) refl refl)

pub invariant_of-self-in-Greater : goal.invariant_of-self-in-Greater
invariant_of-self-in-Greater g t c =
    let good = rw (← c.in-Some.ensures.value) at (subst (IsAvl g.K.Ord.cmp) c.in-Fork.is c.self.invariant) in
    let n = c.in-Some.node.now in
    let e = c.args.entry.value in
    let same = put_greater g.met.K.Ord.total e.key e.value n.left.entries (pair n.entry.value) n.right.entries good.0 _ _ c.add-in-Greater.new.self.entries (rw (c.cmp.ensures, c.deref.ensures, c.deref-2.ensures) at c.in-Greater.is) refl refl c.in_ok-add-in-Greater.ensures.ok in
    let level : n.left.height ≡ n.right.height = grind (arith, c.if-height.false, c.height.ensures.height, c.height-2.ensures.height) in
    let from = c.add-in-Greater.ensures.height.0 in
    let to = c.add-in-Greater.ensures.height.1 in
    let high = c.height-in-Greater.ensures.height in
    balanced_again g.K.Ord.cmp (record n { right = c.add-in-Greater.new.self; height = c.height-in-Greater.result + 1 }) (subst (IsAscending g.K.Ord.cmp) (sym same) (ascending_put g.met.K.Ord.total _ e.key e.value good.0)) c.height.ensures.low c.height-in-Greater.ensures.low (omega arith) (omega arith) (omega arith)

pub returns-in_ok-add-in-Greater-clause-ok : goal.returns-in_ok-add-in-Greater-clause-ok
returns-in_ok-add-in-Greater-clause-ok g t c =
    let good = rw (← c.in-Some.ensures.value) at (subst (IsAvl g.K.Ord.cmp) c.in-Fork.is c.self.invariant) in
    let n = c.in-Some.node.now in
    let e = c.args.entry.value in
    rw (← c.self.view_is, c.in-Fork.is, ← c.in-Some.ensures.value) (put_greater g.met.K.Ord.total e.key e.value n.left.entries (pair n.entry.value) n.right.entries good.0 _ _ c.add-in-Greater.new.self.entries (rw (c.cmp.ensures, c.deref.ensures, c.deref-2.ensures) at c.in-Greater.is) refl refl c.in_ok-add-in-Greater.ensures.ok)

pub returns-in_ok-add-in-Greater-clause-low : goal.returns-in_ok-add-in-Greater-clause-low
returns-in_ok-add-in-Greater-clause-low g t c was =
    let good = rw (← c.in-Some.ensures.value) at (subst (IsAvl g.K.Ord.cmp) c.in-Fork.is c.self.invariant) in
    let n = c.in-Some.node.now in
    let e = c.args.entry.value in
    let same = put_greater g.met.K.Ord.total e.key e.value n.left.entries (pair n.entry.value) n.right.entries good.0 _ _ c.add-in-Greater.new.self.entries (rw (c.cmp.ensures, c.deref.ensures, c.deref-2.ensures) at c.in-Greater.is) refl refl c.in_ok-add-in-Greater.ensures.ok in
    let level : n.left.height ≡ n.right.height = grind (arith, c.if-height.false, c.height.ensures.height, c.height-2.ensures.height) in
    let from = c.add-in-Greater.ensures.height.0 in
    let to = c.add-in-Greater.ensures.height.1 in
    let high = c.height-in-Greater.ensures.height in
    (balanced_again g.K.Ord.cmp (record n { right = c.add-in-Greater.new.self; height = c.height-in-Greater.result + 1 }) (subst (IsAscending g.K.Ord.cmp) (sym same) (ascending_put g.met.K.Ord.total _ e.key e.value good.0)) c.height.ensures.low c.height-in-Greater.ensures.low (omega arith) (omega arith) (omega arith)).1
