use Rattle.std.proofs.Common.{◌≡◌, ◌∷◌, ◌++◌, None, refl, sym, ap, subst, ◌∙◌, arith}
use Rattle.std.specs.Option.{option_map}
use Rattle.std.specs.Map.{lookup}
use Rattle.std.specs.BTreeMap.{is_at}
use Rattle.ty_persist.specs.Shape.{pair, IsAvl}
use Rattle.ty_persist.proofs.Entries.{lookup_left, lookup_middle, lookup_right}
use Rattle.ty_persist.proofs.Puts.{put_in_left, put_in_right, put_in_middle, before_left, before_right, settled_before, balanced_left, balanced_right, balanced_middle}
use Rattle.ty_persist.proofs.tree.Tree.+put.Goals as goal

pub settle_left-requires-clause-absent : goal.settle_left-requires-clause-absent
settle_left-requires-clause-absent g t c =
    let good = rw (← c.in-Some.ensures.value) at (subst (IsAvl g.K.Ord.cmp) c.in-Fork.is c.self.invariant) in
    let n = c.in-Some.node.now in
    let less = rw (c.cmp.ensures, c.deref.ensures) at c.in-Less.is in
    let waits = rw c.in-Waits.is at c.in_ok-done-in-Less.ensures.ok in
    rw (ap (λ p. p.0) waits.2, waits.1) (lookup_left g.met.K.Ord.total c.args.key n.left.entries (pair n.entry.value) n.right.entries good.0 less ∙ waits.0)

pub settle_right-requires-clause-absent : goal.settle_right-requires-clause-absent
settle_right-requires-clause-absent g t c =
    let good = rw (← c.in-Some.ensures.value) at (subst (IsAvl g.K.Ord.cmp) c.in-Fork.is c.self.invariant) in
    let n = c.in-Some.node.now in
    let greater = rw (c.cmp.ensures, c.deref.ensures) at c.in-Greater.is in
    let waits = rw c.in-Waits-2.is at c.in_ok-done-in-Greater.ensures.ok in
    rw (ap (λ p. p.0) waits.2, waits.1) (lookup_right g.met.K.Ord.total c.args.key n.left.entries (pair n.entry.value) n.right.entries good.0 greater ∙ waits.0)

pub invariant_of-self-in-Replaced-1 : goal.invariant_of-self-in-Replaced-1
invariant_of-self-in-Replaced-1 g t c =
    let good = rw (← c.in-Some.ensures.value) at (subst (IsAvl g.K.Ord.cmp) c.in-Fork.is c.self.invariant) in
    let n = c.in-Some.node.now in
    let less = rw (c.cmp.ensures, c.deref.ensures) at c.in-Less.is in
    balanced_left g.met.K.Ord.total c.args.key c.args.value n good c.in_ok-done-in-Less.done c.put.new.self less c.in_ok-done-in-Less.ensures.ok c.put.ensures.height

pub invariant_of-self-in-Replaced-branch-5 : goal.invariant_of-self-in-Replaced-branch-5
invariant_of-self-in-Replaced-branch-5 g t c =
    let good = rw (← c.in-Some.ensures.value) at (subst (IsAvl g.K.Ord.cmp) c.in-Fork.is c.self.invariant) in
    let n = c.in-Some.node.now in
    let greater = rw (c.cmp.ensures, c.deref.ensures) at c.in-Greater.is in
    balanced_right g.met.K.Ord.total c.args.key c.args.value n good c.in_ok-done-in-Greater.done c.put-in-Greater.new.self greater c.in_ok-done-in-Greater.ensures.ok c.put-in-Greater.ensures.height

pub invariant_of-self-in-Equal : goal.invariant_of-self-in-Equal
invariant_of-self-in-Equal g t c =
    let good = rw (← c.in-Some.ensures.value) at (subst (IsAvl g.K.Ord.cmp) c.in-Fork.is c.self.invariant) in
    let n = c.in-Some.node.now in
    let equal = rw (c.cmp.ensures, c.deref.ensures) at c.in-Equal.is in
    balanced_middle g.met.K.Ord.total c.args.key c.args.value n good c.set_entry.result c.set_entry.new.entry equal c.set_entry.ensures.key c.set_entry.ensures.value c.set_entry.ensures.err

pub returns-in_ok-before-in-Equal-clause-ok : goal.returns-in_ok-before-in-Equal-clause-ok
returns-in_ok-before-in-Equal-clause-ok g t c =
    let good = rw (← c.in-Some.ensures.value) at (subst (IsAvl g.K.Ord.cmp) c.in-Fork.is c.self.invariant) in
    let n = c.in-Some.node.now in
    let equal = rw (c.cmp.ensures, c.deref.ensures) at c.in-Equal.is in
    rw (← c.self.view_is, c.in-Fork.is, ← c.in-Some.ensures.value) (put_in_middle g.met.K.Ord.total c.args.key c.args.value n.left.entries (pair n.entry.value) n.right.entries good.0 c.in_ok-before-in-Equal.before (pair c.set_entry.new.entry.value) equal (cc (c.in_ok-before-in-Equal.ensures.key, c.in_ok-before-in-Equal.ensures.value)))

pub returns-in_ok-before-in-Equal-clause-before : goal.returns-in_ok-before-in-Equal-clause-before
returns-in_ok-before-in-Equal-clause-before g t c wanted =
    let good = rw (← c.in-Some.ensures.value) at (subst (IsAvl g.K.Ord.cmp) c.in-Fork.is c.self.invariant) in
    let n = c.in-Some.node.now in
    let equal = rw (c.cmp.ensures, c.deref.ensures) at c.in-Equal.is in
    rw (← c.self.view_is, c.in-Fork.is, ← c.in-Some.ensures.value) (c.in_ok-before-in-Equal.ensures.before wanted ∙ sym (ap (option_map g.V.Share.seen) (lookup_middle g.met.K.Ord.total c.args.key n.left.entries (pair n.entry.value) n.right.entries good.0 equal)))

pub returns-in-Waits-clause-before : goal.returns-in-Waits-clause-before
returns-in-Waits-clause-before g t c =
    let good = rw (← c.in-Some.ensures.value) at (subst (IsAvl g.K.Ord.cmp) c.in-Fork.is c.self.invariant) in
    let n = c.in-Some.node.now in
    let less = rw (c.cmp.ensures, c.deref.ensures) at c.in-Less.is in
    let waits = rw c.in-Waits.is at c.in_ok-done-in-Less.ensures.ok in
    let none : lookup (is_at (g.K.Ord.cmp c.in-Waits.entry.value.key)) (c.put.new.self.entries ++ pair n.entry.value ∷ n.right.entries) ≡ None = rw (ap (λ p. p.0) waits.2, waits.1) (lookup_left g.met.K.Ord.total c.args.key n.left.entries (pair n.entry.value) n.right.entries good.0 less ∙ waits.0) in
    settled_before g.met.K.Ord.total c.in-Waits.entry.value.key c.in-Waits.entry.value.value g.V.Share.seen c.args.wanted _ _ _ c.settle_left.result none c.settle_left.ensures.ok

pub returns-in_default-2 : goal.returns-in_default-2
returns-in_default-2 g t c =
    let good = rw (← c.in-Some.ensures.value) at (subst (IsAvl g.K.Ord.cmp) c.in-Fork.is c.self.invariant) in
    let n = c.in-Some.node.now in
    let less = rw (c.cmp.ensures, c.deref.ensures) at c.in-Less.is in
    let done = c.in_ok-done-in-Less.done in
    let high : n.height ≡ c.args.self.now.height = rw (← c.self.view_is, c.in-Fork.is, ← c.in-Some.ensures.value) refl in
    record {
      ok = rw (← c.self.view_is, c.in-Fork.is, ← c.in-Some.ensures.value) (put_in_left g.met.K.Ord.total c.args.key c.args.value n.left.entries (pair n.entry.value) n.right.entries good.0 done c.put.new.self.entries less c.in_ok-done-in-Less.ensures.ok);
      before = rw (← c.self.view_is, c.in-Fork.is, ← c.in-Some.ensures.value) (before_left g.met.K.Ord.total c.args.key c.args.value n.left.entries (pair n.entry.value) n.right.entries good.0 g.V.Share.seen c.args.wanted done less c.in_ok-done-in-Less.ensures.before);
      err = tt;
      height = high;
      cost = omega (arith, good.2, high, c.in_ok-done-in-Less.ensures.cost);
      waits = c.in_ok-done-in-Less.ensures.waits;
    }

pub returns-in-Waits-2-clause-before : goal.returns-in-Waits-2-clause-before
returns-in-Waits-2-clause-before g t c =
    let good = rw (← c.in-Some.ensures.value) at (subst (IsAvl g.K.Ord.cmp) c.in-Fork.is c.self.invariant) in
    let n = c.in-Some.node.now in
    let greater = rw (c.cmp.ensures, c.deref.ensures) at c.in-Greater.is in
    let waits = rw c.in-Waits-2.is at c.in_ok-done-in-Greater.ensures.ok in
    let none : lookup (is_at (g.K.Ord.cmp c.in-Waits-2.entry.value.key)) (n.left.entries ++ pair n.entry.value ∷ c.put-in-Greater.new.self.entries) ≡ None = rw (ap (λ p. p.0) waits.2, waits.1) (lookup_right g.met.K.Ord.total c.args.key n.left.entries (pair n.entry.value) n.right.entries good.0 greater ∙ waits.0) in
    settled_before g.met.K.Ord.total c.in-Waits-2.entry.value.key c.in-Waits-2.entry.value.value g.V.Share.seen c.args.wanted _ _ _ c.settle_right.result none c.settle_right.ensures.ok

pub returns-in_default-3 : goal.returns-in_default-3
returns-in_default-3 g t c =
    let good = rw (← c.in-Some.ensures.value) at (subst (IsAvl g.K.Ord.cmp) c.in-Fork.is c.self.invariant) in
    let n = c.in-Some.node.now in
    let greater = rw (c.cmp.ensures, c.deref.ensures) at c.in-Greater.is in
    let done = c.in_ok-done-in-Greater.done in
    let high : n.height ≡ c.args.self.now.height = rw (← c.self.view_is, c.in-Fork.is, ← c.in-Some.ensures.value) refl in
    record {
      ok = rw (← c.self.view_is, c.in-Fork.is, ← c.in-Some.ensures.value) (put_in_right g.met.K.Ord.total c.args.key c.args.value n.left.entries (pair n.entry.value) n.right.entries good.0 done c.put-in-Greater.new.self.entries greater c.in_ok-done-in-Greater.ensures.ok);
      before = rw (← c.self.view_is, c.in-Fork.is, ← c.in-Some.ensures.value) (before_right g.met.K.Ord.total c.args.key c.args.value n.left.entries (pair n.entry.value) n.right.entries good.0 g.V.Share.seen c.args.wanted done greater c.in_ok-done-in-Greater.ensures.before);
      err = tt;
      height = high;
      cost = omega (arith, good.2, high, c.in_ok-done-in-Greater.ensures.cost);
      waits = c.in_ok-done-in-Greater.ensures.waits;
    }
