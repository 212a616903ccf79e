use Rattle.std.proofs.Common.{ap, subst, ◌∙◌}
use Rattle.std.specs.Option.{option_map}
use Rattle.ty_persist.specs.Shape.{pair, IsAvl}
use Rattle.ty_persist.proofs.Entries.{lookup_left, lookup_right}
use Rattle.ty_persist.proofs.Cuts.{cut_in_left, cut_in_right, balanced_cut_left, balanced_cut_right}
use Rattle.ty_persist.proofs.tree.Tree.+cut.Goals.{in-Less+in_ok-done-in-Less+in-Waits, in-Less+in_ok-done-in-Less+in_default-2, in-Equal, in-Greater+in_ok-done-in-Greater+in-Waits-2, in-Greater+in_ok-done-in-Greater+in_default-3}
use Rattle.ty_persist.proofs.tree.Tree.+cut.Goals as goal

pub cut_left-requires-clause-there : goal.cut_left-requires-clause-there
cut_left-requires-clause-there g t c =
    let good = rw (← c.in-Some.ensures.value) at (subst (IsAvl g.K.Ord.cmp) c.in-Fork.is c.self.invariant) in
    let n = c.in-Some.node.now in
    let less = rw (c.cmp.ensures, c.deref.ensures) at c.in-Less.is in
    let waits = rw c.in-Waits.is at c.in_ok-done-in-Less.ensures.ok in
    rw waits.1 (ap (option_map g.V.Share.seen) (lookup_left g.met.K.Ord.total c.args.key.now n.left.entries (pair n.entry.value) n.right.entries good.0 less) ∙ waits.0)

pub cut_right-requires-clause-there : goal.cut_right-requires-clause-there
cut_right-requires-clause-there g t c =
    let good = rw (← c.in-Some.ensures.value) at (subst (IsAvl g.K.Ord.cmp) c.in-Fork.is c.self.invariant) in
    let n = c.in-Some.node.now in
    let greater = rw (c.cmp.ensures, c.deref.ensures) at c.in-Greater.is in
    let waits = rw c.in-Waits-2.is at c.in_ok-done-in-Greater.ensures.ok in
    rw waits.1 (ap (option_map g.V.Share.seen) (lookup_right g.met.K.Ord.total c.args.key.now n.left.entries (pair n.entry.value) n.right.entries good.0 greater) ∙ waits.0)

pub invariant_of-self-2 : goal.invariant_of-self-2
invariant_of-self-2 g t c =
    let good = rw (← c.in-Some.ensures.value) at (subst (IsAvl g.K.Ord.cmp) c.in-Fork.is c.self.invariant) in
    let n = c.in-Some.node.now in
    elim c.match-cmp.branch [
      | in-Less+in_ok-done-in-Less+in-Waits w ↦ rw w.self-inside-is w.cut_left.ensures.balanced
      | in-Less+in_ok-done-in-Less+in_default-2 w ↦ rw w.self-inside-is (balanced_cut_left g.met.K.Ord.total c.args.key.now g.V.Share.seen n good w.in_ok-done-in-Less.done w.cut.new.self (rw (c.cmp.ensures, c.deref.ensures) at w.in-Less.is) w.in_ok-done-in-Less.ensures.ok w.cut.ensures.height (w.cut.ensures.low c.height.ensures.low) c.height-2.ensures.low)
      | in-Equal w ↦ rw w.self-inside-is w.cut_entry.ensures.balanced
      | in-Greater+in_ok-done-in-Greater+in-Waits-2 w ↦ rw w.self-inside-is w.cut_right.ensures.balanced
      | in-Greater+in_ok-done-in-Greater+in_default-3 w ↦ rw w.self-inside-is (balanced_cut_right g.met.K.Ord.total c.args.key.now g.V.Share.seen n good w.in_ok-done-in-Greater.done w.cut-in-Greater.new.self (rw (c.cmp.ensures, c.deref.ensures) at w.in-Greater.is) w.in_ok-done-in-Greater.ensures.ok w.cut-in-Greater.ensures.height c.height.ensures.low (w.cut-in-Greater.ensures.low c.height-2.ensures.low))
    ]

pub returns-clause-low : goal.returns-clause-low
returns-clause-low g t c was =
    let good = rw (← c.in-Some.ensures.value) at (subst (IsAvl g.K.Ord.cmp) c.in-Fork.is c.self.invariant) in
    let n = c.in-Some.node.now in
    elim c.match-cmp.branch [
      | in-Less+in_ok-done-in-Less+in-Waits w ↦ rw w.self-inside-is w.cut_left.ensures.balanced.1
      | in-Less+in_ok-done-in-Less+in_default-2 w ↦ rw w.self-inside-is (balanced_cut_left g.met.K.Ord.total c.args.key.now g.V.Share.seen n good w.in_ok-done-in-Less.done w.cut.new.self (rw (c.cmp.ensures, c.deref.ensures) at w.in-Less.is) w.in_ok-done-in-Less.ensures.ok w.cut.ensures.height (w.cut.ensures.low c.height.ensures.low) c.height-2.ensures.low).1
      | in-Equal w ↦ rw w.self-inside-is w.cut_entry.ensures.balanced.1
      | in-Greater+in_ok-done-in-Greater+in-Waits-2 w ↦ rw w.self-inside-is w.cut_right.ensures.balanced.1
      | in-Greater+in_ok-done-in-Greater+in_default-3 w ↦ rw w.self-inside-is (balanced_cut_right g.met.K.Ord.total c.args.key.now g.V.Share.seen n good w.in_ok-done-in-Greater.done w.cut-in-Greater.new.self (rw (c.cmp.ensures, c.deref.ensures) at w.in-Greater.is) w.in_ok-done-in-Greater.ensures.ok w.cut-in-Greater.ensures.height c.height.ensures.low (w.cut-in-Greater.ensures.low c.height-2.ensures.low)).1
    ]

pub returns-clause-ok : goal.returns-clause-ok
returns-clause-ok g t c =
    let good = rw (← c.in-Some.ensures.value) at (subst (IsAvl g.K.Ord.cmp) c.in-Fork.is c.self.invariant) in
    let n = c.in-Some.node.now in
    elim c.match-cmp.branch [
      | in-Less+in_ok-done-in-Less+in-Waits w ↦
          let waits = rw w.in-Waits.is at w.in_ok-done-in-Less.ensures.ok in
          rw (w.result-is, w.self-inside-is, ← c.self.view_is, c.in-Fork.is, ← c.in-Some.ensures.value) (rw waits.1 at w.cut_left.ensures.ok)
      | in-Less+in_ok-done-in-Less+in_default-2 w ↦ rw (w.result-is, w.self-inside-is, ← c.self.view_is, c.in-Fork.is, ← c.in-Some.ensures.value) (cut_in_left g.met.K.Ord.total c.args.key.now g.V.Share.seen n.left.entries (pair n.entry.value) n.right.entries good.0 w.in_ok-done-in-Less.done w.cut.new.self.entries (rw (c.cmp.ensures, c.deref.ensures) at w.in-Less.is) w.in_ok-done-in-Less.ensures.ok)
      | in-Equal w ↦ rw (w.result-is, w.self-inside-is, ← c.self.view_is, c.in-Fork.is, ← c.in-Some.ensures.value) w.cut_entry.ensures.ok
      | in-Greater+in_ok-done-in-Greater+in-Waits-2 w ↦
          let waits = rw w.in-Waits-2.is at w.in_ok-done-in-Greater.ensures.ok in
          rw (w.result-is, w.self-inside-is, ← c.self.view_is, c.in-Fork.is, ← c.in-Some.ensures.value) (rw waits.1 at w.cut_right.ensures.ok)
      | in-Greater+in_ok-done-in-Greater+in_default-3 w ↦ rw (w.result-is, w.self-inside-is, ← c.self.view_is, c.in-Fork.is, ← c.in-Some.ensures.value) (cut_in_right g.met.K.Ord.total c.args.key.now g.V.Share.seen n.left.entries (pair n.entry.value) n.right.entries good.0 w.in_ok-done-in-Greater.done w.cut-in-Greater.new.self.entries (rw (c.cmp.ensures, c.deref.ensures) at w.in-Greater.is) w.in_ok-done-in-Greater.ensures.ok)
    ]
