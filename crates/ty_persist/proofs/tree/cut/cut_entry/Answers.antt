use Rattle.std.proofs.Common.{◌≡◌, refl, sym, ap, subst, arith}
use Rattle.std.specs.Option.{option_map}
use Rattle.ty_persist.specs.Contents.{IsAscending}
use Rattle.ty_persist.specs.Shape.{pair}
use Rattle.ty_persist.proofs.Entries.{lookup_middle, remove_equal, ascending_remove}
use Rattle.ty_persist.proofs.Cuts.{balanced_again}
use Rattle.ty_persist.proofs.tree.cut.cut_entry.Goals as goal

pub returns-then-height-clause-ok : goal.returns-then-height-clause-ok
returns-then-height-clause-ok g c =
    let n = c.args.node.now in
    (rw (c.in_ok-before.ensures, c.deref.ensures) (ap (option_map g.V.Share.seen) (lookup_middle g.met.K.Ord.total c.args.key.now n.left.entries (pair n.entry.value) n.right.entries c.requires.balanced.0 c.requires.here)), refl)

pub returns-in-None-clause-ok : goal.returns-in-None-clause-ok
returns-in-None-clause-ok g c =
    let n = c.args.node.now in
    (rw (c.in_ok-before.ensures, c.deref.ensures) (ap (option_map g.V.Share.seen) (lookup_middle g.met.K.Ord.total c.args.key.now n.left.entries (pair n.entry.value) n.right.entries c.requires.balanced.0 c.requires.here)), refl)

pub returns-in-Some-clause-ok : goal.returns-in-Some-clause-ok
returns-in-Some-clause-ok g c =
    let n = c.args.node.now in (
      rw (c.in_ok-before.ensures, c.deref.ensures) (ap (option_map g.V.Share.seen) (lookup_middle g.met.K.Ord.total c.args.key.now n.left.entries (pair n.entry.value) n.right.entries c.requires.balanced.0 c.requires.here)),
      remove_equal g.met.K.Ord.total c.args.key.now n.left.entries (pair n.entry.value) n.right.entries c.requires.balanced.0 n.left.entries (pair c.in-Some.first.value) c.in-Some.right.entries c.requires.here refl
          (rw c.in-Some.is at c.in_ok-without_first.ensures.entries),
    )

pub returns-in-Some-clause-balanced : goal.returns-in-Some-clause-balanced
returns-in-Some-clause-balanced g c =
    let n = c.args.node.now in
    let good = c.requires.balanced in
    let same = remove_equal g.met.K.Ord.total c.args.key.now n.left.entries (pair n.entry.value) n.right.entries good.0 n.left.entries (pair c.in-Some.first.value) c.in-Some.right.entries c.requires.here refl
    (rw c.in-Some.is at c.in_ok-without_first.ensures.entries) in
    let level : n.left.height ≡ n.right.height = grind (arith, c.if-height.false, c.height.ensures.height, c.height-2.ensures.height) in
    let near = rw c.in-Some.is at c.in_ok-without_first.ensures.height in
    let high = good.2 in
    balanced_again g.K.Ord.cmp (record n { entry = c.in-Some.first; right = c.in-Some.right })
    (subst (IsAscending g.K.Ord.cmp) (sym same) (ascending_remove g.met.K.Ord.total _ _ good.0))
    c.height.ensures.low (rw c.in-Some.is at c.in_ok-without_first.ensures.low)
    (omega (arith, near.0, near.1)) (omega (arith, near.0, near.1)) (omega (arith, near.0, near.1))
