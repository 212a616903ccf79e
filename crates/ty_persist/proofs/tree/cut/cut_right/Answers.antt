use Rattle.std.proofs.Common.{IsTrue, refl, sym, subst, arith}
use Rattle.ty_persist.specs.Contents.{IsAscending}
use Rattle.ty_persist.specs.Shape.{pair}
use Rattle.ty_persist.proofs.Entries.{remove_greater, ascending_remove}
use Rattle.ty_persist.proofs.Cuts.{balanced_again}
use Rattle.ty_persist.proofs.tree.cut.cut_right.Goals as goal

pub returns-clause-ok : goal.returns-clause-ok
returns-clause-ok g c =
    let n = c.args.node.now in
    (c.requires.there, remove_greater g.met.K.Ord.total c.args.key.now n.left.entries (pair n.entry.value) n.right.entries c.requires.balanced.0 _ _ c.in_ok-node.field-0.entries c.requires.right refl refl c.in_ok-node.ensures.entries)

pub returns-clause-balanced : goal.returns-clause-balanced
returns-clause-balanced g c =
    let n = c.args.node.now in
    let good = c.requires.balanced in
    let same = remove_greater g.met.K.Ord.total c.args.key.now n.left.entries (pair n.entry.value) n.right.entries good.0 _ _ c.in_ok-node.field-0.entries c.requires.right refl refl c.in_ok-node.ensures.entries in
    let yes : IsTrue c.args.level = cc in
    let level = c.requires.level yes in
    let near = c.in_ok-node.ensures.height in
    let high = good.2 in
    balanced_again g.K.Ord.cmp (record n { right = c.in_ok-node.field-0 })
    (subst (IsAscending g.K.Ord.cmp) (sym same) (ascending_remove g.met.K.Ord.total _ _ good.0))
    c.requires.low c.in_ok-node.ensures.low
    (omega (arith, near.0, near.1)) (omega (arith, near.0, near.1)) (omega (arith, near.0, near.1))
