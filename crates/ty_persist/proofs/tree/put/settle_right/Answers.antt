use Rattle.std.proofs.Common.{◌≡◌, None, IsTrue, sym, subst}
use Rattle.std.specs.Map.{lookup}
use Rattle.std.specs.BTreeMap.{is_at}
use Rattle.ty_persist.specs.Shape.{pair}
use Rattle.ty_persist.specs.declared.tree.put.Outcome.TheVariants.{Added}
use Rattle.ty_persist.proofs.Puts.{absent_right, put_in_right, grown_right}
use Rattle.ty_persist.proofs.tree.put.settle_right.Goals as goal

pub returns-clause-ok : goal.returns-clause-ok
returns-clause-ok g c =
    let m = c.has_room_right.new.node in
    let e = c.args.entry.value in
    let good = c.has_room_right.ensures.balanced in
    let same = c.has_room_right.ensures.entries in
    let yes : IsTrue c.has_room_right.result = cc in
    let key = rw c.deref.ensures at (c.has_room_right.ensures.key yes) in
    let absent = subst (λ es. lookup (is_at (g.K.Ord.cmp e.key)) es ≡ None) (sym same) c.requires.absent in
    let none = absent_right g.met.K.Ord.total e.key e.value m.left.entries (pair m.entry.value) m.right.entries good.0 absent key in
    let put = put_in_right g.met.K.Ord.total e.key e.value m.left.entries (pair m.entry.value) m.right.entries good.0 Added c.add.new.self.entries key (none, c.in_ok-add.ensures.ok) in
    (c.requires.absent, rw same at put.1)

pub returns-clause-balanced : goal.returns-clause-balanced
returns-clause-balanced g c =
    let m = c.has_room_right.new.node in
    let e = c.args.entry.value in
    let good = c.has_room_right.ensures.balanced in
    let same = c.has_room_right.ensures.entries in
    let yes : IsTrue c.has_room_right.result = cc in
    let key = rw c.deref.ensures at (c.has_room_right.ensures.key yes) in
    let absent = subst (λ es. lookup (is_at (g.K.Ord.cmp e.key)) es ≡ None) (sym same) c.requires.absent in
    let none = absent_right g.met.K.Ord.total e.key e.value m.left.entries (pair m.entry.value) m.right.entries good.0 absent key in
    grown_right g.met.K.Ord.total e.key e.value m good c.add.new.self key none c.in_ok-add.ensures.ok c.add.ensures.height.0 c.add.ensures.height.1 (c.has_room_right.ensures.lower yes)
