use Rattle.std.proofs.Common.{subst}
use Rattle.std.specs.Ordering.{nat_cmp}
use Rattle.std.specs.Cmp.Lexicographic.{slice_cmp, nat_list_cmp_total}
use Rattle.ty_persist.specs.Shape.{pair, IsAvl}
use Rattle.ty_persist.proofs.Probes.{probe_left, probe_middle, probe_right}
use Rattle.ty_persist.proofs.tree.Tree.+get_text.Goals as goal

pub returns-in-Less : goal.returns-in-Less
returns-in-Less g t c =
    let good = subst (IsAvl g.K.Ord.cmp) c.in-Fork.is c.self.invariant in
    let n = c.in-Fork.n.value in
    let less = rw (c.compare_with.ensures, c.deref.ensures, c.deref-n.ensures) at c.in-Less.is in
    rw (← c.self.view_is, c.in-Fork.is, probe_left g.K.TextKey.text_of g.K.Ord.cmp (slice_cmp nat_cmp) g.met.K.TextKey.reads nat_list_cmp_total c.args.text.now n.left.entries (pair n.entry.value) n.right.entries good.0 less) (rw c.deref-n.ensures at c.get_text.ensures)

pub returns-in-Equal : goal.returns-in-Equal
returns-in-Equal g t c =
    let good = subst (IsAvl g.K.Ord.cmp) c.in-Fork.is c.self.invariant in
    let n = c.in-Fork.n.value in
    let equal = rw (c.compare_with.ensures, c.deref.ensures, c.deref-n.ensures) at c.in-Equal.is in
    rw (← c.self.view_is, c.in-Fork.is, probe_middle g.K.TextKey.text_of g.K.Ord.cmp (slice_cmp nat_cmp) g.met.K.TextKey.reads nat_list_cmp_total c.args.text.now n.left.entries (pair n.entry.value) n.right.entries good.0 equal) (cc)

pub returns-in-Greater : goal.returns-in-Greater
returns-in-Greater g t c =
    let good = subst (IsAvl g.K.Ord.cmp) c.in-Fork.is c.self.invariant in
    let n = c.in-Fork.n.value in
    let greater = rw (c.compare_with.ensures, c.deref.ensures, c.deref-n.ensures) at c.in-Greater.is in
    rw (← c.self.view_is, c.in-Fork.is, probe_right g.K.TextKey.text_of g.K.Ord.cmp (slice_cmp nat_cmp) g.met.K.TextKey.reads nat_list_cmp_total c.args.text.now n.left.entries (pair n.entry.value) n.right.entries good.0 greater) (rw c.deref-n.ensures at c.get_text-in-Greater.ensures)
