use Rattle.std.proofs.Common.{arith}
use Rattle.tinymist_plain.proofs.IdLists.{stands}
use Rattle.tinymist_plain.proofs.ids.place.Goals as goal

pub returns-in-Equal : goal.returns-in-Equal
returns-in-Equal c =
    let order = c.in-Equal.ensures in
    let there = c.cmp.ensures in
    stands c.args.entries.now c.loop-i.i c.index-entries-i.result c.args.id.now (omega (arith, c.loop-i-test.true)) c.index-entries-i.is c.loop-i.invariant.passed (cc)
