use Rattle.std.proofs.Common.{arith}
use Rattle.tinymist_plain.proofs.Lists.{stands}
use Rattle.tinymist_plain.proofs.entries.place.Goals as goal

pub returns-in-Equal : goal.returns-in-Equal
returns-in-Equal g c =
    let path = c.as_bytes.ensures.value in
    let there = c.as_bytes-in-loop-i.ensures.value in
    let order = c.in-Equal.ensures in
    stands c.args.entries.now c.loop-i.i c.index-entries-i.result c.args.path.now (omega (arith, c.loop-i-test.true)) c.index-entries-i.is c.loop-i.invariant.passed (cc)
