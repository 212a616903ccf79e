use Rattle.std.proofs.Common.{sym, ◌∙◌, arith}
use Rattle.tinymist_plain.proofs.Lists.{decides, passes}
use Rattle.tinymist_plain.proofs.entries.find.Goals as goal

pub returns-then-eq : goal.returns-then-eq
returns-then-eq g c =
    sym (decides c.args.entries.now c.loop-entry.entry-index c.entry-item.result c.args.path.now (omega arith) c.entry-item.is (rw c.as_str.ensures.value at (sym c.if-eq.ensures)))
    ∙ c.loop-entry.invariant

pub loop-entry-preserved : goal.loop-entry-preserved
loop-entry-preserved g c =
    sym (passes c.args.entries.now c.loop-entry.entry-index c.entry-item.result c.args.path.now (omega arith) c.entry-item.is (rw c.as_str.ensures.value at (sym c.if-eq.ensures)))
    ∙ c.loop-entry.invariant
