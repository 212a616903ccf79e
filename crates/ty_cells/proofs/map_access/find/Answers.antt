use Rattle.std.proofs.Common.{sym, ◌∙◌, arith}
use Rattle.std.proofs.lemmas.Result.{IfOk-weaker}
use Rattle.ty_cells.proofs.Files.{decides, passes}
use Rattle.ty_cells.proofs.map_access.find.Goals as goal

pub returns-then-eq : goal.returns-then-eq
returns-then-eq c =
    let here = decides c.args.files.now c.loop-name.name-index c.loop-name-item.result c.args.path.now (omega arith) c.loop-name-item.is (rw c.as_str.ensures.value at (sym c.if-eq.ensures)) in
    IfOk-weaker c.share.result _ _ (λ s same. same ∙ sym here ∙ c.loop-name.invariant) c.share.ensures

pub loop-name-preserved : goal.loop-name-preserved
loop-name-preserved c =
    let next = passes c.args.files.now c.loop-name.name-index c.loop-name-item.result c.args.path.now (omega arith) c.loop-name-item.is (rw c.as_str.ensures.value at (sym c.if-eq.ensures)) in
    sym next ∙ c.loop-name.invariant
