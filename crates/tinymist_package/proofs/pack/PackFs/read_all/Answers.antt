use Rattle.std.proofs.Common.{rules}
use Rattle.tinymist_package.proofs.Walks.{lent_walk}
use Rattle.tinymist_package.proofs.pack.PackFs.read_all.Goals as goal

pub returns-clause-walked : goal.returns-clause-walked
returns-clause-walked g c = λ all told.
    let k = lent_walk (goal.G-step g) _ _ c.hand_to.new.taker all c.hand_to.result (c.hand_to.ensures.walked all told) in
    let n = k.0 in
    let w = k.1 in
    search rules

pub returns-clause-causes : goal.returns-clause-causes
returns-clause-causes g c =
    let k = lent_walk (goal.G-step g) _ _ c.hand_to.new.taker c.hand_to.ensures.causes.0 c.hand_to.result c.hand_to.ensures.causes.1 in
    let n = k.0 in
    let w = k.1 in
    search rules
