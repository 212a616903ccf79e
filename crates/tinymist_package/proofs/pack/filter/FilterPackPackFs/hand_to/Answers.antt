use Rattle.std.proofs.Common.{refl, sym, subst, rules}
use Rattle.tinymist_package.specs.Walk.{Walks, IsOwn}
use Rattle.tinymist_package.proofs.Walks.{filtered_some, filtered_walk}
use Rattle.tinymist_package.proofs.pack.filter.FilterPackPackFs.hand_to.Goals as goal

pub returns-clause-walked : goal.returns-clause-walked
returns-clause-walked g c = λ all (accept, fixed, (src, told, is)).
    let n = (filtered_some (goal.G-post g) g.T.TakesFiles.takes (IsOwn 0 0) _ c.hand_to.new.taker src c.hand_to.result (c.hand_to.ensures.walked src told)).0 in
    let k = filtered_walk (goal.G-post g) g.T.TakesFiles.takes (IsOwn 0 0) c.args.self.now.filter accept fixed _ c.hand_to.new.taker src c.hand_to.result refl (c.hand_to.ensures.walked src told) in
    let w = subst (λ fs. Walks g.T.TakesFiles.takes (IsOwn 0 0) c.args.taker.now fs c.hand_to.result c.hand_to.new.taker.taker.now) (sym is) k in
    search rules

pub returns-clause-causes : goal.returns-clause-causes
returns-clause-causes g c =
    let some = c.hand_to.ensures.causes in
    let k = filtered_some (goal.G-post g) g.T.TakesFiles.takes (IsOwn 0 0) _ c.hand_to.new.taker some.0 c.hand_to.result some.1 in
    let n = k.0 in
    let w = k.1.1 in
    (k.1.0, search rules)
