use Rattle.std.proofs.Common.{sym, ap, subst, ◌∙◌, map-id}
use Rattle.std.proofs.lemmas.Iterator.Adapters.{YieldsList-from_vec}
use Rattle.std.proofs.lemmas.Iterator.Consumers.{YieldsList-end}
use Rattle.std.specs.List.{flat_map}
use Rattle.std.specs.List.Sorted.{IsPermutation}
use Rattle.tinymist_std.proofs.fingerprint_map.items_of.Goals as goal

pub returns-clause-all : goal.returns-clause-all
returns-clause-all g c =
    let all = YieldsList-end (YieldsList-from_vec c.args.parts.items (cc) (cc)) c.loop-part.yielded c.loop-part.part-iterator c.loop-part.yielded_by c.next.result c.next.new.self c.in-None.is c.next.ensures.steps in
    let same = c.loop-part.invariant ∙ ap (flat_map (λ part. part.entries)) (sym (map-id c.loop-part.yielded) ∙ all.0) in
    subst (λ xs. IsPermutation xs c.sort_items.new.items.items) same c.sort_items.ensures.all
