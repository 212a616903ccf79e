use Rattle.std.proofs.Common.{◌++◌, ap, sym, ◌∙◌, map-id}
use Rattle.std.proofs.lemmas.Iterator.Adapters.{fact_from_extend}
use Rattle.std.proofs.lemmas.Iterator.Consumers.{YieldsList-from_rest}
use Rattle.tinymist_std.proofs.fingerprint_map.append_part.Goals as goal

pub returns : goal.returns
returns g c =
    fact_from_extend (λ p. p) c.extend.result c.extend.ensures.ran
    (λ it given. YieldsList-from_rest c.args.part.entries given.0)
    (λ xs all added. added.0 ∙ ap (λ l. c.args.items.now.items ++ l) (sym (map-id xs) ∙ all))
