use Rattle.std.proofs.Common.{rules, not, ap, ◌∙◌}
use Rattle.std.proofs.lemmas.Fn.{filter_same}
use Rattle.ty_model.specs.Version.{same_id}
use Rattle.tinymist_plain.specs.Lists.{id_pairs}
use Rattle.tinymist_plain.proofs.IdLists.{removes}
use Rattle.tinymist_plain.proofs.ids.remove_id.Goals as goal

pub returns : goal.returns
returns c =
    ap id_pairs (filter_same _ (λ e. not (same_id c.args.id.now e.id)) _ (λ x b f' k. search rules) _ _ c.retain.ensures.filtered)
    ∙ removes c.args.id.now c.args.entries.now.items
