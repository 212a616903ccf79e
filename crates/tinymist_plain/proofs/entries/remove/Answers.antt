use Rattle.std.proofs.Common.{rules, not, ap, ◌∙◌}
use Rattle.std.proofs.lemmas.Fn.{filter_same}
use Rattle.std.specs.Str.{bytes_eq}
use Rattle.std.specs.String.{string_bytes}
use Rattle.tinymist_plain.specs.Lists.{pairs}
use Rattle.tinymist_plain.proofs.Lists.{removes}
use Rattle.tinymist_plain.proofs.entries.remove.Goals as goal

pub returns : goal.returns
returns g c =
    ap pairs (filter_same _ (λ e. not (bytes_eq c.args.path.now (string_bytes e.path))) _ (λ x b f' k. search rules) _ _ c.retain.ensures.filtered)
    ∙ removes c.args.path.now c.args.entries.now.items
