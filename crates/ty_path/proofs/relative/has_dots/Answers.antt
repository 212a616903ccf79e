-- The test is true of some part that the split gives.
use Rattle.std.proofs.Common.{◌||◌, ap, ◌∙◌, lit<, rules, tests, bytes_eq}
use Rattle.std.specs.List.{list_any}
use Rattle.std.proofs.lemmas.Iterator.Search.{any_from_yields_List}
use Rattle.std.proofs.lemmas.Iterator.Splits.{YieldsList-from_str_split}
use Rattle.ty_model.specs.Paths.{dot, dot_dot}
use Rattle.ty_path.proofs.RelativeLaws.{parts-split}
use Rattle.ty_path.proofs.relative.has_dots.Goals as goal

pub returns : goal.returns
returns c =
    any_from_yields_List (λ part. bytes_eq part dot || bytes_eq part dot_dot) _ _ c.any.result c.any.ensures.ran
    (YieldsList-from_str_split 47 c.args.path.now (lit< tt) c.split.ensures.text c.split.ensures.has_more c.split.ensures.pattern)
    (λ x b q k. search (rules, tests))
    ∙ ap (list_any (λ part. bytes_eq part dot || bytes_eq part dot_dot)) (parts-split c.args.path.now)
