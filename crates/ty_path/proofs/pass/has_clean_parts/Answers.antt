-- Parts that don't begin with a dot are clean.
use Rattle.std.proofs.Common.{sym, ◌∙◌}
use Rattle.ty_model.specs.Paths.{parts_at}
use Rattle.ty_path.proofs.CleanLaws.{plain_clean}
use Rattle.ty_path.proofs.pass.has_clean_parts.Goals as goal

pub returns-then-has_plain_parts : goal.returns-then-has_plain_parts
returns-then-has_plain_parts c =
    sym (plain_clean c.args.ups (parts_at 47 c.args.text.now) (sym c.has_plain_parts.ensures ∙ c.if-has_plain_parts.true))
