use Rattle.std.proofs.Common.{sym, ap, ◌∙◌}
use Rattle.std.specs.Option.{option_copied}
use Rattle.tinymist_vfs.proofs.UnderLaws.{holds-here, holds-below}
use Rattle.tinymist_vfs.proofs.model.under.holds_under.Goals as goal

pub returns-in-Some-clause-told : goal.returns-in-Some-clause-told
returns-in-Some-clause-told g c =
    holds-here c.args.files.now.entries c.args.path.now c.in-Some.file.now c.args.answer.now _ c.same_as.result (sym c.get_text.ensures ∙ ap option_copied c.in-Some.is) c.same_as.ensures

pub returns-in-None-clause-told : goal.returns-in-None-clause-told
returns-in-None-clause-told g c =
    holds-below c.args.files.now.entries c.args.path.now c.args.answer.now _ c.holds.result (sym c.get_text.ensures ∙ ap option_copied c.in-None.is) c.holds.ensures
