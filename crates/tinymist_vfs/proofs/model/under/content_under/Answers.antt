use Rattle.std.proofs.Common.{sym, ap, ◌∙◌}
use Rattle.std.specs.Option.{option_copied}
use Rattle.tinymist_vfs.proofs.UnderLaws.{answers-here, answers-below}
use Rattle.tinymist_vfs.proofs.model.under.content_under.Goals as goal

pub returns-in-Some-clause-answer : goal.returns-in-Some-clause-answer
returns-in-Some-clause-answer g c =
    answers-here c.args.files.now.entries c.args.path.now c.in-Some.file.now _ c.share.result (sym c.get_text.ensures ∙ ap option_copied c.in-Some.is) c.share.ensures

pub returns-in-None-clause-answer : goal.returns-in-None-clause-answer
returns-in-None-clause-answer g c =
    answers-below c.args.files.now.entries c.args.path.now _ _ c.content.result (sym c.get_text.ensures ∙ ap option_copied c.in-None.is) c.content.ensures
