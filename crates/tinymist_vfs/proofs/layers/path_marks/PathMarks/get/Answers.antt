use Rattle.std.proofs.Common.{sym, ap, ◌∙◌}
use Rattle.std.specs.Option.{option_or}
use Rattle.std.specs.FinMap as finmap
use Rattle.tinymist_vfs.specs.Maps.{path_map}
use Rattle.tinymist_vfs.proofs.Marked.{get_marked}
use Rattle.tinymist_vfs.proofs.layers.path_marks.PathMarks.get.Goals as goal

pub returns-in-Some : goal.returns-in-Some
returns-in-Some c =
    ap (λ o. option_or o (finmap.get (path_map c.args.self.now.settled.entries) c.args.path.now)) (sym c.in-Some.is ∙ c.waiting_at.ensures)
    ∙ sym (get_marked (path_map c.args.self.now.settled.entries) c.args.self.now.waiting c.args.path.now)

pub returns-in-None : goal.returns-in-None
returns-in-None c =
    c.copied.ensures ∙ c.at_text.ensures
    ∙ ap (λ o. option_or o (finmap.get (path_map c.args.self.now.settled.entries) c.args.path.now)) (sym c.in-None.is ∙ c.waiting_at.ensures)
    ∙ sym (get_marked (path_map c.args.self.now.settled.entries) c.args.self.now.waiting c.args.path.now)
