use Rattle.tinymist_vfs.specs.Items.{clean_item}
use Rattle.tinymist_session.proofs.Edits.{live_shows}
use Rattle.tinymist_session.proofs.machine.Machine.edit_target.Goals as goal

pub returns-in_ok-revision-in-Live-clause-state : goal.returns-in_ok-revision-in-Live-clause-state
returns-in_ok-revision-in-Live-clause-state c = λ s is.
    rw (c.in-Live.is, c.in_ok-revision-in-Live.ensures.ok.0) (live_shows c.args.self.now.live c.args.self.now.views.items c.args.self.now.tags s is (clean_item c.args.item))
