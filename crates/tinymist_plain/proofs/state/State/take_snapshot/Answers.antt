use Rattle.std.proofs.Common.{refl, ◌+◌}
use Rattle.tinymist_plain.proofs.Tops.{snapshot_top}
use Rattle.tinymist_plain.proofs.state.State.take_snapshot.Goals as goal

pub returns-clause-revision : goal.returns-clause-revision
returns-clause-revision c =
    snapshot_top c.args.self.now (record { live = c.args.self.now.live; views = c.push.new.self; next_space = c.args.self.now.next_space + 1; next_tag = c.args.self.now.next_tag; tagged = c.args.self.now.tagged }) c.in_ok-view.view c.args.self.now.next_space refl c.in_ok-push.ensures.items c.in_ok-view.ensures
