use Rattle.std.proofs.Common.{ap, arith}
use Rattle.session_grammar.specs.Reply.{ViewNumber}
use Rattle.tinymist_session.proofs.Edits.{snapshot_top}
use Rattle.tinymist_session.proofs.Showing.{snapshot_number, snapshot_is_shown}
use Rattle.tinymist_session.proofs.machine.Machine.take_snapshot.Goals as goal

pub returns-in_ok-push-in-Ok-clause-revision : goal.returns-in_ok-push-in-Ok-clause-revision
returns-in_ok-push-in-Ok-clause-revision c = snapshot_top c.args.self.now.live c.in-Ok.view c.args.self.now.views.items c.push.new.self.items c.in_ok-push-in-Ok.ensures.items c.in-Ok.ensures.revision

pub returns-in_ok-push-in-Ok-clause-reply : goal.returns-in_ok-push-in-Ok-clause-reply
returns-in_ok-push-in-Ok-clause-reply c = λ s is. ap ViewNumber (snapshot_number c.args.self.now.views.items c.push.new.self.items s.views c.in-Ok.view c.len.result is.views_are c.in_ok-push-in-Ok.ensures.items (omega (arith, c.len.ensures)))

pub returns-in_ok-push-in-Ok-clause-state : goal.returns-in_ok-push-in-Ok-clause-state
returns-in_ok-push-in-Ok-clause-state c = λ s is.
    snapshot_is_shown c.args.self.now.live c.args.self.now.views.items c.push.new.self.items c.args.self.now.tags s c.in-Ok.view c.snapshot_of.new.tags is c.in_ok-push-in-Ok.ensures.items (c.in-Ok.ensures.shows s.live is.live_is) c.in-Ok.ensures.tags
