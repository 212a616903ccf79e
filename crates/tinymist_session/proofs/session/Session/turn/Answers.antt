use Rattle.std.proofs.lemmas.Result.{err_from_is_err_and}
use Rattle.std.proofs.Common.{ap, subst, ◌∙◌}
use Rattle.std.specs.Io.KnownBytes.{append_known}
use Rattle.session_grammar.specs.Command.{Command}
use Rattle.tinymist_session.specs.Shown.{IsShown}
use Rattle.tinymist_session.proofs.Passes.{some_said}
use Rattle.session_grammar.specs.Reply.{reply_line}
use Rattle.tinymist_session.specs.Machine.{step}
use Rattle.session_lines.proofs.Known.{append-nothing}
use Rattle.tinymist_session.proofs.session.Session.turn.Goals as goal

pub returns-in_err-command-clause-says : goal.returns-in_err-command-clause-says
returns-in_err-command-clause-says g c = λ told s command is shown reads.
    let p = err_from_is_err_and c.from_residual.result c.from_residual.ensures.1 in
    rw p.1 (0, append-nothing (g.W.ByteSink.seen c.args.sink.now).taken (reply_line (step s told command).reply))

pub returns-in_err-reply-clause-says : goal.returns-in_err-reply-clause-says
returns-in_err-reply-clause-says g c = λ told s command is shown reads.
    let p = err_from_is_err_and c.from_residual-in_err-reply.result c.from_residual-in_err-reply.ensures.1 in
    rw p.1 (0, append-nothing (g.W.ByteSink.seen c.args.sink.now).taken (reply_line (step s told command).reply))

pub returns-in_err-put_line-clause-says : goal.returns-in_err-put_line-clause-says
returns-in_err-put_line-clause-says g c = λ told s command is shown reads.
    let p = err_from_is_err_and c.from_residual-in_err-put_line.result c.from_residual-in_err-put_line.ensures.1 in
    rw p.1 (0, append-nothing (g.W.ByteSink.seen c.args.sink.now).taken (reply_line (step s told command).reply))

pub returns-then-write_all-clause-says : goal.returns-then-write_all-clause-says
returns-then-write_all-clause-says g c = λ told s command is shown reads.
    let said = some_said c.in-Some.command _ _ command (rw c.in-Some.is at c.in_ok-command.ensures) c.line.ensures reads in (
      subst (λ (x : Command). IsShown c.step.new.self.live c.step.new.self.views.items c.step.new.self.tags (step s told x).state) said (c.in_ok-reply.ensures.state told s is shown),
      c.write_all.ensures.whole c.if-write_all.true
          ∙ ap (append_known (g.W.ByteSink.seen c.args.sink.now).taken) (c.deref.ensures.value ∙ c.in_ok-put_line.ensures ∙ ap reply_line (c.in_ok-reply.ensures.reply told s is shown) ∙ ap (λ (x : Command). reply_line (step s told x).reply) said),
    )
