use Rattle.std.proofs.Common.{◌∙◌, inl}
use Rattle.tinymist_session.specs.Session.{replies_to}
use Rattle.tinymist_session.specs.Arguments.{plain_limits}
use Rattle.tinymist_session.proofs.Passes.{ends_flushed, written_flushed}
use Rattle.tinymist_session.proofs.Told.{read_kept}
use Rattle.tinymist_session.proofs.Others.{leaves_others}
use Rattle.tinymist_session.proofs.session.run_session.Goals as goal

pub returns-clause-ends : goal.returns-clause-ends
returns-clause-ends g c = λ input is. ends_flushed _ c.run-answer.result c.finish-2.result c.finish-2.ensures.same (c.run-answer.ensures.ends input is)

pub returns-clause-written : goal.returns-clause-written
returns-clause-written g c = λ input told is disk fixed.
    written_flushed (replies_to (plain_limits c.args.limits) told input) (g.W.ByteSink.seen c.args.sink.now).taken (g.W.ByteSink.seen c.run-answer.new.sink).taken (g.W.ByteSink.seen c.finish-2.new.sink).taken c.run-answer.result c.finish-2.result c.finish-2.ensures.same c.finish-2.ensures.taken (c.run-answer.ensures.written input told is disk fixed)

pub returns-clause-answered : goal.returns-clause-answered
returns-clause-answered g c = λ input told is disk fixed fault.
    let a = c.run-answer.ensures.answered input told is disk fixed (read_kept c.run-answer.result c.finish-2.result c.finish-2.ensures.same fault) in
    (a.0, c.finish-2.ensures.taken ∙ a.1)

pub returns-clause-flushed_before_read : goal.returns-clause-flushed_before_read
returns-clause-flushed_before_read g c = λ fault.
    let was = read_kept c.run-answer.result c.finish-2.result c.finish-2.ensures.same fault in
    rw (c.finish-2.ensures.untouched (inl was)) (c.run-answer.ensures.flushed_before_read was)

pub returns-clause-received : goal.returns-clause-received
returns-clause-received g c = λ input is fault. c.run-answer.ensures.received input is (read_kept c.run-answer.result c.finish-2.result c.finish-2.ensures.same fault)

pub returns-clause-others : goal.returns-clause-others
returns-clause-others g c = leaves_others

pub returns-in-Err-clause-others : goal.returns-in-Err-clause-others
returns-in-Err-clause-others g c = leaves_others
