use Rattle.std.proofs.Common.{◌≡◌, subst}
use Rattle.tinymist_session.specs.Session.{Limits}
use Rattle.tinymist_session.specs.Run.{Answered}
use Rattle.tinymist_session.specs.Arguments.{plain_limits}
use Rattle.tinymist_session.proofs.Told.{same_limits, answered_told}
use Rattle.tinymist_session.proofs.program.run_program.Goals as goal

pub returns-clause-session : goal.returns-clause-session
returns-clause-session g c = λ limits is.
    let source = g.S.LineSource.seen c.args.source.now in
    let source' = g.S.LineSource.seen c.run_session-answer.new.source in
    let told = g.M.PathAccessModel.told c.args.disk.now in
    let told' = g.M.PathAccessModel.told c.run_session-answer.new.disk in
    let sink = g.W.ByteSink.seen c.args.sink.now in
    let sink' = g.W.ByteSink.seen c.run_session-answer.new.sink in
    let e = c.run_session-answer.ensures in
    let same : plain_limits c.in-Some.limits ≡ limits = same_limits (plain_limits c.in-Some.limits) limits _ (rw c.in-Some.is at c.limits_of.ensures) is in
    let answered : Answered (plain_limits c.in-Some.limits) source source' told told' sink sink' c.run_session-answer.result = record {
      ends = e.ends;
      written = e.written;
      received = e.received;
      answered = e.answered;
      bounded = e.bounded;
      disk_stays = e.left;
      read = e.read;
      was_flushed_before_read = e.flushed_before_read;
      was_flushed = e.flushed;
      was_flushed_without_memory = e.flushed_without_memory;
      read_cause = e.read_cause;
      write_cause = e.write_cause;
    } in (
      c.tell_answer.result,
      c.exit_status.ensures,
      answered_told limits source source' told told' sink sink' c.run_session-answer.result c.tell_answer.result c.tell_answer.ensures.same
          (subst (λ (l : Limits). Answered l source source' told told' sink sink' c.run_session-answer.result) same answered),
      c.tell_answer.ensures.told,
    )
