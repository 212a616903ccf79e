use Rattle.tinymist_session.proofs.Told.{is_told, flushed_or_rose}
use Rattle.tinymist_session.proofs.program.tell.Goals as goal

pub returns : goal.returns
returns g c =
    let old = g.F.ByteSink.seen c.args.faults.now in
    let mid = g.F.ByteSink.seen c.write_all-taken.new.sink in
    let new = g.F.ByteSink.seen c.flush-flushed.new.self in
    is_told c.args.line.now c.as_bytes.result.now old mid new
    c.write_all-taken.result c.as_bytes.ensures.value c.write_all-taken.ensures.whole c.write_all-taken.ensures.front c.write_all-taken.ensures.cause c.flush-flushed.ensures.bytes c.write_all-taken.ensures.faults c.flush-flushed.ensures.cause.later c.flush-flushed.ensures.thirst
    (flushed_or_rose c.flush-flushed.result mid.flushed new.flushed mid.faults new.faults c.flush-flushed.ensures.flushed c.flush-flushed.ensures.cause)
