use Rattle.std.proofs.Common.{◌≡◌, ◌++◌, ◌∷◌, [], ℕ, Ok, Err, Bool, refl, sym, ap, subst, ◌∙◌, arith}
use Rattle.std.proofs.lemmas.Result.{IfOk-weaker}
use Rattle.std.specs.Io.KnownBytes.{append_known}
use Rattle.session_lines.specs.LineReader.{ahead, held_of}
use Rattle.tinymist_session.specs.Session.{replies_to}
use Rattle.tinymist_session.specs.Run.{UnlessCutOff}
use Rattle.tinymist_session.specs.Turns.{ends, replies, PassEnds, PassSays}
use Rattle.tinymist_session.specs.Arguments.{plain_limits}
use Rattle.session_lines.proofs.Known.{start_ahead, end_ahead}
use Rattle.tinymist_session.proofs.Lines.{end_start}
use Rattle.tinymist_session.proofs.Passes.{written_after, written_quiet, fits_after, replies_start}
use Rattle.tinymist_session.proofs.Fronts.{front_start, front_push, front_broken, front_last, broken_answered, last_answered, front_bounded, front_bounded_last}
use Rattle.tinymist_session.proofs.Runs.{at_start, goes_on, fault_again}
use Rattle.tinymist_session.proofs.session.Session.run.Goals as goal

pub returns-in-Ok-false-clause-ends : goal.returns-in-Ok-false-clause-ends
returns-in-Ok-false-clause-ends g c = λ input is.
    let a = c.loop-n.invariant.ahead_is input is in
    sym (end_start (plain_limits c.args.limits) input) ∙ a.same_end
    ∙ subst (λ (b : Bool). PassEnds (plain_limits c.args.limits) c.loop-n.n a.rest (ahead c.pass.new.self.reader (g.S.LineSource.seen c.pass.new.source).left) (Ok b)) c.in-Ok-false.field-0-test (c.in-Ok-false.ensures.ends a.rest a.left_is)

pub returns-in-Ok-false-clause-written : goal.returns-in-Ok-false-clause-written
returns-in-Ok-false-clause-written g c = λ input told is disk fixed.
    let p = c.loop-n.invariant.pending input told is disk fixed in
    let says = subst (λ (b : Bool). PassSays (plain_limits c.args.limits) told p.state c.loop-n.n p.rest (ahead c.pass.new.self.reader (g.S.LineSource.seen c.pass.new.source).left) (g.W.ByteSink.seen c.loop-n.sink).taken (g.W.ByteSink.seen c.pass.new.sink).taken c.pass.new.self.machine.live c.pass.new.self.machine.views.items c.pass.new.self.machine.tags (Ok b)) c.in-Ok-false.field-0-test (c.in-Ok-false.ensures.says p.rest told p.state p.left_is p.disk_is p.shown) in
    written_after (g.W.ByteSink.seen c.args.sink.now).taken (g.W.ByteSink.seen c.loop-n.sink).taken (g.W.ByteSink.seen c.pass.new.sink).taken p.done (replies_to (plain_limits c.args.limits) told input) (replies (plain_limits c.args.limits) told p.state c.loop-n.n p.rest) (Ok tt) p.taken (replies_start (plain_limits c.args.limits) told input ∙ p.goes_on) says

pub returns-in-Ok-false-clause-read : goal.returns-in-Ok-false-clause-read
returns-in-Ok-false-clause-read g c = end_ahead (held_of c.pass.new.self.reader) (g.S.LineSource.seen c.pass.new.source).left (c.in-Ok-false.ensures.at_end (ap Ok c.in-Ok-false.field-0-test))

pub returns-in-Err-clause-ends : goal.returns-in-Err-clause-ends
returns-in-Err-clause-ends g c = λ input is.
    let a = c.loop-n.invariant.ahead_is input is in
    fits_after _ _ (Err c.in-Err.fault) (sym (end_start (plain_limits c.args.limits) input) ∙ a.same_end) (c.in-Err.ensures.ends a.rest a.left_is)

pub returns-in-Err-clause-written : goal.returns-in-Err-clause-written
returns-in-Err-clause-written g c = λ input told is disk fixed.
    let p = c.loop-n.invariant.pending input told is disk fixed in
    let says = c.in-Err.ensures.says p.rest told p.state p.left_is p.disk_is p.shown in
    written_after (g.W.ByteSink.seen c.args.sink.now).taken (g.W.ByteSink.seen c.loop-n.sink).taken (g.W.ByteSink.seen c.pass.new.sink).taken p.done (replies_to (plain_limits c.args.limits) told input) (replies (plain_limits c.args.limits) told p.state c.loop-n.n p.rest) (Err c.in-Err.fault) p.taken (replies_start (plain_limits c.args.limits) told input ∙ p.goes_on) says

pub loop-n-preserved : goal.loop-n-preserved
loop-n-preserved g c = record {
  ahead_is = λ input is.
      let a = c.loop-n.invariant.ahead_is input is in
      let e = subst (λ (b : Bool). PassEnds (plain_limits c.args.limits) c.loop-n.n a.rest (ahead c.pass.new.self.reader (g.S.LineSource.seen c.pass.new.source).left) (Ok b)) c.in-Ok-true.field-0-test (c.in-Ok-true.ensures.ends a.rest a.left_is) in
      record { rest = e.0; lines = a.lines ++ e.3.line ∷ []; front = front_push (plain_limits c.args.limits) input c.loop-n.n a.lines a.rest a.front e.0 e.3; left_is = e.1; same_end = a.same_end ∙ e.2 };
  pending = λ input told is disk fixed.
      let p = c.loop-n.invariant.pending input told is disk fixed in
      goes_on (plain_limits c.args.limits) told input c.loop-n.n (ahead c.loop-n.self.reader (g.S.LineSource.seen c.loop-n.source).left) (ahead c.pass.new.self.reader (g.S.LineSource.seen c.pass.new.source).left) (g.M.PathAccessModel.told c.loop-n.disk) (g.M.PathAccessModel.told c.pass.new.disk) (g.W.ByteSink.seen c.args.sink.now).taken (g.W.ByteSink.seen c.loop-n.sink).taken (g.W.ByteSink.seen c.pass.new.sink).taken
      c.loop-n.self.machine.live c.pass.new.self.machine.live c.loop-n.self.machine.views.items c.pass.new.self.machine.views.items c.loop-n.self.machine.tags c.pass.new.self.machine.tags
      p (c.in-Ok-true.ensures.left told p.disk_is fixed) (subst (λ (b : Bool). PassSays (plain_limits c.args.limits) told p.state c.loop-n.n p.rest (ahead c.pass.new.self.reader (g.S.LineSource.seen c.pass.new.source).left) (g.W.ByteSink.seen c.loop-n.sink).taken (g.W.ByteSink.seen c.pass.new.sink).taken c.pass.new.self.machine.live c.pass.new.self.machine.views.items c.pass.new.self.machine.tags (Ok b)) c.in-Ok-true.field-0-test (c.in-Ok-true.ensures.says p.rest told p.state p.left_is p.disk_is p.shown));
  kept = λ told disk fixed. c.in-Ok-true.ensures.left told (c.loop-n.invariant.kept told disk fixed) fixed;
  revision = omega (arith, c.in-Ok-true.ensures.revision);
  number = omega (arith, c.in-Ok-true.ensures.number);
  reads = omega (arith, c.in-Ok-true.ensures.read_cause.later);
  faults = omega (arith, c.in-Ok-true.ensures.faults);
  dry = omega (arith, c.in-Ok-true.ensures.dry);
}

pub returns-clause-ends : goal.returns-clause-ends
returns-clause-ends g c = λ input is.
    let a = c.loop-n.invariant.ahead_is input is in
    let n_is : c.loop-n.n ≡ c.args.limits.max_lines = omega arith in
    let e = c.close.ensures.ends (plain_limits c.args.limits) a.rest a.left_is in
    fits_after _ _ c.close.result (sym (end_start (plain_limits c.args.limits) input) ∙ a.same_end ∙ ap (λ (m : ℕ). ends (plain_limits c.args.limits) m a.rest) n_is) e

pub returns-clause-written : goal.returns-clause-written
returns-clause-written g c = λ input told is disk fixed.
    let p = c.loop-n.invariant.pending input told is disk fixed in
    let n_is : c.loop-n.n ≡ c.args.limits.max_lines = omega arith in
    let quiet = subst (λ (m : ℕ). UnlessCutOff c.close.result (replies (plain_limits c.args.limits) told p.state m p.rest ≡ [])) (sym n_is) (c.close.ensures.silent (plain_limits c.args.limits) told p.state p.rest p.left_is) in
    let w = written_quiet (g.W.ByteSink.seen c.loop-n.sink).taken (g.W.ByteSink.seen c.close.new.sink).taken (replies (plain_limits c.args.limits) told p.state c.loop-n.n p.rest) c.close.result c.close.ensures.taken quiet in
    written_after (g.W.ByteSink.seen c.args.sink.now).taken (g.W.ByteSink.seen c.loop-n.sink).taken (g.W.ByteSink.seen c.close.new.sink).taken p.done (replies_to (plain_limits c.args.limits) told input) (replies (plain_limits c.args.limits) told p.state c.loop-n.n p.rest) c.close.result p.taken (replies_start (plain_limits c.args.limits) told input ∙ p.goes_on) w

pub returns-clause-read : goal.returns-clause-read
returns-clause-read g c = IfOk-weaker c.close.result _ _ (λ _ h. end_ahead (held_of c.close.new.self.reader) (g.S.LineSource.seen c.close.new.source).left h) c.close.ensures.at_end

pub loop-n-init : goal.loop-n-init
loop-n-init g c = record {
  ahead_is = λ input is. record { rest = input; lines = []; front = front_start (plain_limits c.args.limits) input; left_is = start_ahead (held_of c.args.self.now.reader) (g.S.LineSource.seen c.args.source.now).left c.requires.held ∙ is; same_end = refl };
  pending = λ input told is disk fixed. at_start (plain_limits c.args.limits) told input 0 (ahead c.args.self.now.reader (g.S.LineSource.seen c.args.source.now).left) (g.M.PathAccessModel.told c.args.disk.now) (g.W.ByteSink.seen c.args.sink.now).taken c.args.self.now.machine.live c.args.self.now.machine.views.items c.args.self.now.machine.tags (start_ahead (held_of c.args.self.now.reader) (g.S.LineSource.seen c.args.source.now).left c.requires.held ∙ is) disk c.requires.shown;
  kept = λ told disk fixed. disk;
  revision = omega (arith, c.requires.revision);
  number = omega (arith, c.requires.number);
  reads = omega arith;
  faults = omega arith;
  dry = omega arith;
}

-- ---- a read fault, and how much was taken

pub returns-in-Err-clause-received : goal.returns-in-Err-clause-received
returns-in-Err-clause-received g c = λ input is fault.
    let a = c.loop-n.invariant.ahead_is input is in
    front_broken (plain_limits c.args.limits) input c.loop-n.n a.lines a.rest a.front (g.S.LineSource.seen c.pass.new.source).left (omega arith) (c.in-Err.ensures.received a.rest a.left_is (fault_again c.in-Err.fault (Err c.in-Err.fault) (Err c.in-Err.fault) refl refl fault))

pub returns-in-Err-clause-answered : goal.returns-in-Err-clause-answered
returns-in-Err-clause-answered g c = λ input told is disk fixed fault.
    let p = c.loop-n.invariant.pending input told is disk fixed in
    let again = fault_again c.in-Err.fault (Err c.in-Err.fault) (Err c.in-Err.fault) refl refl fault in
    broken_answered (plain_limits c.args.limits) input c.loop-n.n p.lines p.rest p.front told (g.W.ByteSink.seen c.args.sink.now).taken (g.W.ByteSink.seen c.pass.new.sink).taken (g.S.LineSource.seen c.pass.new.source).left
    (c.in-Err.ensures.quiet again ∙ p.taken ∙ ap (append_known (g.W.ByteSink.seen c.args.sink.now).taken) p.done_is) (omega arith) (c.in-Err.ensures.received p.rest p.left_is again)

pub returns-in-Err-clause-bounded : goal.returns-in-Err-clause-bounded
returns-in-Err-clause-bounded g c = λ input is.
    let a = c.loop-n.invariant.ahead_is input is in
    front_bounded (plain_limits c.args.limits) input c.loop-n.n a.lines a.rest a.front (g.S.LineSource.seen c.pass.new.source).left (omega arith) (c.in-Err.ensures.bounded a.rest a.left_is)

pub returns-in-Ok-false-clause-bounded : goal.returns-in-Ok-false-clause-bounded
returns-in-Ok-false-clause-bounded g c = λ input is.
    let a = c.loop-n.invariant.ahead_is input is in
    front_bounded (plain_limits c.args.limits) input c.loop-n.n a.lines a.rest a.front (g.S.LineSource.seen c.pass.new.source).left (omega arith) (c.in-Ok-false.ensures.bounded a.rest a.left_is)

pub returns-clause-received : goal.returns-clause-received
returns-clause-received g c = λ input is fault.
    let a = c.loop-n.invariant.ahead_is input is in
    front_last (plain_limits c.args.limits) input c.loop-n.n a.lines a.rest a.front (g.S.LineSource.seen c.close.new.source).left (omega arith) (c.close.ensures.received a.rest a.left_is fault)

pub returns-clause-answered : goal.returns-clause-answered
returns-clause-answered g c = λ input told is disk fixed fault.
    let p = c.loop-n.invariant.pending input told is disk fixed in
    last_answered (plain_limits c.args.limits) input c.loop-n.n p.lines p.rest p.front told (g.W.ByteSink.seen c.args.sink.now).taken (g.W.ByteSink.seen c.close.new.sink).taken (g.S.LineSource.seen c.close.new.source).left
    (c.close.ensures.taken ∙ p.taken ∙ ap (append_known (g.W.ByteSink.seen c.args.sink.now).taken) p.done_is) (omega arith) (c.close.ensures.received p.rest p.left_is fault)

pub returns-clause-bounded : goal.returns-clause-bounded
returns-clause-bounded g c = λ input is.
    let a = c.loop-n.invariant.ahead_is input is in
    front_bounded_last (plain_limits c.args.limits) input c.loop-n.n a.lines a.rest a.front (g.S.LineSource.seen c.close.new.source).left (omega arith) (c.close.ensures.bounded a.rest a.left_is)
