use Rattle.std.proofs.Common.{ap, ◌+◌, ◌++◌, ◌∙◌, sym, arith, length, length-append}
use Rattle.session_lines.specs.LineReader.{held_of, line_of, ahead}
use Rattle.session_lines.proofs.Known.{prepend-prepend, whole-read, more-read, both_lines}
use Rattle.session_lines.proofs.Bounds.{held_within, taken_now, taken_more}
use Rattle.session_lines.proofs.line_reader.LineReader.read_line.Goals as goal

pub returns-in-Whole-clause-bytes : goal.returns-in-Whole-clause-bytes
returns-in-Whole-clause-bytes g c =
    let left = (g.S.LineSource.seen c.loop-self.source).left in
    let goes = rw c.in-Whole.is at c.in_ok-next_part.ensures.bytes in
    whole-read c.args.max_line _ (ahead c.loop-self.self left) (ahead c.next_part.new.self (g.S.LineSource.seen c.next_part.new.source).left) c.loop-self.self.gathered.items goes.0 (line_of c.next_part.new.self) c.whole.result
    (c.loop-self.invariant.read ∙ sym (prepend-prepend left c.loop-self.self.gathered.items (held_of c.loop-self.self))) goes.1 c.loop-self.invariant.plain goes.2 goes.3 c.whole.ensures.fits c.whole.ensures.long

pub returns-in-Whole-clause-bounded : goal.returns-in-Whole-clause-bounded
returns-in-Whole-clause-bounded g c = λ rest is.
    let r = c.loop-self.self in
    taken_more (ahead c.args.self.now (g.S.LineSource.seen c.args.source.now).left) (g.S.LineSource.seen c.loop-self.source).left (g.S.LineSource.seen c.next_part.new.source).left rest is c.args.max_line r.gathered.items (held_of r) c.loop-self.invariant.read (omega arith) (held_within r.piece.items r.from r.to r.size) c.next_part.ensures.bounded

pub returns-in-End-clause-bounded : goal.returns-in-End-clause-bounded
returns-in-End-clause-bounded g c = λ rest is.
    let r = c.loop-self.self in
    taken_more (ahead c.args.self.now (g.S.LineSource.seen c.args.source.now).left) (g.S.LineSource.seen c.loop-self.source).left (g.S.LineSource.seen c.next_part.new.source).left rest is c.args.max_line r.gathered.items (held_of r) c.loop-self.invariant.read (omega arith) (held_within r.piece.items r.from r.to r.size) c.next_part.ensures.bounded

pub returns-in_err-next_part-clause-bounded : goal.returns-in_err-next_part-clause-bounded
returns-in_err-next_part-clause-bounded g c = λ rest is.
    let r = c.loop-self.self in
    taken_more (ahead c.args.self.now (g.S.LineSource.seen c.args.source.now).left) (g.S.LineSource.seen c.loop-self.source).left (g.S.LineSource.seen c.next_part.new.source).left rest is c.args.max_line r.gathered.items (held_of r) c.loop-self.invariant.read (omega arith) (held_within r.piece.items r.from r.to r.size) c.next_part.ensures.bounded

pub returns-clause-bounded : goal.returns-clause-bounded
returns-clause-bounded g c = λ rest is.
    let r = c.loop-self.self in
    taken_now (ahead c.args.self.now (g.S.LineSource.seen c.args.source.now).left) (g.S.LineSource.seen c.loop-self.source).left (g.S.LineSource.seen c.loop-self.source).left rest is (c.args.max_line + 65536) (r.gathered.items ++ held_of r) c.loop-self.invariant.read (omega (arith, length-append r.gathered.items (held_of r), c.loop-self.invariant.within))

pub loop-self-preserved : goal.loop-self-preserved
loop-self-preserved g c =
    let old = c.loop-self.self in
    let new = c.next_part.new.self in
    let b = rw c.in-More.is at c.in_ok-next_part.ensures.bytes in
    record {
      read = more-read (ahead c.args.self.now (g.S.LineSource.seen c.args.source.now).left) (g.S.LineSource.seen c.loop-self.source).left (g.S.LineSource.seen c.next_part.new.source).left old.gathered.items (held_of old) b.0 new.gathered.items (held_of new) c.loop-self.invariant.read b.1 b.6;
      plain = rw b.6 (both_lines old.gathered.items b.0 c.loop-self.invariant.plain b.2);
      gathered = b.7 ∙ c.loop-self.invariant.gathered;
      within = omega (arith, ap length b.6, length-append old.gathered.items b.0, b.4, ap length b.5);
      reads = omega (arith, c.in_ok-next_part.ensures.read_cause.later, c.loop-self.invariant.reads);
      taken = c.in_ok-next_part.ensures.taken ∙ c.loop-self.invariant.taken;
      faults = omega (arith, c.in_ok-next_part.ensures.flush_cause.later, c.loop-self.invariant.faults);
      dry = omega (arith, c.in_ok-next_part.ensures.dry, c.loop-self.invariant.dry);
    }
