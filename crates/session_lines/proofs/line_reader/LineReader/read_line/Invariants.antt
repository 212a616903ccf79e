use Rattle.std.proofs.Common.{◌≡◌, ◌+◌, ◌-◌, ◌≤◌, ◌++◌, length, true}
use Rattle.std.specs.Io.KnownBytes.{prepend_known}
use Rattle.session_lines.specs.Lf.{IsLine}
use Rattle.session_lines.specs.LineReader.{held_of, ahead}
use Rattle.session_lines.proofs.line_reader.LineReader.read_line.Given as goal

abbrev pub invariant-loop-self : goal.invariant-loop-self
invariant-loop-self g l = record {
  read : ahead l.fn.self (g.S.LineSource.seen l.fn.source).left ≡ prepend_known (l.self.gathered.items ++ held_of l.self) (g.S.LineSource.seen l.source).left;
  plain : IsLine l.self.gathered.items;
  gathered : l.self.is_gathered ≡ true;
  within : length l.self.gathered.items + length (held_of l.self) ≤ l.fn.max_line + 65536;
  reads : (g.S.LineSource.seen l.fn.source).faults ≤ (g.S.LineSource.seen l.source).faults;
  taken : (g.W.ByteSink.seen l.sink).taken ≡ (g.W.ByteSink.seen l.fn.sink).taken;
  faults : (g.W.ByteSink.seen l.fn.sink).faults ≤ (g.W.ByteSink.seen l.sink).faults;
  dry : (g.W.ByteSink.seen l.fn.sink).dry ≤ (g.W.ByteSink.seen l.sink).dry;
}

abbrev pub decreases-loop-self : goal.decreases-loop-self
decreases-loop-self g l = l.max_line + 1 - length l.self.gathered.items
