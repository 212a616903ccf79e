use Rattle.std.proofs.Common.{◌≡◌, ◌-◌, ◌≤◌, length, take}
use Rattle.std.specs.Io.KnownBytes.{append_known}
use Rattle.session_lines.proofs.sink.write_all.Given as goal

abbrev pub invariant-loop-at : goal.invariant-loop-at
invariant-loop-at g l = record {
  taken : (g.W.ByteSink.seen l.sink).taken ≡ append_known (g.W.ByteSink.seen l.fn.sink).taken (take l.at l.piece);
  size : l.at ≤ length l.piece;
  faults : (g.W.ByteSink.seen l.fn.sink).faults ≤ (g.W.ByteSink.seen l.sink).faults;
  dry : (g.W.ByteSink.seen l.fn.sink).dry ≤ (g.W.ByteSink.seen l.sink).dry;
}

abbrev pub decreases-loop-at : goal.decreases-loop-at
decreases-loop-at g l = length l.piece - l.at
