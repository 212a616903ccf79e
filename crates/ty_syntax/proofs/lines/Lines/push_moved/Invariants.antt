use Rattle.std.proofs.Common.{◌≡◌, ◌++◌, map, take}
use Rattle.ty_syntax.specs.LineTable.{moved}
use Rattle.ty_syntax.proofs.lines.Lines.push_moved.Given as goal

abbrev pub invariant-loop-start : goal.invariant-loop-start
invariant-loop-start l = l.starts.items ≡ l.initial.starts.items ++ map (moved l.was l.now) (take l.start-index l.start-items)
