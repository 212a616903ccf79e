use Rattle.std.proofs.Common.{◌≡◌, ◌≤◌, ◌*◌, take, map}
use Rattle.ty_syntax.specs.Text.{units}
use Rattle.ty_syntax.specs.Lines.{starts_to}
use Rattle.ty_syntax.specs.LineTable.{entry}
use Rattle.ty_syntax.proofs.lines.scan.Given as goal

abbrev pub invariant-loop-at : goal.invariant-loop-at
invariant-loop-at l = record {
  starts : l.starts.items ≡ map (entry l.text) (starts_to l.text l.at);
  units : l.utf16 ≡ units (take l.at l.text);
  few : l.utf16 ≤ 2 * l.at;
}
