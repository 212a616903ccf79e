use Rattle.std.proofs.Common.{◌≡◌, ◌≤◌}
use Rattle.ty_syntax.specs.Lines.{start_at}
use Rattle.ty_syntax.specs.LineTable.{entry, table}
use Rattle.ty_syntax.proofs.Starts.{start_found}
use Rattle.ty_syntax.proofs.lines.Lines.line_and_start.Goals as goal

is_table : (c : goal.After-result-1) → c.self.inside.starts.items ≡ table c.args.self.now
is_table c = cc

at_start : (c : goal.After-result-1) → (c.index.result.now ≡ entry c.args.self.now (start_at c.args.self.now c.args.byte)) × (start_at c.args.self.now c.args.byte ≤ c.args.byte)
at_start c = start_found c.args.self.now c.self.inside.starts.items c.args.byte c.line_at-line.result c.index.result.now (is_table c) c.requires c.line_at-line.ensures.value c.index.ensures

pub returns-clause-start : goal.returns-clause-start
returns-clause-start c = (at_start c).0

pub returns-clause-before : goal.returns-clause-before
returns-clause-before c = rw (at_start c).0 (at_start c).1
