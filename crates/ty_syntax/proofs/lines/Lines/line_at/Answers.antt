use Rattle.std.proofs.Common.{◌≡◌, ◌-◌, length, leb, arith, rules, ap}
use Rattle.std.proofs.lemmas.List.Sorted.{IsPartitionPoint-from_clause}
use Rattle.ty_syntax.specs.Lines.{starts_to}
use Rattle.ty_syntax.specs.LineTable.{table}
use Rattle.ty_syntax.proofs.Starts.{parted, found, some_start, goes_on}
use Rattle.ty_syntax.proofs.lines.Lines.line_at.Goals as goal

is_table : (c : goal.After-partition_point) → c.deref.result.now ≡ table c.args.self.now
is_table c = cc

count : (c : goal.After-partition_point) → c.partition_point.result ≡ length (starts_to c.args.self.now c.args.byte)
count c =
    let xs = c.deref.result.now in
    let point = IsPartitionPoint-from_clause (λ s. leb s.byte c.args.byte) xs c.partition_point.result c.partition_point.ensures.partitioned (parted c.args.self.now xs c.args.byte (is_table c) c.requires) (λ a r q k. search rules) in
    found c.args.self.now xs c.args.byte c.partition_point.result (is_table c) c.requires c.partition_point.ensures.bound point

pub overflow_sub-result : goal.overflow_sub-result
overflow_sub-result c = omega (arith, count c, some_start c.args.self.now c.args.byte)

pub returns-clause-value : goal.returns-clause-value
returns-clause-value c = ap (λ n. n - 1) (count c)

pub returns-clause-within : goal.returns-clause-within
returns-clause-within c = omega (arith, count c, some_start c.args.self.now c.args.byte, (goes_on c.args.self.now c.args.byte (length c.args.self.now) c.requires).longer)
