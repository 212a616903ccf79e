use Rattle.std.proofs.Common.{◌≡◌, ◌+◌, ◌-◌, ◌≤◌, length, take, refl, ap, arith}
use Rattle.std.proofs.lemmas.List.{length-take}
use Rattle.ty_syntax.specs.Text.{units, between}
use Rattle.ty_syntax.specs.Lines.{starts_to}
use Rattle.ty_syntax.specs.LineTable.{table}
use Rattle.ty_syntax.proofs.Texts.{few_units, units_between}
use Rattle.ty_syntax.proofs.Starts.{some_start}
use Rattle.ty_syntax.proofs.Repairs.{span_parts, front_units, kept_entries, repaired_table, counted, by_line}
use Rattle.ty_syntax.proofs.lines.Lines.repaired_starts.Goals as goal

pub overflow_add-before : goal.overflow_add-before
overflow_add-before c =
    let back : c.units.result ≡ units (between c.args.self.now c.start_at-start.result.byte c.args.from) = rw c.units.ensures cc in
    let before = by_line c.args.self.now c.args.from c.units.result c.start_at-start.result c.start_at-start.ensures.start c.start_at-start.ensures.before back in
    let same : c.as_bytes-old.result.now ≡ c.args.self.now = cc in
    omega (arith, before, few_units (take c.args.from c.args.self.now), length-take c.args.from c.args.self.now, ap length same, c.as_bytes-old.type_inv)

-- the units of the byte before the edit, if there is one
pub overflow_sub-before : goal.overflow_sub-before
overflow_sub-before c =
    let back : c.units.result ≡ units (between c.args.self.now c.start_at-start.result.byte c.args.from) = rw c.units.ensures cc in
    let before = by_line c.args.self.now c.args.from c.units.result c.start_at-start.result c.start_at-start.ensures.start c.start_at-start.ensures.before back in
    let first = c.saturating_sub-first.result in
    let last : c.units-2.result ≡ units (between c.args.self.now first c.args.from) = rw c.units-2.ensures cc in
    let least : first ≤ c.args.from = omega (arith, c.saturating_sub-first.ensures) in
    omega (arith, before, last, units_between c.args.self.now first c.args.from least)

pub scan-requires-clause-before : goal.scan-requires-clause-before
scan-requires-clause-before c =
    let back : c.units.result ≡ units (between c.args.self.now c.start_at-start.result.byte c.args.from) = rw c.units.ensures cc in
    let before = by_line c.args.self.now c.args.from c.units.result c.start_at-start.result c.start_at-start.ensures.start c.start_at-start.ensures.before back in
    let first = c.saturating_sub-first.result in
    let last : c.units-2.result ≡ units (between c.args.self.now first c.args.from) = rw c.units-2.ensures cc in
    let least : first ≤ c.args.from = omega (arith, c.saturating_sub-first.ensures) in
    let span = span_parts c.args.self.now c.args.from c.args.to c.requires.span in
    let same = front_units c.args.self.now c.args.with.now c.args.from c.args.to first least (omega (arith, span.0, span.1.0)) in
    rw c.requires.text (omega (arith, before, last, units_between c.args.self.now first c.args.from least, same))

pub scan-requires-clause-starts : goal.scan-requires-clause-starts
scan-requires-clause-starts c =
    let span = span_parts c.args.self.now c.args.from c.args.to c.requires.span in
    let whole : c.deref.result.now ≡ table c.args.self.now = cc in
    let first : c.saturating_sub-first.result ≡ c.args.from - 1 = c.saturating_sub-first.ensures in
    let next : c.line_at.result + 1 ≡ length (starts_to c.args.self.now c.saturating_sub-first.result) = omega (arith, c.line_at.ensures.value, some_start c.args.self.now c.saturating_sub-first.result) in
    let items : c.extend_from_slice.new.self.items ≡ take (c.line_at.result + 1) c.deref.result.now = rw c.in_ok-starts.ensures.items at c.in_ok-extend_from_slice.ensures.items in
    rw (items, next, whole, c.requires.text, first) (kept_entries c.args.self.now c.args.with.now c.args.from c.args.to (omega (arith, span.0, span.1.0)))

pub overflow_add-was : goal.overflow_add-was
overflow_add-was c =
    let back : c.units.result ≡ units (between c.args.self.now c.start_at-start.result.byte c.args.from) = rw c.units.ensures cc in
    let before = by_line c.args.self.now c.args.from c.units.result c.start_at-start.result c.start_at-start.ensures.start c.start_at-start.ensures.before back in
    let span = span_parts c.args.self.now c.args.from c.args.to c.requires.span in
    let replaced : c.units-replaced.result ≡ units (between c.args.self.now c.args.from c.args.to) = rw c.units-replaced.ensures cc in
    let total = counted c.args.self.now c.args.from c.args.to (c.start_at-start.result.utf16 + c.units.result) c.units-replaced.result span.0 before replaced in
    let same : c.as_bytes-old.result.now ≡ c.args.self.now = cc in
    omega (arith, total, few_units (take c.args.to c.args.self.now), length-take c.args.to c.args.self.now, ap length same, c.as_bytes-old.type_inv)

pub push_moved-requires-clause-was : goal.push_moved-requires-clause-was
push_moved-requires-clause-was c =
    let back : c.units.result ≡ units (between c.args.self.now c.start_at-start.result.byte c.args.from) = rw c.units.ensures cc in
    let before = by_line c.args.self.now c.args.from c.units.result c.start_at-start.result c.start_at-start.ensures.start c.start_at-start.ensures.before back in
    let span = span_parts c.args.self.now c.args.from c.args.to c.requires.span in
    let replaced : c.units-replaced.result ≡ units (between c.args.self.now c.args.from c.args.to) = rw c.units-replaced.ensures cc in
    let total = counted c.args.self.now c.args.from c.args.to (c.start_at-start.result.utf16 + c.units.result) c.units-replaced.result span.0 before replaced in
    rw total refl

pub push_moved-requires-clause-units : goal.push_moved-requires-clause-units
push_moved-requires-clause-units c =
    omega (arith, c.in_ok-after.ensures.before, few_units (take (c.args.from + length c.args.with.now) c.args.text.now), length-take (c.args.from + length c.args.with.now) c.args.text.now)

pub returns : goal.returns
returns c =
    let back : c.units.result ≡ units (between c.args.self.now c.start_at-start.result.byte c.args.from) = rw c.units.ensures cc in
    let before = by_line c.args.self.now c.args.from c.units.result c.start_at-start.result c.start_at-start.ensures.start c.start_at-start.ensures.before back in
    let span = span_parts c.args.self.now c.args.from c.args.to c.requires.span in
    let replaced : c.units-replaced.result ≡ units (between c.args.self.now c.args.from c.args.to) = rw c.units-replaced.ensures cc in
    let total = counted c.args.self.now c.args.from c.args.to (c.start_at-start.result.utf16 + c.units.result) c.units-replaced.result span.0 before replaced in
    repaired_table c.args.self.now c.args.with.now c.args.text.now c.args.from c.args.to (record { byte = c.args.to; utf16 = c.start_at-start.result.utf16 + c.units.result + c.units-replaced.result }) (record { byte = c.args.from + length c.args.with.now; utf16 = c.in_ok-after.after }) c.scan.new.starts.items c.push_moved.new.starts.items c.requires.text c.requires.span (rw total refl) (rw c.in_ok-after.ensures.before refl) c.in_ok-after.ensures.starts c.in_ok-push_moved.ensures
