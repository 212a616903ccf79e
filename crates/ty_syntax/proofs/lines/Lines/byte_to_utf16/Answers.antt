use Rattle.std.proofs.Common.{◌≡◌, true, length, take, arith, refl, ap}
use Rattle.ty_syntax.specs.Text.{units, between, is_place}
use Rattle.ty_syntax.specs.Lines.{start_at}
use Rattle.ty_syntax.proofs.Texts.{is_units, is_units_by_line, units_fit}
use Rattle.ty_syntax.proofs.lines.Lines.byte_to_utf16.Goals as goal

front : (c : goal.After-struct_known-2-1) → c.start_at-start.result.utf16 ≡ units (take c.start_at-start.result.byte c.args.self.now)
front c = rw c.start_at-start.ensures.start refl

back : (c : goal.After-struct_known-2-1) → c.units.result ≡ units (between c.args.self.now c.start_at-start.result.byte c.args.byte)
back c = rw c.units.ensures cc

pub overflow_add-result : goal.overflow_add-result
overflow_add-result c =
    let same : c.as_bytes.result.now ≡ c.args.self.now = cc in
    let fit = units_fit c.args.self.now c.start_at-start.result.byte c.args.byte c.start_at-start.result.utf16 c.units.result c.start_at-start.ensures.before (front c) (back c) in
    omega (arith, fit, ap length same, c.as_bytes.type_inv)

here : (c : goal.After-struct_known-2-1) → is_place c.args.self.now c.args.byte ≡ true
here c = cc

byte : (c : goal.After-struct_known-2-1) → c.start_at-start.result.byte ≡ start_at c.args.self.now c.args.byte
byte c = rw c.start_at-start.ensures.start refl

pub returns-clause-value : goal.returns-clause-value
returns-clause-value c = is_units c.args.self.now c.start_at-start.result.byte c.args.byte c.start_at-start.result.utf16 c.units.result (here c) c.start_at-start.ensures.before (front c) (back c)

pub returns-clause-line : goal.returns-clause-line
returns-clause-line c =
    let front' : c.start_at-start.result.utf16 ≡ units (take (start_at c.args.self.now c.args.byte) c.args.self.now) = rw (byte c) at (front c) in
    let back' : c.units.result ≡ units (between c.args.self.now (start_at c.args.self.now c.args.byte) c.args.byte) = rw (byte c) at (back c) in
    is_units_by_line c.args.self.now c.args.byte c.start_at-start.result.utf16 c.units.result (here c) front' back'
