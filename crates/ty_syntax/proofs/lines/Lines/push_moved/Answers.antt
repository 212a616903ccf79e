use Rattle.std.proofs.Common.{◌≡◌, ℕ, ◌+◌, ◌-◌, ◌<◌, ◌≤◌, List, length, get_or, take, drop, refl, ◌∙◌, arith}
use Rattle.std.proofs.lemmas.List.{take_rest, take_all, get_or_default}
use Rattle.ty_syntax.specs.declared.lines.LineStart.{LineStart}
use Rattle.ty_syntax.specs.LineTable.{entry, table}
use Rattle.ty_syntax.specs.Lines.{starts_to, line_at}
use Rattle.ty_syntax.proofs.Starts.{some_start}
use Rattle.ty_syntax.proofs.Repairs.{IsLater, later_start}
use Rattle.ty_syntax.proofs.lines.Lines.push_moved.Goals as goal

-- the starts that the loop goes over
are_rest : (text : List ℕ) (starts : List LineStart) (line offset : ℕ) → starts ≡ table text → line ≡ line_at text offset → take (length starts - (line + 1)) (drop (line + 1) starts) ≡ drop (length (starts_to text offset)) (table text)
are_rest text starts line offset whole at =
    let next : line + 1 ≡ length (starts_to text offset) = omega (arith, at, some_start text offset) in
    take_rest starts (line + 1) ∙ (rw (whole, next) refl)

later : (text : List ℕ) (starts : List LineStart) (line i : ℕ) (was : LineStart) → starts ≡ table text → line ≡ line_at text was.byte → was ≡ entry text was.byte → was.byte ≤ length text → i < length (take (length starts - (line + 1)) (drop (line + 1) starts)) → IsLater text was (get_or (take (length starts - (line + 1)) (drop (line + 1) starts)) i record { byte = 0; utf16 = 0 })
later text starts line i was whole at is most within =
    let items = take (length starts - (line + 1)) (drop (line + 1) starts) in
    later_start text was items i (get_or items i record { byte = 0; utf16 = 0 }) (are_rest text starts line was.byte whole at) is most within (get_or_default items i _ _ within)

pub overflow_sub-start : goal.overflow_sub-start
overflow_sub-start c =
    let whole : c.deref.result.now ≡ table c.args.self.now = cc in
    let l = later c.args.self.now c.deref.result.now c.line_at.result c.loop-start.start-index c.args.was whole c.line_at.ensures.value c.requires.was c.requires.within c.loop-start-test.true in
    omega (arith, l.past)

pub overflow_add-start : goal.overflow_add-start
overflow_add-start c =
    let whole : c.deref.result.now ≡ table c.args.self.now = cc in
    let l = later c.args.self.now c.deref.result.now c.line_at.result c.loop-start.start-index c.args.was whole c.line_at.ensures.value c.requires.was c.requires.within c.loop-start-test.true in
    omega (arith, l.past, l.within, c.requires.bytes)

pub overflow_sub-start-in-loop-start : goal.overflow_sub-start-in-loop-start
overflow_sub-start-in-loop-start c =
    let whole : c.deref.result.now ≡ table c.args.self.now = cc in
    let l = later c.args.self.now c.deref.result.now c.line_at.result c.loop-start.start-index c.args.was whole c.line_at.ensures.value c.requires.was c.requires.within c.loop-start-test.true in
    omega (arith, l.counted)

pub overflow_add-start-in-loop-start : goal.overflow_add-start-in-loop-start
overflow_add-start-in-loop-start c =
    let whole : c.deref.result.now ≡ table c.args.self.now = cc in
    let l = later c.args.self.now c.deref.result.now c.line_at.result c.loop-start.start-index c.args.was whole c.line_at.ensures.value c.requires.was c.requires.within c.loop-start-test.true in
    omega (arith, l.past, l.within, l.few, c.requires.bytes, c.requires.units)

pub returns : goal.returns
returns c =
    let whole : c.deref.result.now ≡ table c.args.self.now = cc in
    let items = take (length c.deref.result.now - (c.line_at.result + 1)) (drop (c.line_at.result + 1) c.deref.result.now) in
    let all : take c.loop-start.start-index items ≡ items = take_all c.loop-start.start-index items c.loop-start-test.false in
    rw (← are_rest c.args.self.now c.deref.result.now c.line_at.result c.args.was.byte whole c.line_at.ensures.value) (rw all at c.loop-start.invariant)
