use Rattle.std.proofs.Common.{◌-◌, drop, refl, arith, length-take, length-drop}
use Rattle.session_lines.specs.LineReader.{held_of}
use Rattle.session_lines.proofs.Known.{fills_finds, held_none}
use Rattle.session_lines.proofs.Bounds.{held_within, taken_now, taken_fresh}
use Rattle.session_lines.specs.LineReader.{ahead}
use Rattle.session_lines.proofs.line_reader.LineReader.look_ahead.Goals as goal

pub returns-then-self-clause-bytes : goal.returns-then-self-clause-bytes
returns-then-self-clause-bytes g c =
    let r = c.args.self.now in
    (held_of r, (g.S.LineSource.seen c.args.source.now).left, refl, omega (arith, length-take (r.to - r.from) (drop r.from r.piece.items), length-drop r.from r.piece.items))

pub returns-clause-bytes : goal.returns-clause-bytes
returns-clause-bytes g c =
    let r = c.args.self.now in
    fills_finds (held_of r) (held_of c.fill.new.self) (g.S.LineSource.seen c.args.source.now).left (g.S.LineSource.seen c.fill.new.source).left c.fill.result (held_none r.piece.items r.from r.to (omega arith)) c.fill.ensures.bytes

pub returns-then-self-clause-bounded : goal.returns-then-self-clause-bounded
returns-then-self-clause-bounded g c = λ rest is.
    let r = c.args.self.now in
    let left = (g.S.LineSource.seen c.args.source.now).left in
    taken_now (ahead r left) left left rest is 65536 (held_of r) refl (held_within r.piece.items r.from r.to r.size)

pub returns-clause-bounded : goal.returns-clause-bounded
returns-clause-bounded g c = λ rest is.
    let r = c.args.self.now in
    taken_fresh (held_of r) (g.S.LineSource.seen c.args.source.now).left (g.S.LineSource.seen c.fill.new.source).left rest (held_none r.piece.items r.from r.to (omega arith)) is c.fill.ensures.bounded
