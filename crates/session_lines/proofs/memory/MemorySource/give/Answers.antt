use Rattle.std.proofs.Common.{ℕ, ◌<◌, ◌+◌, ◌-◌, min, drop, length, sym, ap, ◌∙◌, arith, Some}
use Rattle.session_lines.specs.Memory.{SourceHolds, at_most_next, read_by}
use Rattle.session_lines.proofs.Pieces.{piece_held, piece_gone, read_none, read_some}
use Rattle.session_lines.proofs.memory.MemorySource.give.Goals as goal

pub returns-then-left-eq0-clause-next : goal.returns-then-left-eq0-clause-next
returns-then-left-eq0-clause-next c =
    read_none c.self.inside.bytes.items c.self.inside.at _ (length c.args.buf.now) (omega arith)
    ∙ ap (λ (s : SourceHolds). read_by s.left s.sizes (length c.args.buf.now)) c.self.view_is

pub returns-clause-next : goal.returns-clause-next
returns-clause-next c =
    read_some c.self.inside.bytes.items c.self.inside.at _ (length c.args.buf.now) c.at_most-n.result (omega arith)
    ((rw c.deref.ensures.value at c.at_most-n.ensures.next) ∙ ap (at_most_next (drop c.self.inside.given c.self.inside.sizes.items)) (c.min.ensures ∙ ap (λ (m : ℕ). min (length c.args.buf.now) (m - c.self.inside.at)) (c.len.ensures ∙ c.self.inside.bytes.ok.0)))
    ∙ ap (λ (s : SourceHolds). read_by s.left s.sizes (length c.args.buf.now)) c.self.view_is

pub returns-clause-bytes : goal.returns-clause-bytes
returns-clause-bytes c =
    let held = piece_held c.self.inside.bytes.items c.args.buf.now c.copy_front.new.buf c.self.inside.at c.at_most-n.result (omega arith) (omega arith) (rw c.deref-2.ensures.value at c.copy_front.ensures) in (
      held.within,
      ap Some (sym (ap (λ (s : SourceHolds). s.left) c.self.view_is) ∙ held.front),
      held.rest,
      λ none room.
          let some = rw c.deref.ensures.value at c.at_most-n.ensures.some in
          let more : 0 < c.at_most-n.result = some c.self.invariant.2 (omega arith) in
          absurd (omega arith),
    )

pub returns-clause-after : goal.returns-clause-after
returns-clause-after c =
    let s = c.self.inside in
    piece_gone s.bytes.items s.sizes.items s.fails.items s.at s.given c.min-self-inside.result c.at_most-n.result s.calls s.faults c.args.self.now (c.min-self-inside.ensures ∙ ap (min (s.given + 1)) (c.len-2.ensures ∙ s.sizes.ok.0)) c.self.view_is
