use Rattle.std.proofs.Common.{rules, ◌+◌, min, ap, ◌∙◌, arith}
use Rattle.session_lines.proofs.Pieces.{piece_taken, not_dry, is_dry, no_piece, unflushed, still_flushed}
use Rattle.session_lines.proofs.memory.MemorySinkByteSink.write.Goals as goal

pub returns-then-n-gt0-clause-after : goal.returns-then-n-gt0-clause-after
returns-then-n-gt0-clause-after c =
    let s = c.self.inside in
    let n = c.at_most-n.result in
    piece_taken s.bytes.items c.extend_from_slice.new.self.items s.most.items s.fails.items c.args.piece.now s.writes c.min-self-inside.result n s.calls s.faults s.dry s.dry s.flushed _ _
    (c.min-self-inside.ensures ∙ ap (min (s.writes + 1)) (c.len.ensures ∙ s.most.ok.0)) (search rules) (not_dry s.dry n c.args.piece.now (omega arith)) (unflushed n s.flushed (omega arith)) (c.self.view_is ∙ c.fails_now.ensures.after)

pub returns-then-not-is_empty-clause-after : goal.returns-then-not-is_empty-clause-after
returns-then-not-is_empty-clause-after c =
    let s = c.self.inside in
    let n = c.at_most-n.result in
    piece_taken s.bytes.items c.extend_from_slice.new.self.items s.most.items s.fails.items c.args.piece.now s.writes c.min-self-inside.result n s.calls s.faults s.dry _ s.flushed s.flushed _
    (c.min-self-inside.ensures ∙ ap (min (s.writes + 1)) (c.len.ensures ∙ s.most.ok.0)) (search rules) (is_dry s.dry _ n c.args.piece.now (omega arith) (search rules) c.saturating_add-self-inside.ensures) (still_flushed n s.flushed (omega arith)) (c.self.view_is ∙ c.fails_now.ensures.after)

pub returns-else-not-is_empty-clause-after : goal.returns-else-not-is_empty-clause-after
returns-else-not-is_empty-clause-after c =
    let s = c.self.inside in
    let n = c.at_most-n.result in
    piece_taken s.bytes.items c.extend_from_slice.new.self.items s.most.items s.fails.items c.args.piece.now s.writes c.min-self-inside.result n s.calls s.faults s.dry s.dry s.flushed s.flushed _
    (c.min-self-inside.ensures ∙ ap (min (s.writes + 1)) (c.len.ensures ∙ s.most.ok.0)) (search rules) (no_piece s.dry n c.args.piece.now (search rules)) (still_flushed n s.flushed (omega arith)) (c.self.view_is ∙ c.fails_now.ensures.after)
