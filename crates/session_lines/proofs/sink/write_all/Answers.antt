use Rattle.std.proofs.Common.{◌-◌, length, take, drop, ap, ◌∙◌, arith, length-take, length-drop, Option, List, ℕ}
use Rattle.std.specs.Io.KnownBytes.{append_known}
use Rattle.session_lines.proofs.Known.{append-taken}
use Rattle.session_lines.proofs.sink.write_all.Goals as goal

pub loop-at-preserved : goal.loop-at-preserved
loop-at-preserved g c = record {
  taken = c.in-Took.ensures.bytes.1 ∙ ap (λ (known : Option (List ℕ)). append_known known (take c.in-Took.n (take (length c.args.piece.now - c.loop-at.at) (drop c.loop-at.at c.args.piece.now)))) c.loop-at.invariant.taken ∙ append-taken (g.W.ByteSink.seen c.args.sink.now).taken c.args.piece.now c.loop-at.at c.in-Took.n;
  size = omega (arith, c.in-Took.ensures.bytes.0, length-take {A = ℕ}, length-drop {A = ℕ});
  faults = omega (arith, c.in-Took.ensures.cause.later);
  dry = omega (arith, c.in-Took.ensures.thirst.later);
}
