use Rattle.std.proofs.Common.{◌≡◌, drop, map}
use Rattle.session_lines.specs.Lf.{IsLine}
use Rattle.tinymist_session.specs.Session.{lines_of}
use Rattle.tinymist_plain.proofs.Cuts.{cut_so_far}
use Rattle.tinymist_plain.proofs.lines.lines_of.Given as goal

abbrev pub invariant-loop-b : goal.invariant-loop-b
invariant-loop-b l = record {
  cut : cut_so_far (map (λ line. line.items) l.lines.items) l.line.items (drop l.b-index l.input) ≡ lines_of l.input;
  plain : IsLine l.line.items;
}
