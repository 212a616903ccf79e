use Rattle.session_lines.proofs.Known.{held-after}
use Rattle.session_lines.proofs.line_reader.LineReader.end_line.Goals as goal

pub returns-clause-held : goal.returns-clause-held
returns-clause-held c =
    held-after c.args.self.now.piece.items c.set_line.new.self.piece.items c.args.self.now.from c.args.self.now.to c.set_line.new.self.to c.args.n
    c.in_ok-set_line.ensures.piece.0 c.in_ok-set_line.ensures.piece.2 c.requires
