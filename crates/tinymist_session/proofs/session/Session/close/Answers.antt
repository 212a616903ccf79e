use Rattle.session_lines.specs.LineReader.{ahead}
use Rattle.tinymist_session.proofs.Passes.{byte_over}
use Rattle.tinymist_session.proofs.session.Session.close.Goals as goal

pub returns-in-Some-clause-ends : goal.returns-in-Some-clause-ends
returns-in-Some-clause-ends g c = λ limits rest left.
    let found = c.in-Some.ensures.bytes in
    byte_over limits rest (ahead c.args.self.now.reader (g.S.LineSource.seen c.args.source.now).left) found.1 found.0 left found.2 found.3
