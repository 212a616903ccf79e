use Rattle.std.proofs.Common.{◌+◌, ◌++◌, [], List, ℕ, Err, refl, sym, ap, subst, ◌∙◌, append-nil}
use Rattle.std.specs.Io.KnownBytes.{append_known}
use Rattle.session_grammar.specs.Grammar.{command_of}
use Rattle.session_grammar.specs.Reply.{reply_line}
use Rattle.tinymist_session.specs.Machine.{step}
use Rattle.session_grammar.specs.Command.{Command}
use Rattle.tinymist_session.specs.Session.{lines_of, replies_from}
use Rattle.tinymist_session.specs.Run.{Written}
use Rattle.session_lines.specs.LineReader.{ahead, line_of}
use Rattle.tinymist_session.specs.Turns.{ends, replies}
use Rattle.tinymist_session.specs.Arguments.{plain_limits}
use Rattle.session_lines.specs.declared.line_reader.LineReader.{LineReader}
use Rattle.tinymist_session.proofs.Lines.{end_nothing, commands_nothing, is_good}
use Rattle.session_lines.proofs.Known.{known_left}
use Rattle.tinymist_session.proofs.Passes.{whole_line, only_line, some_command, ends_ok, ends_err, replies_ok, written_err, long_ends, long_replies, long_read, nothing_more, at_end}
use Rattle.tinymist_session.proofs.session.Session.pass.Goals as goal

pub returns-in-Ok-clause-ends : goal.returns-in-Ok-clause-ends
returns-in-Ok-clause-ends g c = λ rest is_left.
    let r = c.read_line.new.self in
    let left = (g.S.LineSource.seen c.read_line.new.source).left in
    let line = line_of r in
    let b = rw c.in-Ok-Line.field-0-is at c.in-Ok-Line.ensures.bytes in
    let whole = whole_line _ (ahead r left) line rest b.0 b.1 is_left in
    let cmd = some_command (command_of line) c.in-Ok.ensures.reads in (
      whole.next,
      ap (λ (x : LineReader). ahead x left) c.in-Ok.ensures.reader ∙ whole.left_is,
      ends_ok (plain_limits c.args.limits) c.args.n line rest (lines_of whole.next) c.requires.room b.2 whole.first cmd.0 cmd.1,
      record { line = line; command = cmd.0; cut = whole.cut; whole = b.1; short = b.2; good = is_good (plain_limits c.args.limits) line b.2 ∙ cmd.1 },
    )

pub returns-in-Ok-clause-says : goal.returns-in-Ok-clause-says
returns-in-Ok-clause-says g c = λ rest told s is_left is shown.
    let r = c.read_line.new.self in
    let left = (g.S.LineSource.seen c.read_line.new.source).left in
    let line = line_of r in
    let b = rw c.in-Ok-Line.field-0-is at c.in-Ok-Line.ensures.bytes in
    let whole = whole_line _ (ahead r left) line rest b.0 b.1 is_left in
    let cmd = some_command (command_of line) c.in-Ok.ensures.reads in
    let says = c.in-Ok.ensures.says told s cmd.0 is shown cmd.1 in
    record {
      next = whole.next;
      state = (step s told cmd.0).state;
      piece = reply_line (step s told cmd.0).reply;
      left_is = ap (λ (x : LineReader). ahead x left) c.in-Ok.ensures.reader ∙ whole.left_is;
      shown = says.0;
      taken = says.1 ∙ ap (λ k. append_known k (reply_line (step s told cmd.0).reply)) c.read_line.ensures.taken;
      goes_on = replies_ok (plain_limits c.args.limits) c.args.n line rest (lines_of whole.next) c.requires.room b.2 whole.first told s cmd.0 cmd.1;
      first = record { line = line; command = cmd.0; cut = whole.cut; whole = b.1; short = b.2; good = is_good (plain_limits c.args.limits) line b.2 ∙ cmd.1 };
      stepped = refl;
      said = refl;
    }

pub returns-in-Err-clause-ends : goal.returns-in-Err-clause-ends
returns-in-Err-clause-ends g c = λ rest is_left.
    let r = c.read_line.new.self in
    let left = (g.S.LineSource.seen c.read_line.new.source).left in
    let line = line_of r in
    let b = rw c.in-Ok-Line.field-0-is at c.in-Ok-Line.ensures.bytes in
    let whole = whole_line _ (ahead r left) line rest b.0 b.1 is_left in
    ends_err (plain_limits c.args.limits) c.args.n line rest (lines_of whole.next) c.requires.room b.2 whole.first (c.from-number.result + 1) (ap (λ (m : ℕ). m + 1) c.from-number.ensures) c.in-Err.fault c.in-Err.ensures.reads

pub returns-in-Err-clause-says : goal.returns-in-Err-clause-says
returns-in-Err-clause-says g c = λ rest told s is_left is shown.
    let r = c.read_line.new.self in
    let left = (g.S.LineSource.seen c.read_line.new.source).left in
    let line = line_of r in
    let b = rw c.in-Ok-Line.field-0-is at c.in-Ok-Line.ensures.bytes in
    let whole = whole_line _ (ahead r left) line rest b.0 b.1 is_left in
    subst (λ k. Written (replies (plain_limits c.args.limits) told s c.args.n rest) k (g.W.ByteSink.seen c.turn.new.sink).taken (Err c.in-Err.fault)) c.read_line.ensures.taken (written_err (plain_limits c.args.limits) c.args.n line rest (lines_of whole.next) c.requires.room b.2 whole.first told s (g.W.ByteSink.seen c.read_line.new.sink).taken (g.W.ByteSink.seen c.turn.new.sink).taken
    (λ e. c.in-Err.ensures.quiet e)
    (λ command e. c.in-Err.ensures.says told s command is shown e)
    (c.from-number.result + 1) c.in-Err.fault c.in-Err.ensures.reads)

pub returns-in-Ok-turn-clause-ends : goal.returns-in-Ok-turn-clause-ends
returns-in-Ok-turn-clause-ends g c = λ rest is_left.
    let r = c.read_line.new.self in
    let left = (g.S.LineSource.seen c.read_line.new.source).left in
    let line = line_of r in
    let b = rw c.in-Ok-Last.field-0-is at c.in-Ok-Last.ensures.bytes in
    let first = only_line _ (ahead r left) line rest b.0 b.1 b.3 b.4 is_left in
    let cmd = some_command (command_of line) c.in-Ok-turn.ensures.reads in
    ends_ok (plain_limits c.args.limits) c.args.n line rest [] c.requires.room b.2 first cmd.0 cmd.1 ∙ end_nothing (plain_limits c.args.limits) (c.args.n + 1)

pub returns-in-Ok-turn-clause-says : goal.returns-in-Ok-turn-clause-says
returns-in-Ok-turn-clause-says g c = λ rest told s is_left is shown.
    let r = c.read_line.new.self in
    let left = (g.S.LineSource.seen c.read_line.new.source).left in
    let line = line_of r in
    let b = rw c.in-Ok-Last.field-0-is at c.in-Ok-Last.ensures.bytes in
    let first = only_line _ (ahead r left) line rest b.0 b.1 b.3 b.4 is_left in
    let cmd = some_command (command_of line) c.in-Ok-turn.ensures.reads in
    let says = c.in-Ok-turn.ensures.says told s cmd.0 is shown cmd.1 in
    says.1 ∙ ap (λ k. append_known k (reply_line (step s told cmd.0).reply)) c.read_line.ensures.taken
    ∙ ap (append_known (g.W.ByteSink.seen c.args.sink.now).taken) (sym (replies_ok (plain_limits c.args.limits) c.args.n line rest [] c.requires.room b.2 first told s cmd.0 cmd.1 ∙ ap (λ (cs : List Command). reply_line (step s told cmd.0).reply ++ replies_from told (step s told cmd.0).state cs) (commands_nothing (plain_limits c.args.limits) (c.args.n + 1)) ∙ append-nil (reply_line (step s told cmd.0).reply)))

pub returns-in-Err-turn-clause-ends : goal.returns-in-Err-turn-clause-ends
returns-in-Err-turn-clause-ends g c = λ rest is_left.
    let r = c.read_line.new.self in
    let left = (g.S.LineSource.seen c.read_line.new.source).left in
    let line = line_of r in
    let b = rw c.in-Ok-Last.field-0-is at c.in-Ok-Last.ensures.bytes in
    let first = only_line _ (ahead r left) line rest b.0 b.1 b.3 b.4 is_left in
    ends_err (plain_limits c.args.limits) c.args.n line rest [] c.requires.room b.2 first (c.from-number.result + 1) (ap (λ (m : ℕ). m + 1) c.from-number.ensures) c.in-Err-turn.fault c.in-Err-turn.ensures.reads

pub returns-in-Err-turn-clause-says : goal.returns-in-Err-turn-clause-says
returns-in-Err-turn-clause-says g c = λ rest told s is_left is shown.
    let r = c.read_line.new.self in
    let left = (g.S.LineSource.seen c.read_line.new.source).left in
    let line = line_of r in
    let b = rw c.in-Ok-Last.field-0-is at c.in-Ok-Last.ensures.bytes in
    let first = only_line _ (ahead r left) line rest b.0 b.1 b.3 b.4 is_left in
    subst (λ k. Written (replies (plain_limits c.args.limits) told s c.args.n rest) k (g.W.ByteSink.seen c.turn-in-Ok-Last.new.sink).taken (Err c.in-Err-turn.fault)) c.read_line.ensures.taken (written_err (plain_limits c.args.limits) c.args.n line rest [] c.requires.room b.2 first told s (g.W.ByteSink.seen c.read_line.new.sink).taken (g.W.ByteSink.seen c.turn-in-Ok-Last.new.sink).taken
    (λ e. c.in-Err-turn.ensures.quiet e)
    (λ command e. c.in-Err-turn.ensures.says told s command is shown e)
    (c.from-number.result + 1) c.in-Err-turn.fault c.in-Err-turn.ensures.reads)

pub returns-in-Err-TooLong-clause-ends : goal.returns-in-Err-TooLong-clause-ends
returns-in-Err-TooLong-clause-ends g c = λ rest is_left.
    let r = c.read_line.new.self in
    let left = (g.S.LineSource.seen c.read_line.new.source).left in
    let before = ahead c.args.self.now.reader (g.S.LineSource.seen c.args.source.now).left in
    let line = line_of r in
    let b = rw c.in-Err-TooLong.field-0-is at c.in-Err-TooLong.ensures.bytes in
    let known = known_left before (ahead r left) (line ++ b.0) rest b.1 is_left in
    rw c.from-number.ensures (long_ends (plain_limits c.args.limits) c.args.n line (b.0 ++ known.0) rest c.requires.room b.3 b.2 (long_read line b.0 known.0 rest known.2))

pub returns-in-Err-TooLong-clause-says : goal.returns-in-Err-TooLong-clause-says
returns-in-Err-TooLong-clause-says g c = λ rest told s is_left is shown.
    let r = c.read_line.new.self in
    let left = (g.S.LineSource.seen c.read_line.new.source).left in
    let before = ahead c.args.self.now.reader (g.S.LineSource.seen c.args.source.now).left in
    let line = line_of r in
    let b = rw c.in-Err-TooLong.field-0-is at c.in-Err-TooLong.ensures.bytes in
    let known = known_left before (ahead r left) (line ++ b.0) rest b.1 is_left in
    c.read_line.ensures.taken ∙ nothing_more (g.W.ByteSink.seen c.args.sink.now).taken _ (long_replies (plain_limits c.args.limits) c.args.n line (b.0 ++ known.0) rest c.requires.room b.3 b.2 (long_read line b.0 known.0 rest known.2) told s)

pub returns-in-Ok-End-clause-ends : goal.returns-in-Ok-End-clause-ends
returns-in-Ok-End-clause-ends g c = λ rest is_left.
    let b = rw c.in-Ok-End.field-0-is at c.in-Ok-End.ensures.bytes in
    let none = at_end _ rest (sym b.0 ∙ is_left) b.1 in
    ap (ends (plain_limits c.args.limits) c.args.n) none ∙ end_nothing (plain_limits c.args.limits) c.args.n

pub returns-in-Ok-End-clause-says : goal.returns-in-Ok-End-clause-says
returns-in-Ok-End-clause-says g c = λ rest told s is_left is shown.
    let b = rw c.in-Ok-End.field-0-is at c.in-Ok-End.ensures.bytes in
    let none = at_end _ rest (sym b.0 ∙ is_left) b.1 in
    c.read_line.ensures.taken ∙ nothing_more (g.W.ByteSink.seen c.args.sink.now).taken _ (ap (replies (plain_limits c.args.limits) told s c.args.n) none ∙ ap (replies_from told s) (commands_nothing (plain_limits c.args.limits) c.args.n))
