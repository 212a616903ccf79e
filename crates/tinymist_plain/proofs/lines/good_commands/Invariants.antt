use Rattle.std.proofs.Common.{◌≡◌, ◌++◌, drop, map}
use Rattle.session_grammar.specs.Plain.{plain_command}
use Rattle.tinymist_session.specs.Session.{good_commands}
use Rattle.tinymist_session.specs.Arguments.{plain_limits}
use Rattle.tinymist_plain.proofs.lines.good_commands.Given as goal

abbrev pub invariant-loop-line : goal.invariant-loop-line
invariant-loop-line l = map plain_command l.commands.items ++ good_commands (plain_limits l.limits) (map (λ line. line.items) (drop l.line-index l.lines)) ≡ good_commands (plain_limits l.limits) (map (λ line. line.items) l.lines)
