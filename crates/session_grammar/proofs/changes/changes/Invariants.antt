use Rattle.std.proofs.Common.{◌≡◌, length}
use Rattle.std.specs.Option.{option_map}
use Rattle.session_grammar.specs.Plain.{plain_changes}
use Rattle.session_grammar.specs.Grammar.{with_changes, changes_of}
use Rattle.session_grammar.specs.Plain.{fields_of}
use Rattle.session_grammar.proofs.changes.changes.Given as goal

abbrev pub invariant-loop-left : goal.invariant-loop-left
invariant-loop-left l = changes_of (fields_of l.fn.fields) ≡ option_map (with_changes (plain_changes l.all)) (changes_of (fields_of l.left))

abbrev pub decreases-loop-left : goal.decreases-loop-left
decreases-loop-left l = length (fields_of l.left)
