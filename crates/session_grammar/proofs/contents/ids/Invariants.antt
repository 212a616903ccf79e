use Rattle.std.proofs.Common.{◌≡◌, ◌++◌, map, length}
use Rattle.std.specs.Option.{option_map}
use Rattle.session_grammar.specs.Grammar.{ids_of}
use Rattle.session_grammar.specs.Plain.{fields_of, plain_id}
use Rattle.session_grammar.proofs.contents.ids.Given as goal

abbrev pub invariant-loop-left : goal.invariant-loop-left
invariant-loop-left l = ids_of (fields_of l.fn.fields) ≡ option_map (λ rest. map plain_id l.all.items ++ rest) (ids_of (fields_of l.left))

abbrev pub decreases-loop-left : goal.decreases-loop-left
decreases-loop-left l = length (fields_of l.left)
