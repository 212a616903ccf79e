use Rattle.std.proofs.Common.{◌≡◌, ◌++◌, map, drop}
use Rattle.std.specs.Option.{option_map}
use Rattle.tinymist_session.specs.Machine.{ids_for}
use Rattle.session_grammar.specs.Plain.{plain_id}
use Rattle.tinymist_session.proofs.machine.Machine.ids_of.Given as goal

abbrev pub invariant-loop-word : goal.invariant-loop-word
invariant-loop-word l = ids_for l.self.tags.ids.items (map plain_id l.words) ≡ option_map (λ rest. l.ids.items ++ rest) (ids_for l.self.tags.ids.items (map plain_id (drop l.word-index l.words)))
