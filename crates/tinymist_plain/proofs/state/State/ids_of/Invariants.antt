use Rattle.std.proofs.Common.{◌≡◌, drop, map}
use Rattle.tinymist_session.specs.Machine.{ids_for}
use Rattle.session_grammar.specs.Plain.{plain_id}
use Rattle.tinymist_plain.proofs.Names.{with_more}
use Rattle.tinymist_plain.proofs.state.State.ids_of.Given as goal

abbrev pub invariant-loop-word : goal.invariant-loop-word
invariant-loop-word l = with_more l.ids.items (ids_for l.self.tagged.items (map plain_id (drop l.word-index l.words))) ≡ ids_for l.self.tagged.items (map plain_id l.words)
