use Rattle.std.proofs.Common.{◌∙◌, ap}
use Rattle.session_grammar.specs.Reply.{IdList}
use Rattle.tinymist_session.specs.Machine.{id_list}
use Rattle.session_grammar.specs.Plain.{plain_target}
use Rattle.tinymist_plain.proofs.Answered.{ids_say, nothing_listed}
use Rattle.tinymist_plain.proofs.state.State.list_ids.Goals as goal

pub returns-in_ok-ids-in-Some : goal.returns-in_ok-ids-in-Some
returns-in_ok-ids-in-Some c = λ s is. ap IdList c.in_ok-ids-in-Some.ensures ∙ ids_say c.args.self.now s is (plain_target c.args.target) c.in-Some.space.now c.in-Some.ensures

pub returns-in-None : goal.returns-in-None
returns-in-None c = λ s is. nothing_listed c.args.self.now s is (plain_target c.args.target) id_list c.in-None.ensures
