use Rattle.std.proofs.Common.{◌∙◌, ap}
use Rattle.session_grammar.specs.Reply.{PathList}
use Rattle.tinymist_session.specs.Machine.{path_list}
use Rattle.session_grammar.specs.Plain.{plain_target}
use Rattle.tinymist_plain.proofs.Answered.{paths_say, nothing_listed}
use Rattle.tinymist_plain.proofs.state.State.list_paths.Goals as goal

pub returns-in_ok-paths-in-Some : goal.returns-in_ok-paths-in-Some
returns-in_ok-paths-in-Some c = λ s is. ap PathList c.in_ok-paths-in-Some.ensures ∙ paths_say c.args.self.now s is (plain_target c.args.target) c.in-Some.space.now c.in-Some.ensures

pub returns-in-None : goal.returns-in-None
returns-in-None c = λ s is. nothing_listed c.args.self.now s is (plain_target c.args.target) path_list c.in-None.ensures
