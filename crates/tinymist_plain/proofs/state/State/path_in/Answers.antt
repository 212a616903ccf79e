use Rattle.std.proofs.Common.{sym, ap, ◌∙◌}
use Rattle.std.proofs.lemmas.Result.{IfOk-weaker}
use Rattle.session_grammar.specs.Reply.{place_reply}
use Rattle.session_grammar.specs.Plain.{plain_target, plain_id}
use Rattle.tinymist_plain.specs.Kept.{space_kept}
use Rattle.tinymist_plain.proofs.Found.{some_space}
use Rattle.tinymist_plain.proofs.Answered.{path_says}
use Rattle.tinymist_plain.proofs.state.State.path_in.Goals as goal

pub returns : goal.returns
returns c = λ s kept.
    let here = some_space (space_kept c.args.self.now (plain_target c.args.target)) (sym c.has_space.ensures ∙ c.if-not-has_space.false) in
    IfOk-weaker c.stands_reply.result _ _ (λ r same. same ∙ ap (place_reply c.in-Some.id) c.in_ok-place.ensures
    ∙ path_says c.args.self.now s kept (plain_target c.args.target) (plain_id c.args.word.now) here.0 c.in-Some.id here.1 (sym c.in-Some.is ∙ c.in_ok-id.ensures)) c.stands_reply.ensures
