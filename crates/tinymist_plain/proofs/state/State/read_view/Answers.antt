use Rattle.std.proofs.Common.{sym, ◌∙◌}
use Rattle.std.proofs.lemmas.Result.{IfOk-weaker}
use Rattle.session_grammar.specs.Plain.{plain_id}
use Rattle.tinymist_plain.proofs.Answered.{read_says}
use Rattle.tinymist_plain.proofs.state.State.read_view.Goals as goal

pub returns-clause-reply : goal.returns-clause-reply
returns-clause-reply g c = λ told s is kept.
    IfOk-weaker c.reply_to.result _ _ (λ r same. same
    ∙ read_says c.args.self.now s kept told c.args.view (plain_id c.args.word.now) c.in-Some.space.now c.in-Some-2.id c.in-Some.ensures (sym c.in-Some-2.is ∙ c.in_ok-id.ensures) c.in_ok-look.field-0 (c.in_ok-look.ensures.answer told is)) c.reply_to.ensures
