use Rattle.std.proofs.Common.{sym, ◌∙◌}
use Rattle.std.specs.String.{string_bytes}
use Rattle.ty_model.specs.Values.{Content, Refused}
use Rattle.ty_syntax.specs.Error.{refusal_of}
use Rattle.session_grammar.specs.Reply.{text_reply}
use Rattle.session_grammar.specs.Plain.{plain_id}
use Rattle.tinymist_plain.proofs.Answered.{source_says}
use Rattle.tinymist_plain.proofs.state.State.source_in.Goals as goal

pub returns-in-Ok-clause-reply : goal.returns-in-Ok-clause-reply
returns-in-Ok-clause-reply g c = λ told s is kept.
    source_says c.args.self.now s kept told c.args.view (plain_id c.args.word.now) c.in-Some.space.now c.in-Some-2.id c.in-Some.ensures (sym c.in-Some-2.is ∙ c.in_ok-id.ensures) text_reply (Content (string_bytes c.in-Ok.text)) (λ v at. sym (c.in-Ok.ensures.answer told v is at))

pub returns-in-Err-File-clause-reply : goal.returns-in-Err-File-clause-reply
returns-in-Err-File-clause-reply g c = λ told s is kept.
    let says = rw c.in-Err-File.field-0-is at c.in-Err-File.ensures.answer in
    source_says c.args.self.now s kept told c.args.view (plain_id c.args.word.now) c.in-Some.space.now c.in-Some-2.id c.in-Some.ensures (sym c.in-Some-2.is ∙ c.in_ok-id.ensures) text_reply (Refused (refusal_of c.in-Err-File.error)) (λ v at. sym (says told v is at))
