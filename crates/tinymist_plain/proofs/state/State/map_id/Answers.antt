use Rattle.std.proofs.Common.{◌∙◌, ap, sym, subst, List, ℕ}
use Rattle.std.proofs.lemmas.Result.{IfOk-weaker, on_ok_weaker}
use Rattle.ty_model.specs.Values.{Answer}
use Rattle.ty_model.specs.Batch as batch
use Rattle.session_grammar.specs.Grammar.{answer_at}
use Rattle.tinymist_session.specs.Machine.{Stepped, edit_step}
use Rattle.session_grammar.specs.Plain.{plain_target, plain_content, plain_id}
use Rattle.tinymist_plain.specs.Kept.{IsKept}
use Rattle.tinymist_plain.proofs.Found.{none_by}
use Rattle.tinymist_plain.proofs.Edited.{id_edit_nowhere, id_edit_unnamed, id_edit_is}
use Rattle.tinymist_plain.proofs.state.State.map_id.Goals as goal

pub returns-then-not-has_space-clause-reply : goal.returns-then-not-has_space-clause-reply
returns-then-not-has_space-clause-reply c = λ s kept.
    ap (λ (st : Stepped). st.reply) (sym (id_edit_nowhere c.args.self.now s kept (plain_target c.args.target) (plain_id c.args.word.now) (λ id. batch.MapId id (answer_at id.vpath (plain_content c.args.content.now))) (sym c.has_space.ensures ∙ c.if-not-has_space.true)))

pub returns-then-not-has_space-clause-state : goal.returns-then-not-has_space-clause-state
returns-then-not-has_space-clause-state c = λ s kept.
    subst (λ (st : Stepped). IsKept c.args.self.now st.state) (sym (id_edit_nowhere c.args.self.now s kept (plain_target c.args.target) (plain_id c.args.word.now) (λ id. batch.MapId id (answer_at id.vpath (plain_content c.args.content.now))) (sym c.has_space.ensures ∙ c.if-not-has_space.true))) kept

pub returns-in_default-clause-reply : goal.returns-in_default-clause-reply
returns-in_default-clause-reply c = λ s kept.
    let none = none_by c.in_ok-id.field-0 (λ id. c.in_default.not-Some id) ∙ c.in_ok-id.ensures in
    ap (λ (st : Stepped). st.reply) (sym (id_edit_unnamed c.args.self.now s kept (plain_target c.args.target) (plain_id c.args.word.now) (λ id. batch.MapId id (answer_at id.vpath (plain_content c.args.content.now))) (sym c.has_space.ensures ∙ c.if-not-has_space.false) none))

pub returns-in_default-clause-state : goal.returns-in_default-clause-state
returns-in_default-clause-state c = λ s kept.
    let none = none_by c.in_ok-id.field-0 (λ id. c.in_default.not-Some id) ∙ c.in_ok-id.ensures in
    subst (λ (st : Stepped). IsKept c.args.self.now st.state) (sym (id_edit_unnamed c.args.self.now s kept (plain_target c.args.target) (plain_id c.args.word.now) (λ id. batch.MapId id (answer_at id.vpath (plain_content c.args.content.now))) (sym c.has_space.ensures ∙ c.if-not-has_space.false) none)) kept

pub returns-clause-reply : goal.returns-clause-reply
returns-clause-reply c = λ s kept.
    let said = c.in_ok-answer.ensures ∙ ap (λ (path : List ℕ). answer_at path (plain_content c.args.content.now)) (c.get_with_slash.ensures ∙ c.vpath.ensures) in
    let is = ap (λ (a : Answer). edit_step s (plain_target c.args.target) (batch.MapId c.in-Some.id a)) said
    ∙ id_edit_is c.args.self.now s kept (plain_target c.args.target) (plain_id c.args.word.now) (λ id. batch.MapId id (answer_at id.vpath (plain_content c.args.content.now))) (sym c.has_space.ensures ∙ c.if-not-has_space.false) c.in-Some.id (sym c.in-Some.is ∙ c.in_ok-id.ensures) in
    IfOk-weaker c.edit_target.result _ _ (λ r same. same ∙ ap (λ (st : Stepped). st.reply) is) (c.edit_target.ensures.reply s kept)

pub returns-clause-state : goal.returns-clause-state
returns-clause-state c = λ s kept.
    let said = c.in_ok-answer.ensures ∙ ap (λ (path : List ℕ). answer_at path (plain_content c.args.content.now)) (c.get_with_slash.ensures ∙ c.vpath.ensures) in
    let is = ap (λ (a : Answer). edit_step s (plain_target c.args.target) (batch.MapId c.in-Some.id a)) said
    ∙ id_edit_is c.args.self.now s kept (plain_target c.args.target) (plain_id c.args.word.now) (λ id. batch.MapId id (answer_at id.vpath (plain_content c.args.content.now))) (sym c.has_space.ensures ∙ c.if-not-has_space.false) c.in-Some.id (sym c.in-Some.is ∙ c.in_ok-id.ensures) in
    on_ok_weaker c.edit_target.result (λ k. subst (λ (st : Stepped). IsKept c.edit_target.new.self st.state) is k) (c.edit_target.ensures.state s kept)
