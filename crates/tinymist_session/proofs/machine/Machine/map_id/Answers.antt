use Rattle.std.proofs.Common.{◌≡◌, ap, sym, subst, ◌∙◌, ℕ, List, Some, None}
use Rattle.std.proofs.lemmas.Result.{IfOk-weaker}
use Rattle.ty_model.specs.Batch as batch
use Rattle.ty_model.specs.Values.{Id, Answer}
use Rattle.session_grammar.specs.Grammar.{answer_at}
use Rattle.tinymist_session.specs.Machine.{Stepped, space_at, edit_step, id_edit_step}
use Rattle.session_grammar.specs.Plain.{plain_target, plain_id, plain_content}
use Rattle.tinymist_session.specs.Shown.{IsShown}
use Rattle.tinymist_session.proofs.Showing.{target_found, target_missing, id_is, bad_view, bad_id, no_space, no_name}
use Rattle.tinymist_session.proofs.Edits.{named_edit}
use Rattle.tinymist_session.proofs.machine.Machine.map_id.Goals as goal

pub returns-in_default-clause-reply : goal.returns-in_default-clause-reply
returns-in_default-clause-reply c = λ s is. bad_view s _ _ (space_at s (plain_target c.args.target)) (target_missing c.args.self.now.live c.args.self.now.views.items c.args.self.now.tags s is (plain_target c.args.target) (sym c.in_default.ensures))

pub returns-in_default-clause-state : goal.returns-in_default-clause-state
returns-in_default-clause-state c = λ s is. subst (λ (x : Stepped). IsShown c.args.self.now.live c.args.self.now.views.items c.args.self.now.tags x.state) (sym (no_space s _ _ (space_at s (plain_target c.args.target)) (target_missing c.args.self.now.live c.args.self.now.views.items c.args.self.now.tags s is (plain_target c.args.target) (sym c.in_default.ensures)))) is

pub returns-in_default-2-clause-reply : goal.returns-in_default-2-clause-reply
returns-in_default-2-clause-reply c = λ s is.
    bad_id s _ _ (space_at s (plain_target c.args.target)) _ (target_found c.args.self.now.live c.args.self.now.views.items c.args.self.now.tags s is (plain_target c.args.target) _ (sym c.in-Some.ensures))
    (id_is c.args.self.now.live c.args.self.now.views.items c.args.self.now.tags s is (plain_id c.args.word.now) c.in_ok-id.field-0 None c.in_ok-id.ensures c.in_default-2.is)

pub returns-in_default-2-clause-state : goal.returns-in_default-2-clause-state
returns-in_default-2-clause-state c = λ s is.
    subst (λ (x : Stepped). IsShown c.args.self.now.live c.args.self.now.views.items c.args.self.now.tags x.state)
    (sym (no_name s _ _ (space_at s (plain_target c.args.target)) _ (target_found c.args.self.now.live c.args.self.now.views.items c.args.self.now.tags s is (plain_target c.args.target) _ (sym c.in-Some.ensures)) (id_is c.args.self.now.live c.args.self.now.views.items c.args.self.now.tags s is (plain_id c.args.word.now) c.in_ok-id.field-0 None c.in_ok-id.ensures c.in_default-2.is))) is

pub returns-clause-reply : goal.returns-clause-reply
returns-clause-reply c = λ s is.
    IfOk-weaker c.edit_target.result _ _ (λ r same. same ∙ ap (λ (answer : Answer). (edit_step s (plain_target c.args.target) (batch.MapId c.in-Some-2.id answer)).reply) c.in_ok-answer.ensures ∙ ap (λ (v : List ℕ). (edit_step s (plain_target c.args.target) (batch.MapId c.in-Some-2.id (answer_at v (plain_content c.args.content)))).reply) (c.get_with_slash.ensures ∙ c.vpath.ensures) ∙ ap (λ (x : Stepped). x.reply) (sym (named_edit s (plain_target c.args.target) (plain_id c.args.word.now) (λ (id : Id). batch.MapId id (answer_at id.vpath (plain_content c.args.content))) c.in-Some-2.id (id_is c.args.self.now.live c.args.self.now.views.items c.args.self.now.tags s is (plain_id c.args.word.now) c.in_ok-id.field-0 (Some c.in-Some-2.id) c.in_ok-id.ensures c.in-Some-2.is)))) (c.edit_target.ensures.reply s is)

pub returns-clause-state : goal.returns-clause-state
returns-clause-state c = λ s is.
    let word = id_is c.args.self.now.live c.args.self.now.views.items c.args.self.now.tags s is (plain_id c.args.word.now) c.in_ok-id.field-0 (Some c.in-Some-2.id) c.in_ok-id.ensures c.in-Some-2.is in
    let same : edit_step s (plain_target c.args.target) (batch.MapId c.in-Some-2.id c.in_ok-answer.answer) ≡ id_edit_step s (plain_target c.args.target) (plain_id c.args.word.now) (λ (id : Id). batch.MapId id (answer_at id.vpath (plain_content c.args.content))) =
    ap (λ (answer : Answer). edit_step s (plain_target c.args.target) (batch.MapId c.in-Some-2.id answer)) c.in_ok-answer.ensures ∙ ap (λ (v : List ℕ). edit_step s (plain_target c.args.target) (batch.MapId c.in-Some-2.id (answer_at v (plain_content c.args.content)))) (c.get_with_slash.ensures ∙ c.vpath.ensures) ∙ sym (named_edit s (plain_target c.args.target) (plain_id c.args.word.now) (λ (id : Id). batch.MapId id (answer_at id.vpath (plain_content c.args.content))) c.in-Some-2.id word) in
    IfOk-weaker c.edit_target.result _ _ (λ r h. subst (λ (x : Stepped). IsShown c.edit_target.new.self.live c.edit_target.new.self.views.items c.edit_target.new.self.tags x.state) same h) (c.edit_target.ensures.state s is)
