use Rattle.std.proofs.Common.{ap, sym, ◌∙◌, ℕ, Some, None}
use Rattle.std.proofs.lemmas.Result.{IfOk-weaker}
use Rattle.ty_model.specs.Version.{Version}
use Rattle.tinymist_session.specs.Machine.{view_at}
use Rattle.session_grammar.specs.Plain.{plain_id}
use Rattle.tinymist_session.proofs.Showing.{view_found, view_missing, id_is, bad_view, bad_id, on_found}
use Rattle.tinymist_session.specs.Machine.{source_at}
use Rattle.session_grammar.specs.Reply.{line_reply}
use Rattle.tinymist_session.proofs.machine.Machine.line_in.Goals as goal

pub returns-in_default-clause-reply : goal.returns-in_default-clause-reply
returns-in_default-clause-reply g c = λ told s is_told is. bad_view s _ _ (view_at s.views c.args.view) (view_missing c.args.self.now.live c.args.self.now.views.items c.args.self.now.tags s is c.args.view (sym c.in_default.ensures))

pub returns-in_default-2-clause-reply : goal.returns-in_default-2-clause-reply
returns-in_default-2-clause-reply g c = λ told s is_told is.
    bad_id s _ _ (view_at s.views c.args.view) c.in-Some.vfs.now (view_found c.args.self.now.live c.args.self.now.views.items c.args.self.now.tags s is c.args.view c.in-Some.vfs.now (sym c.in-Some.ensures))
    (id_is c.args.self.now.live c.args.self.now.views.items c.args.self.now.tags s is (plain_id c.args.word.now) c.in_ok-id.field-0 None c.in_ok-id.ensures c.in_default-2.is)

pub returns-clause-reply : goal.returns-clause-reply
returns-clause-reply g c = λ told s is_told is. IfOk-weaker c.line_of.result _ _ (λ r same. same ∙
    on_found s _ _ (view_at s.views c.args.view) c.in-Some.vfs.now c.in-Some-2.id _ (view_found c.args.self.now.live c.args.self.now.views.items c.args.self.now.tags s is c.args.view c.in-Some.vfs.now (sym c.in-Some.ensures))
    (id_is c.args.self.now.live c.args.self.now.views.items c.args.self.now.tags s is (plain_id c.args.word.now) c.in_ok-id.field-0 (Some c.in-Some-2.id) c.in_ok-id.ensures c.in-Some-2.is)
    (λ space shows. ap (λ (p : ℕ × Version). line_reply c.args.offset (source_at p.1 told c.in-Some-2.id)) shows.same)) (c.line_of.ensures.reply told is_told)
