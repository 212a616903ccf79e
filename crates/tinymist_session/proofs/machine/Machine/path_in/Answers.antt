use Rattle.std.proofs.Common.{ap, sym, ◌∙◌, ℕ, Some, None}
use Rattle.std.proofs.lemmas.Result.{IfOk-weaker}
use Rattle.ty_model.specs.Version.{Version}
use Rattle.ty_model.specs.Places.{place_of}
use Rattle.tinymist_session.specs.Machine.{space_at}
use Rattle.session_grammar.specs.Reply.{place_reply}
use Rattle.session_grammar.specs.Plain.{plain_target, plain_id}
use Rattle.tinymist_session.proofs.Showing.{target_found, target_missing, id_is, bad_view, bad_id, on_found}
use Rattle.tinymist_session.proofs.machine.Machine.path_in.Goals as goal

pub returns-in_default : goal.returns-in_default
returns-in_default c = λ s is. bad_view s _ _ (space_at s (plain_target c.args.target)) (target_missing c.args.self.now.live c.args.self.now.views.items c.args.self.now.tags s is (plain_target c.args.target) (sym c.in_default.ensures))

pub returns-in-None : goal.returns-in-None
returns-in-None c = λ s is.
    bad_id s _ _ (space_at s (plain_target c.args.target)) c.in-Some.space.now (target_found c.args.self.now.live c.args.self.now.views.items c.args.self.now.tags s is (plain_target c.args.target) c.in-Some.space.now (sym c.in-Some.ensures))
    (id_is c.args.self.now.live c.args.self.now.views.items c.args.self.now.tags s is (plain_id c.args.word.now) c.in_ok-id.field-0 None c.in_ok-id.ensures c.in-None.is)

pub returns-in-Some-2 : goal.returns-in-Some-2
returns-in-Some-2 c = λ s is. IfOk-weaker c.place_of.result _ _ (λ r same. same ∙
    on_found s _ _ (space_at s (plain_target c.args.target)) c.in-Some.space.now c.in-Some-2.id _ (target_found c.args.self.now.live c.args.self.now.views.items c.args.self.now.tags s is (plain_target c.args.target) c.in-Some.space.now (sym c.in-Some.ensures))
    (id_is c.args.self.now.live c.args.self.now.views.items c.args.self.now.tags s is (plain_id c.args.word.now) c.in_ok-id.field-0 (Some c.in-Some-2.id) c.in_ok-id.ensures c.in-Some-2.is)
    (λ space shows. ap (λ (p : ℕ × Version). place_reply c.in-Some-2.id (place_of p.1.resolver c.in-Some-2.id)) shows.same)) c.place_of.ensures
