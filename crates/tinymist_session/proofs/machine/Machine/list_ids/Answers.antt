use Rattle.std.proofs.Common.{ap, sym, ◌∙◌, ℕ}
use Rattle.std.specs.FinMap as finmap
use Rattle.ty_model.specs.Version.{Version}
use Rattle.tinymist_session.specs.Machine.{space_at, listed, id_list}
use Rattle.session_grammar.specs.Reply.{IdList}
use Rattle.session_grammar.specs.Plain.{plain_target}
use Rattle.tinymist_session.proofs.Showing.{target_found, target_missing}
use Rattle.tinymist_session.proofs.Reading.{some_listed}
use Rattle.tinymist_session.proofs.machine.Machine.list_ids.Goals as goal

pub returns-in_ok-shadow_ids-in-Some : goal.returns-in_ok-shadow_ids-in-Some
returns-in_ok-shadow_ids-in-Some c = λ s is.
    some_listed c.args.self.now.live c.args.self.now.views.items c.args.self.now.tags s is id_list _ (plain_target c.args.target) c.in-Some.vfs.now (space_at s (plain_target c.args.target)) (target_found c.args.self.now.live c.args.self.now.views.items c.args.self.now.tags s is (plain_target c.args.target) c.in-Some.vfs.now (sym c.in-Some.ensures))
    (λ space shows. ap IdList c.in_ok-shadow_ids-in-Some.ensures ∙ ap (λ (p : ℕ × Version). IdList (finmap.keys p.1.layers.by_id)) shows.same)

pub returns-in-None : goal.returns-in-None
returns-in-None c = λ s is. ap (listed id_list) (sym (target_missing c.args.self.now.live c.args.self.now.views.items c.args.self.now.tags s is (plain_target c.args.target) (sym c.in-None.ensures)))
