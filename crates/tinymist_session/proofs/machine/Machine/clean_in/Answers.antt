use Rattle.std.proofs.Common.{ap, sym, ◌∙◌, List, Some, None}
use Rattle.std.proofs.lemmas.Result.{IfOk-weaker}
use Rattle.std.proofs.Common.{map, Vec, Global}
use Rattle.std.specs.Option.{option_map}
use Rattle.ty_model.specs.Values.{Id}
use Rattle.ty_syntax.specs.declared.id.FileId.{FileId}
use Rattle.tinymist_session.specs.Machine.{Stepped, space_at, replied, clean_reply}
use Rattle.session_grammar.specs.Plain.{plain_target, plain_id}
use Rattle.tinymist_session.proofs.Showing.{target_found, target_missing, ids_are, bad_view, bad_id, on_both}
use Rattle.tinymist_session.proofs.machine.Machine.clean_in.Goals as goal

abbrev Found : Type 0
Found = Vec FileId Global

pub returns-in_default : goal.returns-in_default
returns-in_default c = λ s is. bad_view s _ _ (space_at s (plain_target c.args.target)) (target_missing c.args.self.now.live c.args.self.now.views.items c.args.self.now.tags s is (plain_target c.args.target) (sym c.in_default.ensures))

pub returns-in-None : goal.returns-in-None
returns-in-None c = λ s is.
    bad_id s _ _ (space_at s (plain_target c.args.target)) c.in-Some.vfs.now (target_found c.args.self.now.live c.args.self.now.views.items c.args.self.now.tags s is (plain_target c.args.target) c.in-Some.vfs.now (sym c.in-Some.ensures))
    (ids_are c.args.self.now.live c.args.self.now.views.items c.args.self.now.tags s is (map plain_id c.args.words.now) (option_map (λ (found : Found). found.items) c.in_ok-ids.field-0) None c.in_ok-ids.ensures (ap (option_map (λ (found : Found). found.items)) c.in-None.is))

pub returns-in-Some-2 : goal.returns-in-Some-2
returns-in-Some-2 c = λ s is.
    let it = target_found c.args.self.now.live c.args.self.now.views.items c.args.self.now.tags s is (plain_target c.args.target) c.in-Some.vfs.now (sym c.in-Some.ensures) in
    let named = ids_are c.args.self.now.live c.args.self.now.views.items c.args.self.now.tags s is (map plain_id c.args.words.now) (option_map (λ (found : Found). found.items) c.in_ok-ids.field-0) (Some c.in-Some-2.ids.items) c.in_ok-ids.ensures (ap (option_map (λ (found : Found). found.items)) c.in-Some-2.is) in
    IfOk-weaker c.clean_since.result _ _ (λ r same. same ∙ ap (λ (ids : List Id). clean_reply it.space c.args.revision ids) c.deref.ensures.value
    ∙ ap (λ (x : Stepped). x.reply) (sym (on_both s _ (λ space ids. replied s (clean_reply space c.args.revision ids)) (space_at s (plain_target c.args.target)) it.space c.in-Some-2.ids.items it.there named))) (c.clean_since.ensures it.space it.shows)
