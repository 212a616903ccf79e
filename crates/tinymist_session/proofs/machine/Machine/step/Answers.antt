use Rattle.std.proofs.Common.{refl, map}
use Rattle.std.proofs.lemmas.Result.{IfOk-weaker}
use Rattle.ty_model.specs.Places.{place_of}
use Rattle.tinymist_session.specs.Machine.{id_for, ids_for, space_at, replied, clean_reply}
use Rattle.session_grammar.specs.Reply.{text_reply, line_reply, place_reply}
use Rattle.session_grammar.specs.Plain.{plain_target, plain_id}
use Rattle.tinymist_session.proofs.Reading.{read_shows, source_shows, question_shows}
use Rattle.tinymist_session.proofs.machine.Machine.step.Goals as goal

pub returns-in-Read-clause-reply : goal.returns-in-Read-clause-reply
returns-in-Read-clause-reply g c = λ told s is shown. rw c.in-Read.is (c.read_view.ensures.reply told s is shown)

pub returns-in-Source-clause-reply : goal.returns-in-Source-clause-reply
returns-in-Source-clause-reply g c = λ told s is shown. rw c.in-Source.is (c.source_in.ensures.reply told s is shown)

pub returns-in-Line-clause-reply : goal.returns-in-Line-clause-reply
returns-in-Line-clause-reply g c = λ told s is shown. rw c.in-Line.is (c.line_in.ensures.reply told s is shown)

pub returns-in-Read-clause-state : goal.returns-in-Read-clause-state
returns-in-Read-clause-state g c = λ told s is shown. rw c.in-Read.is (IfOk-weaker c.read_view.result _ _ (λ r same. read_shows c.args.self.now.live c.args.self.now.views.items c.args.self.now.tags s shown told c.in-Read.view (plain_id c.in-Read.word)) (c.read_view.ensures.reply told s is shown))

pub returns-in-Source-clause-state : goal.returns-in-Source-clause-state
returns-in-Source-clause-state g c = λ told s is shown. rw c.in-Source.is (IfOk-weaker c.source_in.result _ _ (λ r same. source_shows c.args.self.now.live c.args.self.now.views.items c.args.self.now.tags s shown told c.in-Source.view (plain_id c.in-Source.word) text_reply) (c.source_in.ensures.reply told s is shown))

pub returns-in-Line-clause-state : goal.returns-in-Line-clause-state
returns-in-Line-clause-state g c = λ told s is shown. rw c.in-Line.is (IfOk-weaker c.line_in.result _ _ (λ r same. source_shows c.args.self.now.live c.args.self.now.views.items c.args.self.now.tags s shown told c.in-Line.view (plain_id c.in-Line.word) (line_reply c.in-Line.offset)) (c.line_in.ensures.reply told s is shown))

pub returns-in-Path-clause-state : goal.returns-in-Path-clause-state
returns-in-Path-clause-state g c = λ told s is shown. rw c.in-Path.is (IfOk-weaker c.path_in.result _ _ (λ r same. question_shows c.args.self.now.live c.args.self.now.views.items c.args.self.now.tags s shown (space_at s (plain_target c.in-Path.target)) (id_for s.tagged (plain_id c.in-Path.word)) (λ space id. replied s (place_reply id (place_of space.now.resolver id))) (λ space id. refl)) (c.path_in.ensures s shown))

pub returns-in-Clean-clause-state : goal.returns-in-Clean-clause-state
returns-in-Clean-clause-state g c = λ told s is shown. rw c.in-Clean.is (IfOk-weaker c.clean_in.result _ _ (λ r same. question_shows c.args.self.now.live c.args.self.now.views.items c.args.self.now.tags s shown (space_at s (plain_target c.in-Clean.target)) (ids_for s.tagged (map plain_id c.in-Clean.words.items)) (λ space ids. replied s (clean_reply space c.in-Clean.revision ids)) (λ space ids. refl)) (c.clean_in.ensures s shown))
