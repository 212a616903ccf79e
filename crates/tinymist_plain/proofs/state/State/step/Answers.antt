use Rattle.std.proofs.lemmas.Result.{IfOk-weaker}
use Rattle.session_grammar.specs.Reply.{text_reply, line_reply}
use Rattle.session_grammar.specs.Plain.{plain_target, plain_id}
use Rattle.tinymist_plain.proofs.Asked.{read_keeps, source_keeps, path_keeps}
use Rattle.tinymist_plain.proofs.state.State.step.Goals as goal

pub returns-in-MapId-clause-reply : goal.returns-in-MapId-clause-reply
returns-in-MapId-clause-reply g c = λ told s is kept. rw c.in-MapId.is (c.map_id.ensures.reply s kept)

pub returns-in-MapId-clause-state : goal.returns-in-MapId-clause-state
returns-in-MapId-clause-state g c = λ told s is kept. rw c.in-MapId.is (c.map_id.ensures.state s kept)

pub returns-in-Read-clause-reply : goal.returns-in-Read-clause-reply
returns-in-Read-clause-reply g c = λ told s is kept. rw c.in-Read.is (c.read_view.ensures.reply told s is kept)

pub returns-in-Read-clause-state : goal.returns-in-Read-clause-state
returns-in-Read-clause-state g c = λ told s is kept.
    rw c.in-Read.is (IfOk-weaker c.read_view.result _ _ (λ r same. read_keeps c.args.self.now s kept told c.in-Read.view (plain_id c.in-Read.word)) (c.read_view.ensures.reply told s is kept))

pub returns-in-Source-clause-reply : goal.returns-in-Source-clause-reply
returns-in-Source-clause-reply g c = λ told s is kept. rw c.in-Source.is (c.source_in.ensures.reply told s is kept)

pub returns-in-Source-clause-state : goal.returns-in-Source-clause-state
returns-in-Source-clause-state g c = λ told s is kept.
    rw c.in-Source.is (IfOk-weaker c.source_in.result _ _ (λ r same. source_keeps c.args.self.now s kept told c.in-Source.view (plain_id c.in-Source.word) text_reply) (c.source_in.ensures.reply told s is kept))

pub returns-in-Line-clause-reply : goal.returns-in-Line-clause-reply
returns-in-Line-clause-reply g c = λ told s is kept. rw c.in-Line.is (c.line_in.ensures.reply told s is kept)

pub returns-in-Line-clause-state : goal.returns-in-Line-clause-state
returns-in-Line-clause-state g c = λ told s is kept.
    rw c.in-Line.is (IfOk-weaker c.line_in.result _ _ (λ r same. source_keeps c.args.self.now s kept told c.in-Line.view (plain_id c.in-Line.word) (line_reply c.in-Line.offset)) (c.line_in.ensures.reply told s is kept))

pub returns-in-Path-clause-state : goal.returns-in-Path-clause-state
returns-in-Path-clause-state g c = λ told s is kept.
    rw c.in-Path.is (IfOk-weaker c.path_in.result _ _ (λ r same. path_keeps c.args.self.now s kept (plain_target c.in-Path.target) (plain_id c.in-Path.word)) (c.path_in.ensures s kept))
