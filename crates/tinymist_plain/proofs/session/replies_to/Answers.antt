use Rattle.std.proofs.Common.{◌∙◌, ap, map, subst, refl, List, arith}
use Rattle.std.proofs.lemmas.List.{drop_all}
use Rattle.tinymist_session.specs.Machine.{opening}
use Rattle.session_grammar.specs.Reply.{reply_line}
use Rattle.session_grammar.specs.Plain.{plain_command}
use Rattle.session_grammar.specs.declared.command.Command.{Command}
use Rattle.tinymist_plain.proofs.Runs.{Pending, next, all_done}
use Rattle.tinymist_plain.proofs.session.replies_to.Goals as goal

pub loop-command-preserved : goal.loop-command-preserved
loop-command-preserved g c = record {
  left = λ told is fixed. c.in_ok-reply.ensures.left told (c.loop-command.invariant.left told is fixed) fixed;
  pending = λ told is fixed.
      let p = c.loop-command.invariant.pending told is fixed in
      let disk = c.loop-command.invariant.left told is fixed in
      rw c.in_ok-extend_from_slice.ensures.items
      (next told (map plain_command c.args.commands.now) c.args.commands.now c.loop-command.command-index c.command-item.result (omega arith) c.command-item.is c.loop-command.replies.items c.deref.result.now c.loop-command.state c.step.new.self p
      (c.deref.ensures.value ∙ c.in_ok-line.ensures ∙ ap reply_line (c.in_ok-reply.ensures.reply told p.state disk p.kept))
      (c.in_ok-reply.ensures.state told p.state disk p.kept));
  revision = omega (arith, c.in_ok-reply.ensures.revision);
  space = omega (arith, c.in_ok-reply.ensures.space);
  tag = omega (arith, c.in_ok-reply.ensures.tag);
}

pub loop-command-init : goal.loop-command-init
loop-command-init g c = record {
  left = λ told is fixed. is;
  pending = λ told is fixed. rw c.new-replies.ensures.items (record { state = opening; kept = c.in_ok-state.ensures.kept; goes_on = refl });
  revision = omega (arith, c.in_ok-state.ensures.revision);
  space = omega (arith, c.in_ok-state.ensures.space);
  tag = omega (arith, c.in_ok-state.ensures.tag);
}

pub returns-clause-replies : goal.returns-clause-replies
returns-clause-replies g c = λ told is fixed.
    let p = c.loop-command.invariant.pending told is fixed in
    let ends = drop_all c.loop-command.command-index c.args.commands.now c.loop-command-test.false in
    all_done told (map plain_command c.args.commands.now) c.loop-command.replies.items c.loop-command.state
    (subst (λ (later : List Command). Pending told (map plain_command c.args.commands.now) (map plain_command later) c.loop-command.replies.items c.loop-command.state) ends p)
