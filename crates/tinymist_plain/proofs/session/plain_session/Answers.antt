use Rattle.std.proofs.Common.{◌∙◌, ap, List, ℕ, Vec, Global, length, map, refl}
use Rattle.session_grammar.specs.declared.command.Command.{Command}
use Rattle.tinymist_session.specs.Machine.{opening}
use Rattle.tinymist_session.specs.Session.{replies_from}
use Rattle.session_grammar.specs.Plain.{plain_command}
use Rattle.tinymist_session.specs.Arguments.{plain_limits}
use Rattle.tinymist_plain.proofs.Cuts.{commands_are, ends_as}
use Rattle.tinymist_plain.proofs.session.plain_session.Goals as goal

abbrev items : Vec ℕ Global → List ℕ
items v = v.items

pub returns-clause-end : goal.returns-clause-end
returns-clause-end g c =
    let within = rw c.deref.ensures.value at c.within-within.ensures in
    c.end_with.ensures ∙ ends_as items plain_command (plain_limits c.args.limits.now) c.args.input.now c.in_ok-lines.lines.items c.within-within.result.now c.in_ok-commands.commands.items c.in_ok-lines.ensures within c.in_ok-commands.ensures
    c.len.result (length c.within-within.result.now) c.len-2.result (c.len.ensures ∙ c.in_ok-lines.lines.ok.0) refl (c.len-2.ensures ∙ c.in_ok-commands.commands.ok.0)

pub returns-clause-replies : goal.returns-clause-replies
returns-clause-replies g c = λ told is fixed.
    let within = rw c.deref.ensures.value at c.within-within.ensures in
    c.in_ok-replies_to.ensures.replies told is fixed
    ∙ ap (λ (cs : List Command). replies_from told opening (map plain_command cs)) c.deref-2.ensures.value
    ∙ ap (replies_from told opening) (commands_are items plain_command (plain_limits c.args.limits.now) c.args.input.now c.in_ok-lines.lines.items c.within-within.result.now c.in_ok-commands.commands.items c.in_ok-lines.ensures within c.in_ok-commands.ensures)
