use Rattle.std.proofs.Common.{◌≡◌, ◌+◌, ◌≤◌, Some, drop, map}
use Rattle.ty_model.specs.Disk.{Told, IsFixed}
use Rattle.session_grammar.specs.Plain.{plain_command}
use Rattle.tinymist_plain.specs.Kept.{top_revision}
use Rattle.tinymist_plain.proofs.Runs.{Pending}
use Rattle.tinymist_plain.proofs.session.replies_to.Given as goal

abbrev pub invariant-loop-command : goal.invariant-loop-command
invariant-loop-command g l = record {
  left : (told : Told) → g.M.PathAccessModel.told l.fn.disk ≡ Some told → IsFixed told → g.M.PathAccessModel.told l.disk ≡ Some told;
  pending : (told : Told) → g.M.PathAccessModel.told l.fn.disk ≡ Some told → IsFixed told → Pending told (map plain_command l.commands) (map plain_command (drop l.command-index l.commands)) l.replies.items l.state;
  revision : top_revision l.state ≤ 2 + l.command-index;
  space : l.state.next_space ≤ 2 + l.command-index;
  tag : l.state.next_tag ≤ 3 + l.command-index;
}
