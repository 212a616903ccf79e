use Rattle.std.proofs.Common.{◌≡◌, ◌+◌, ◌≤◌, List, ℕ, Some}
use Rattle.ty_model.specs.Disk.{Told, IsFixed}
use Rattle.session_lines.specs.LineReader.{ahead}
use Rattle.tinymist_session.specs.Shown.{top_revision, next_number}
use Rattle.tinymist_session.proofs.UnderWay.{Ahead, Pending}
use Rattle.tinymist_session.specs.Arguments.{plain_limits}
use Rattle.tinymist_session.proofs.session.Session.run.Given as goal

abbrev pub invariant-loop-n : goal.invariant-loop-n
invariant-loop-n g l = record {
  ahead_is : (input : List ℕ) → (g.S.LineSource.seen l.fn.source).left ≡ Some input → Ahead (plain_limits l.fn.limits) input l.n (ahead l.self.reader (g.S.LineSource.seen l.source).left);
  pending : (input : List ℕ) (told : Told) → (g.S.LineSource.seen l.fn.source).left ≡ Some input → g.M.PathAccessModel.told l.fn.disk ≡ Some told → IsFixed told
      → Pending (plain_limits l.fn.limits) told input l.n (ahead l.self.reader (g.S.LineSource.seen l.source).left) (g.M.PathAccessModel.told l.disk) (g.W.ByteSink.seen l.fn.sink).taken (g.W.ByteSink.seen l.sink).taken l.self.machine.live l.self.machine.views.items l.self.machine.tags;
  kept : (told : Told) → g.M.PathAccessModel.told l.fn.disk ≡ Some told → IsFixed told → g.M.PathAccessModel.told l.disk ≡ Some told;
  revision : top_revision l.self.machine.live l.self.machine.views.items ≤ 2 + l.n;
  number : next_number l.self.machine.tags ≤ 3 + l.n;
  reads : (g.S.LineSource.seen l.fn.source).faults ≤ (g.S.LineSource.seen l.source).faults;
  faults : (g.W.ByteSink.seen l.fn.sink).faults ≤ (g.W.ByteSink.seen l.sink).faults;
  dry : (g.W.ByteSink.seen l.fn.sink).dry ≤ (g.W.ByteSink.seen l.sink).dry;
}
