use Rattle.std.proofs.Common.{[], map}
use Rattle.ty_model.specs.Touched.{IsMarked}
use Rattle.tinymist_vfs.proofs.layers.changes.Changes.mark_ids.Given as goal

abbrev pub invariant-loop-id : goal.invariant-loop-id
invariant-loop-id g l = IsMarked l.old l.new l.revision l.initial.self (map (λ e. e.0.now) l.yielded) [] l.differs l.self
