use Rattle.std.proofs.Common.{[], map}
use Rattle.ty_path.specs.Shared.{path_text}
use Rattle.ty_model.specs.Touched.{IsMarked}
use Rattle.tinymist_vfs.proofs.layers.changes.Changes.mark_overlay.Given as goal

abbrev pub invariant-loop-path : goal.invariant-loop-path
invariant-loop-path g l = IsMarked l.old l.new l.revision l.initial.self [] (map (λ e. path_text e.0.now) l.yielded) l.differs l.self
