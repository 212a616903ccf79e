use Rattle.std.proofs.Common.{[], map, take}
use Rattle.ty_path.specs.Shared.{path_text}
use Rattle.ty_model.specs.Touched.{IsMarked}
use Rattle.tinymist_vfs.proofs.layers.changes.Changes.mark_paths.Given as goal

abbrev pub invariant-loop-path : goal.invariant-loop-path
invariant-loop-path g l = IsMarked l.old l.new l.revision l.initial.self [] (map path_text (take l.path-index l.paths)) l.differs l.self
