use Rattle.std.proofs.Common.{[], map, take}
use Rattle.ty_path.specs.Shared.{path_text}
use Rattle.ty_model.specs.Touched.{IsMarked}
use Rattle.tinymist_vfs.specs.Commits.{told_before}
use Rattle.tinymist_vfs.proofs.layers.changes.Changes.mark_told_files.Given as goal

abbrev pub invariant-loop-path : goal.invariant-loop-path
invariant-loop-path g l = IsMarked (told_before l.old l.new) l.new l.revision l.initial.self [] (map (λ f. path_text f.0) (take l.path-index l.files)) l.differs l.self
