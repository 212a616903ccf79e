use Rattle.std.proofs.Common.{◌≡◌, drop, map}
use Rattle.ty_path.specs.Shared.{path_text}
use Rattle.tinymist_plain.specs.Lists.{pairs, without_all}
use Rattle.tinymist_plain.proofs.version.remove_paths.Given as goal

abbrev pub invariant-loop-path : goal.invariant-loop-path
invariant-loop-path l = without_all (pairs l.told.items) (map path_text (drop l.path-index l.paths)) ≡ without_all (pairs l.fn.told.items) (map path_text l.paths)
