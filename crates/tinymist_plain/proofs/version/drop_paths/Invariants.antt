use Rattle.std.proofs.Common.{◌≡◌, drop, map}
use Rattle.ty_path.specs.Shared.{path_text}
use Rattle.tinymist_plain.specs.Lists.{pairs, put_all}
use Rattle.tinymist_plain.specs.Kept.{stamped}
use Rattle.tinymist_plain.proofs.version.drop_paths.Given as goal

abbrev pub invariant-loop-path : goal.invariant-loop-path
invariant-loop-path l = put_all (pairs l.drops.items) (stamped l.stamp (map path_text (drop l.path-index l.paths))) ≡ put_all (pairs l.fn.drops.items) (stamped l.stamp (map path_text l.paths))
