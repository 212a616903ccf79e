use Rattle.std.proofs.Common.{◌≡◌, map}
use Rattle.ty_path.specs.Shared.{path_text}
use Rattle.tinymist_vfs.proofs.vfs.listing.paths_of.Given as goal

abbrev pub invariant-loop-path : goal.invariant-loop-path
invariant-loop-path l = map path_text l.paths.items ≡ map (λ e. path_text e.0.now) l.yielded
