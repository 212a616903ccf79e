use Rattle.std.proofs.Common.{◌≡◌, map}
use Rattle.ty_path.specs.Shared.{path_text}
use Rattle.tinymist_vfs.specs.Items.{clean_text}
use Rattle.tinymist_vfs.proofs.batch.change_set.cleaned_paths.Given as goal

abbrev pub invariant-loop-path : goal.invariant-loop-path
invariant-loop-path l = map path_text l.paths.items ≡ map clean_text l.yielded
