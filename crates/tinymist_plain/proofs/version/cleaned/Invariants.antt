use Rattle.std.proofs.Common.{◌≡◌, map, take}
use Rattle.ty_path.specs.Shared.{path_text}
use Rattle.tinymist_vfs.specs.Items.{clean_text}
use Rattle.tinymist_plain.proofs.version.cleaned.Given as goal

abbrev pub invariant-loop-path : goal.invariant-loop-path
invariant-loop-path l = map path_text l.all.items ≡ map clean_text (take l.path-index l.paths)
