use Rattle.std.proofs.Common.{◌≡◌, map}
use Rattle.tinymist_vfs.specs.Items.{file_of, clean_file}
use Rattle.tinymist_vfs.proofs.batch.change_set.cleaned_files.Given as goal

abbrev pub invariant-loop-path : goal.invariant-loop-path
invariant-loop-path l = map file_of l.files.items ≡ map clean_file l.yielded
