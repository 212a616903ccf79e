use Rattle.std.proofs.Common.{◌≡◌, drop, map}
use Rattle.tinymist_vfs.specs.Items.{clean_file}
use Rattle.tinymist_plain.specs.Lists.{pairs, put_all}
use Rattle.tinymist_plain.proofs.version.put_files.Given as goal

abbrev pub invariant-loop-path : goal.invariant-loop-path
invariant-loop-path l = put_all (pairs l.told.items) (map clean_file (drop l.path-index l.files)) ≡ put_all (pairs l.fn.told.items) (map clean_file l.files)
