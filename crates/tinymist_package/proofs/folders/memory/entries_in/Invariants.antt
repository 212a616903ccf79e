use Rattle.std.proofs.Common.{◌≡◌, map}
use Rattle.tinymist_package.specs.Folders.{plain_entry, listed_in}
use Rattle.tinymist_package.proofs.FolderMaps.{seen_pair}
use Rattle.tinymist_package.proofs.folders.memory.entries_in.Given as goal

abbrev pub invariant-loop-path : goal.invariant-loop-path
invariant-loop-path l = map plain_entry l.entries.items ≡ listed_in l.folder (map seen_pair l.yielded)
