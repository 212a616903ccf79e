-- A change set and the events that carry one, as plain data.
use Rattle.std.specs.Prelude.{ℕ, Bool, false, List, [], map, Option, Some, None, Vec}
use Rattle.std.specs.declared.alloc.Global.{Global}
use Rattle.ty_model.specs.Values.{Answer}
use Rattle.ty_path.specs.Shared.{path_text}
use Rattle.tinymist_vfs.specs.Maps.{Path}
use Rattle.tinymist_vfs.specs.Items.{file_of}
use Rattle.tinymist_vfs.specs.declared.batch.item.FileChangeSet.{FileChangeSet}
use Rattle.tinymist_vfs.specs.declared.watch.event.UpstreamUpdateEvent.{UpstreamUpdateEvent}
use Rattle.tinymist_vfs.specs.declared.watch.event.FilesystemEvent.{FilesystemEvent}
use Rattle.tinymist_vfs.specs.declared.watch.event.FilesystemEvent.TheVariants.{Update, UpstreamUpdate}

-- the paths that are no longer told
abbrev pub removed_paths : FileChangeSet → List (List ℕ)
removed_paths set = map path_text set.removes.items

-- the files that are told from then on
abbrev pub inserted_files : FileChangeSet → List (List ℕ × Answer)
inserted_files set = map file_of set.inserts.items

-- the files of a list that may be missing
abbrev pub files_in : Option (Vec (Path × Answer) Global) → List (Path × Answer)
files_in None = []
files_in (Some files) = files.items

-- ---- events

-- the change set of an event
abbrev pub set_of : FilesystemEvent → FileChangeSet
set_of (Update set sync) = set
set_of (UpstreamUpdate set upstream) = set

-- the upstream event that an event answers, if there is one
abbrev pub upstream_of : FilesystemEvent → Option UpstreamUpdateEvent
upstream_of (Update set sync) = None
upstream_of (UpstreamUpdate set upstream) = upstream

-- whether the change set of an event is all files; that of an upstream update never is
abbrev pub sync_of : FilesystemEvent → Bool
sync_of (Update set sync) = sync
sync_of (UpstreamUpdate set upstream) = false
