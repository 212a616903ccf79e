-- The revisions at which paths last changed, of which the newest may wait beside the map.
use Rattle.std.specs.Prelude.{ℕ, if◌then◌else◌, List, Option, Some, None}
use Rattle.std.specs.Str.{bytes_eq}
use Rattle.std.specs.FinMap as map
use Rattle.ty_model.specs.Values.{text_cmp}
use Rattle.ty_path.specs.Shared.{path_text}
use Rattle.tinymist_vfs.specs.Maps.{path_map}
use Rattle.tinymist_vfs.specs.declared.layers.path_marks.Mark.{Mark}
use Rattle.tinymist_vfs.specs.declared.layers.path_marks.PathMarks.{PathMarks}

-- a mark as the text of its path and the revision
abbrev pub waiting_in : Mark → List ℕ × ℕ
waiting_in mark = (path_text mark.path, mark.revision)

-- the revision of a mark that may wait, where it is at the path
abbrev pub marked_at : Option Mark → List ℕ → Option ℕ
marked_at None path = None
marked_at (Some mark) path = if bytes_eq (path_text mark.path) path then Some mark.revision else None

-- the marks of a map, and after them one that waits
abbrev pub marks_with : map.FinMap text_cmp ℕ → Option Mark → map.FinMap text_cmp ℕ
marks_with settled None = settled
marks_with settled (Some mark) = map.insert settled (path_text mark.path) mark.revision

-- all marks
abbrev pub marks_in : PathMarks → map.FinMap text_cmp ℕ
marks_in marks = marks_with (path_map marks.settled.entries) marks.waiting
