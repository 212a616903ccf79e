-- A disk without files, or with one.
use Rattle.std.proofs.Common.{◌≡◌, ◌∙◌, ◌++◌, [], ◌∷◌, List, map, subst, sym, ap, Vec, String, Global}
use Rattle.std.specs.List.{IsDistinct}
use Rattle.std.specs.Str.{bytes_eq}
use Rattle.ty_model.specs.Values.{Answer}
use Rattle.ty_cells.specs.MapAccess.{path_of}
use Rattle.tinymist_vectors.proofs.disk.disk_of.Goals as goal
use Rattle.tinymist_vectors.proofs.disk.disk_of.Goals.{in-Some+in_ok-to_vec+in_ok-new+in_ok-from_str+in_ok-push, in_default}

abbrev Files : Type 0
Files = List (String Global × Answer)

one_file : (files before : Files) (f : String Global × Answer) → files ≡ before ++ f ∷ [] → before ≡ [] → IsDistinct bytes_eq (map path_of files)
unfolding IsDistinct
one_file files before f is none = subst (λ (fs : Files). IsDistinct bytes_eq (map path_of fs)) (sym (is ∙ ap (λ (b : Files). b ++ f ∷ []) none)) (tt, tt)

no_file : (files : Files) → files ≡ [] → IsDistinct bytes_eq (map path_of files)
unfolding IsDistinct
no_file files none = subst (λ (fs : Files). IsDistinct bytes_eq (map path_of fs)) (sym none) tt

pub new-requires-2 : goal.new-requires-2
new-requires-2 c = elim c.match-path.branch [
  | in-Some+in_ok-to_vec+in_ok-new+in_ok-from_str+in_ok-push w ↦ one_file c.match-path.files.items c.new-files.result.items _ (ap (λ (v : Vec (String Global × Answer) Global). v.items) w.files-is ∙ w.in_ok-push.ensures.items) c.new-files.ensures.items
  | in_default w ↦ no_file c.match-path.files.items (ap (λ (v : Vec (String Global × Answer) Global). v.items) w.files-is ∙ c.new-files.ensures.items)
]
