-- One path is distinct.
use Rattle.std.proofs.Common.{◌≡◌, [], ◌∷◌, List, map, subst, sym, String, Global}
use Rattle.std.specs.List.{IsDistinct}
use Rattle.std.specs.Str.{bytes_eq}
use Rattle.ty_model.specs.Values.{Answer}
use Rattle.ty_cells.specs.MapAccess.{path_of}
use Rattle.vectors_layers.proofs.files.disk_with.Goals as goal

one : (files : List (String Global × Answer)) (file : String Global × Answer) → files ≡ file ∷ [] → IsDistinct bytes_eq (map path_of files)
unfolding IsDistinct
one files file is = subst (λ (fs : List (String Global × Answer)). IsDistinct bytes_eq (map path_of fs)) (sym is) (tt, tt)

pub new-requires : goal.new-requires
new-requires c = one c.in_ok-files.files.items _ c.in_ok-files.ensures.items
