-- No paths are distinct.
use Rattle.std.proofs.Common.{◌≡◌, [], List, map, subst, sym, String, Global}
use Rattle.std.specs.List.{IsDistinct}
use Rattle.std.specs.Str.{bytes_eq}
use Rattle.ty_model.specs.Values.{Answer}
use Rattle.ty_cells.specs.MapAccess.{path_of}
use Rattle.vectors_layers.proofs.files.disk_without_files.Goals as goal

none : (files : List (String Global × Answer)) → files ≡ [] → IsDistinct bytes_eq (map path_of files)
unfolding IsDistinct
none files is = subst (λ (fs : List (String Global × Answer)). IsDistinct bytes_eq (map path_of fs)) (sym is) tt

pub new-requires-2 : goal.new-requires-2
new-requires-2 c = none c.new.result.items c.new.ensures.items
