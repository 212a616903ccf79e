use Rattle.std.proofs.Common.{sym, ◌∙◌}
use Rattle.ty_path.specs.Shared.{path_text}
use Rattle.tinymist_vfs.specs.Maps.{path_map}
use Rattle.tinymist_vfs.proofs.Told.{told_already}
use Rattle.tinymist_vfs.proofs.layers.told.tell.Goals as goal

pub returns-then-is_told : goal.returns-then-is_told
returns-then-is_told g c = told_already (path_map c.args.told.now.entries) (path_text c.args.path.now) c.args.snap.now (sym c.if-is_told.true ∙ c.is_told.ensures)
