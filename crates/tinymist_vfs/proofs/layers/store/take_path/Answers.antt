use Rattle.std.proofs.Common.{ap, ◌∙◌}
use Rattle.tinymist_vfs.specs.Maps.{path_map}
use Rattle.tinymist_vfs.proofs.Maps.{paths_take}
use Rattle.tinymist_vfs.proofs.layers.store.take_path.Goals as goal

pub returns : goal.returns
returns g c = ap path_map c.in_ok-_before.ensures.ok ∙ paths_take c.args.files.now.entries c.args.path.now c.remove.ensures.ascending
