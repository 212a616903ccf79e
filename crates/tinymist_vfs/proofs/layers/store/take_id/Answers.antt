use Rattle.std.proofs.Common.{ap, ◌∙◌}
use Rattle.tinymist_vfs.specs.Maps.{id_map}
use Rattle.tinymist_vfs.proofs.Maps.{ids_take}
use Rattle.tinymist_vfs.proofs.layers.store.take_id.Goals as goal

pub returns : goal.returns
returns g c = ap id_map c.in_ok-_before.ensures.ok ∙ ids_take c.args.files.now.entries c.args.id.now c.remove.ensures.ascending
