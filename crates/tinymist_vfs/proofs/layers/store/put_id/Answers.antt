use Rattle.std.proofs.Common.{ap, ◌∙◌}
use Rattle.tinymist_vfs.specs.Maps.{id_map}
use Rattle.tinymist_vfs.proofs.Maps.{ids_put}
use Rattle.tinymist_vfs.proofs.layers.store.put_id.Goals as goal

pub returns : goal.returns
returns g c = ap id_map c.in_ok-put.ensures.ok ∙ ids_put c.args.files.now.entries c.args.id c.args.value
