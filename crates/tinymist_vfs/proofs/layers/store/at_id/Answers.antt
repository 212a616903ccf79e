use Rattle.std.proofs.Common.{sym, ◌∙◌}
use Rattle.tinymist_vfs.proofs.Maps.{ids_get}
use Rattle.tinymist_vfs.proofs.layers.store.at_id.Goals as goal

pub returns : goal.returns
returns g c = c.get.ensures ∙ sym (ids_get c.args.files.now.entries c.args.id.now)
