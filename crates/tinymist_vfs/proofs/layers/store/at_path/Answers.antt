use Rattle.std.proofs.Common.{sym, ◌∙◌}
use Rattle.tinymist_vfs.proofs.Maps.{paths_get}
use Rattle.tinymist_vfs.proofs.layers.store.at_path.Goals as goal

pub returns : goal.returns
returns g c = c.get.ensures ∙ sym (paths_get c.args.files.now.entries c.args.path.now)
