use Rattle.std.proofs.Common.{sym, ◌∙◌}
use Rattle.tinymist_vfs.proofs.Maps.{text_get}
use Rattle.tinymist_vfs.proofs.layers.store.at_text.Goals as goal

pub returns : goal.returns
returns g c = c.get_text.ensures ∙ sym (text_get c.args.files.now.entries c.args.path.now)
