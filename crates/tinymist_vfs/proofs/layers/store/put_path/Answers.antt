use Rattle.std.proofs.Common.{ap, ◌∙◌}
use Rattle.tinymist_vfs.specs.Maps.{path_map}
use Rattle.tinymist_vfs.proofs.Maps.{paths_put}
use Rattle.tinymist_vfs.proofs.layers.store.put_path.Goals as goal

pub returns-clause-ok : goal.returns-clause-ok
returns-clause-ok g c = ap path_map c.in_ok-put.ensures.ok ∙ paths_put c.args.files.now.entries c.args.path c.args.value
