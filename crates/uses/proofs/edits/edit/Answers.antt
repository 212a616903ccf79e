use Rattle.ty_model.specs.Paths.{clean}
use Rattle.ty_model.specs.Values.{Content}
use Rattle.uses.proofs.Edited.{has_shadow}
use Rattle.uses.proofs.edits.edit.Goals as goal

pub returns-clause-has : goal.returns-clause-has
returns-clause-has g c = has_shadow c.args.live.now _ (clean c.args.path.now) (Content c.args.bytes) c.map_file.result c.map_file.ensures.edited
