use Rattle.tinymist_plain.specs.Lists.{id_pairs}
use Rattle.tinymist_plain.specs.Kept.{layers_of}
use Rattle.tinymist_plain.proofs.Edits.{unmapped_id}
use Rattle.tinymist_plain.proofs.version.Version.unmap_id.Goals as goal

pub returns-clause-layers : goal.returns-clause-layers
returns-clause-layers c = λ stamp l is. unmapped_id (layers_of c.args.self.now) l stamp is c.args.id.now (id_pairs c.remove_id.new.entries.items) c.remove_id.ensures
