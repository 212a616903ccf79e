use Rattle.std.proofs.Common.{◌∙◌}
use Rattle.std.proofs.lemmas.Result.{on_ok_weaker}
use Rattle.std.specs.FinMap.{put}
use Rattle.ty_model.specs.Values.{id_cmp}
use Rattle.tinymist_plain.specs.Lists.{id_pairs}
use Rattle.tinymist_plain.specs.Kept.{layers_of}
use Rattle.tinymist_plain.proofs.Edits.{mapped_id}
use Rattle.tinymist_plain.proofs.version.Version.map_id.Goals as goal

pub returns-clause-layers : goal.returns-clause-layers
returns-clause-layers c = λ stamp l is.
    on_ok_weaker c.put_id.result (λ e. mapped_id (layers_of c.args.self.now) l stamp is c.args.id.now c.args.answer.now (id_pairs c.put_id.new.entries.items) (e ∙ (λ j. put id_cmp (c.in_ok-id.ensures j) (c.in_ok-share.ensures j) (id_pairs c.args.self.now.by_id.items)))) c.put_id.ensures
