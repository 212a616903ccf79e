use Rattle.std.proofs.Common.{◌∙◌}
use Rattle.std.proofs.lemmas.Result.{on_ok_weaker}
use Rattle.std.specs.FinMap.{put}
use Rattle.ty_model.specs.Values.{text_cmp}
use Rattle.tinymist_plain.specs.Lists.{pairs}
use Rattle.tinymist_plain.specs.Kept.{layers_of}
use Rattle.tinymist_plain.proofs.Edits.{mapped}
use Rattle.tinymist_plain.proofs.version.Version.map_path.Goals as goal

pub returns-clause-layers : goal.returns-clause-layers
returns-clause-layers c = λ stamp l is.
    on_ok_weaker c.put.result (λ e. mapped (layers_of c.args.self.now) l stamp is c.args.path.now c.args.answer.now (pairs c.put.new.entries.items) (e ∙ (λ j. put text_cmp (c.in_ok-path.ensures.ok j) (c.in_ok-share.ensures j) (pairs c.args.self.now.by_path.items)))) c.put.ensures
