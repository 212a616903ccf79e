use Rattle.std.proofs.Common.{◌∙◌}
use Rattle.std.proofs.lemmas.Result.{on_ok_weaker}
use Rattle.std.specs.FinMap.{put}
use Rattle.ty_model.specs.Values.{text_cmp}
use Rattle.tinymist_plain.specs.Lists.{pairs}
use Rattle.tinymist_plain.specs.Kept.{layers_of}
use Rattle.tinymist_plain.proofs.Edits.{unmapped}
use Rattle.tinymist_plain.proofs.version.Version.unmap_path.Goals as goal

pub returns-clause-layers : goal.returns-clause-layers
returns-clause-layers c = λ l is.
    on_ok_weaker c.put.result (λ e. unmapped (layers_of c.args.self.now) l c.args.stamp is c.args.path.now (pairs c.remove.new.entries.items) (pairs c.put.new.entries.items) c.remove.ensures (e ∙ (λ j. put text_cmp (c.in_ok-from_str.ensures.ok j) c.args.stamp (pairs c.args.self.now.drops.items)))) c.put.ensures
