use Rattle.std.proofs.Common.{sym, ap, ◌∙◌}
use Rattle.std.specs.FinMap as finmap
use Rattle.ty_model.specs.Values.{id_cmp, text_cmp}
use Rattle.tinymist_plain.specs.Lists.{pairs, id_pairs}
use Rattle.tinymist_plain.proofs.Lists.{entries-empty}
use Rattle.tinymist_plain.proofs.version.Version.first.Goals as goal

pub returns : goal.returns
returns c = λ j. record {
  revision = 2;
  layers = record {
    by_id = (ap id_pairs c.new-2.ensures.items ∙ sym (entries-empty id_cmp)) j;
    by_path = (ap pairs c.new-3.ensures.items ∙ sym (entries-empty text_cmp)) j;
    told = (ap pairs c.new-4.ensures.items ∙ sym (entries-empty text_cmp)) j;
    drops = (ap pairs c.new-5.ensures.items ∙ sym (entries-empty text_cmp)) j;
  };
  reset = c.new.ensures j;
  resolver = finmap.empty;
}
