use Rattle.std.proofs.Common.{◌≡◌, drop}
use Rattle.std.specs.FinMap as finmap
use Rattle.ty_model.specs.Values.{text_cmp}
use Rattle.tinymist_plain.specs.Lists.{pairs}
use Rattle.tinymist_plain.proofs.entries.find.Given as goal

abbrev pub invariant-loop-entry : goal.invariant-loop-entry
invariant-loop-entry g l = finmap.find text_cmp l.path (pairs (drop l.entry-index l.entries)) ≡ finmap.find text_cmp l.path (pairs l.entries)
