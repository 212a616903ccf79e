use Rattle.std.proofs.Common.{take}
use Rattle.ty_model.specs.Touched.{IsMarked, touched_ids, touched_paths}
use Rattle.tinymist_vfs.specs.Items.{items_of}
use Rattle.tinymist_vfs.proofs.layers.changes.Changes.mark_items.Given as goal

abbrev pub invariant-loop-item : goal.invariant-loop-item
invariant-loop-item g l = IsMarked l.old l.new l.revision l.initial.self (touched_ids l.old (items_of (take l.item-index l.batch))) (touched_paths l.old (items_of (take l.item-index l.batch))) l.differs l.self
