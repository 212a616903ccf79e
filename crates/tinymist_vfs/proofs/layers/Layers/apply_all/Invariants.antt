use Rattle.std.proofs.Common.{◌≡◌, map, take}
use Rattle.ty_model.specs.Batch.{applied_all}
use Rattle.tinymist_vfs.specs.Items.{item_of}
use Rattle.tinymist_vfs.proofs.layers.Layers.apply_all.Given as goal

abbrev pub invariant-loop-item : goal.invariant-loop-item
invariant-loop-item g l = l.self ≡ applied_all l.stamp l.initial.self (map item_of (take l.item-index l.batch))
