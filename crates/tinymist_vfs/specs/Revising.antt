-- A batch over what holds the layers: what it has gathered, and what a call on it leaves alone.
use Rattle.std.specs.Prelude.{◌≡◌, List}
use Rattle.ty_model.specs.Batch as change
use Rattle.tinymist_vfs.specs.Items.{gathered}
use Rattle.tinymist_vfs.specs.declared.batch.revise.RevisingVfs.{RevisingVfs}

module _ {R H : Type 0} where
  -- the items that a batch has gathered
  abbrev pub items_in : RevisingVfs R H (List change.Item) → List change.Item
  items_in b = b.batch

  -- all that a batch has gathered: its items, and after them the change of view where there was one
  abbrev pub all_in : RevisingVfs R H (List change.Item) → List change.Item
  all_in b = gathered b.batch b.changes_view

  -- the batch is over the same holder, which is as it was
  abbrev pub IsOver : RevisingVfs R H (List change.Item) → RevisingVfs R H (List change.Item) → Type 0
  IsOver old new = (new.holder.ghost_name ≡ old.holder.ghost_name) × (new.holder.now ≡ old.holder.now)

  -- the batch is over the same holder, and only its items may have become others
  abbrev pub AddsItems : RevisingVfs R H (List change.Item) → RevisingVfs R H (List change.Item) → Type 0
  AddsItems old new = IsOver old new × (new.changes_view ≡ old.changes_view)
