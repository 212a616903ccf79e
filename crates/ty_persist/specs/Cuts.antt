-- What a removal of a key did.
use Rattle.std.specs.Prelude.{◌≡◌, ℕ, ◌≤◌, List, Some, None}
use Rattle.std.specs.declared.cmp.Ordering.{Ordering}
use Rattle.std.specs.Option.{option_map}
use Rattle.std.specs.Map.{lookup, remove_entry}
use Rattle.std.specs.BTreeMap.{is_at}
use Rattle.ty_persist.specs.declared.tree.cut.Removal.{Removal}
use Rattle.ty_persist.specs.declared.tree.cut.Removal.TheVariants.{Absent, Gone, Waits}

-- the entries after a removal of k: those without it, or those of before where it isn't there or waits. What is answered is seen as its value
abbrev pub IsCut : {K V S : Type 0} → (K → K → Ordering) → K → (V → S) → List (K × V) → List (K × V) → Removal V → Type 0
IsCut cmp k seen old new Absent = (lookup (is_at (cmp k)) old ≡ None) × (new ≡ old)
IsCut cmp k seen old new (Gone before) = (option_map seen (lookup (is_at (cmp k)) old) ≡ Some (seen before)) × (new ≡ remove_entry (is_at (cmp k)) old)
IsCut cmp k seen old new (Waits before) = (option_map seen (lookup (is_at (cmp k)) old) ≡ Some (seen before)) × (new ≡ old)

-- a removal that waits has taken no more steps than this
abbrev pub CutWaitsWithin : {V : Type 0} → ℕ → ℕ → Removal V → Type 0
CutWaitsWithin limit after Absent = Unit {0}
CutWaitsWithin limit after (Gone before) = Unit {0}
CutWaitsWithin limit after (Waits before) = after ≤ limit
