-- What a put of a value at a key did.
use Rattle.std.specs.Prelude.{◌≡◌, ℕ, ◌≤◌, Bool, IsTrue, List, Option, None, IsSome}
use Rattle.std.specs.declared.cmp.Ordering.{Ordering}
use Rattle.std.specs.Option.{option_map}
use Rattle.std.specs.Map.{lookup}
use Rattle.std.specs.BTreeMap.{is_at}
use Rattle.ty_persist.specs.Contents.{put_entry}
use Rattle.ty_persist.specs.Shape.{pair}
use Rattle.ty_persist.specs.declared.tree.put.Outcome.{Outcome}
use Rattle.ty_persist.specs.declared.tree.put.Outcome.TheVariants.{Replaced, Added, Waits}

-- the entries after a put of v at k: those with v at k, or those of before while the new entry waits
abbrev pub IsPut : {K V : Type 0} → (K → K → Ordering) → K → V → List (K × V) → List (K × V) → Outcome K V → Type 0
IsPut cmp k v old new (Replaced before) = IsSome (lookup (is_at (cmp k)) old) × (new ≡ put_entry cmp old k v)
IsPut cmp k v old new Added = (lookup (is_at (cmp k)) old ≡ None) × (new ≡ put_entry cmp old k v)
IsPut cmp k v old new (Waits e) = (lookup (is_at (cmp k)) old ≡ None) × (new ≡ old) × (pair e.value ≡ (k, v))

-- a wanted value of before is seen as the one that was there
abbrev pub IsBefore : {K V S : Type 0} → (V → S) → Bool → Option V → Outcome K V → Type 0
IsBefore seen wanted there (Replaced before) = IsTrue wanted → option_map seen before ≡ option_map seen there
IsBefore seen wanted there Added = Unit {0}
IsBefore seen wanted there (Waits e) = Unit {0}

-- a put whose entry waits has taken no more steps than this
abbrev pub WaitsWithin : {K V : Type 0} → ℕ → ℕ → Outcome K V → Type 0
WaitsWithin limit after (Replaced before) = Unit {0}
WaitsWithin limit after Added = Unit {0}
WaitsWithin limit after (Waits e) = after ≤ limit
