-- What a sorted list of shared entries is seen as, and where a key stands in it.
use Rattle.std.specs.Prelude.{◌≡◌, ℕ, ◌≤◌, ◌<◌, List, map, length, take, slice_get, Some}
use Rattle.std.specs.declared.cmp.Ordering.{Ordering}
use Rattle.std.specs.declared.cmp.Ordering.TheVariants.{Less, Equal, Greater}
use Rattle.std.specs.declared.sync.Arc.{Arc}
use Rattle.std.specs.declared.alloc.Global.{Global}
use Rattle.std.specs.List.{AllByRecursion}
use Rattle.std.specs.Map.{keys_of}
use Rattle.ty_persist_plain.specs.declared.entry.Entry.{Entry}
use Rattle.ty_persist.specs.Contents.{Contents}

-- an entry as the pair of its key and its value
abbrev pub pair : {K V : Type 0} → Entry K V → K × V
pair e = (e.key, e.value)

-- the entries as pairs of a key and a value
abbrev pub pairs : {K V : Type 0} → List (Arc (Entry K V) Global) → List (K × V)
pairs es = map (λ a. pair a.value) es

-- a list has no height
abbrev pub plain_contents : {K V : Type 0} → List (Arc (Entry K V) Global) → Contents K V
plain_contents es = record { entries = pairs es; height = 0 }

-- the keys of a front are below k
abbrev pub ArePassed : {K V : Type 0} → (K → K → Ordering) → K → List (Arc (Entry K V) Global) → Type 0
ArePassed cmp k es = AllByRecursion (λ x. cmp k x ≡ Greater) (keys_of (pairs es))

-- the entry at place i has the key k, and those before it are below it
pub record IsFoundAt {K V : Type 0} (cmp : K → K → Ordering) (k : K) (es : List (Arc (Entry K V) Global)) (i : ℕ) : Type 0 where
  pub within : i < length es
  pub passed : ArePassed cmp k (take i es)
  pub same : (x : Arc (Entry K V) Global) → slice_get es i ≡ Some x → cmp k x.value.key ≡ Equal

-- the key k would go at place i
pub record IsGapAt {K V : Type 0} (cmp : K → K → Ordering) (k : K) (es : List (Arc (Entry K V) Global)) (i : ℕ) : Type 0 where
  pub within : i ≤ length es
  pub passed : ArePassed cmp k (take i es)
  pub above : (x : Arc (Entry K V) Global) → slice_get es i ≡ Some x → cmp k x.value.key ≡ Less
