-- What a map is seen as: its entries in the order of their keys, and the height of the tree that keeps them.
use Rattle.std.specs.Prelude.{◌≡◌, ℕ, ◌+◌, ◌^◌, ◌≤◌, List, [], ◌∷◌, length, Option, Some, None, refl}
use Rattle.std.specs.Coded.{Coded, code_by, coded×, coded_ℕ, coded_list}
use Rattle.std.specs.declared.cmp.Ordering.{Ordering}
use Rattle.std.specs.Ordering.{match_ordering}
use Rattle.std.specs.List.Sorted.{IsStrictlySortedBy}
use Rattle.std.specs.Map.{keys_of}

-- a map as its entries, in the order of their keys, and the height of its tree
pub record Contents (K V : Type 0) : Type 0 where
  pub entries : List (K × V)
  pub height : ℕ

-- contents have codes where keys and values do
abbrev pub contents_code : {K V : Type 0} → Coded K → Coded V → Coded (Contents K V)
contents_code {K} {V} k v = code_by (List (K × V) × ℕ) (coded× (coded_list (coded× k v)) coded_ℕ) (λ c. (c.entries, c.height)) (λ p. record { entries = p.0; height = p.1 }) (λ _. refl)

-- the entries with v at the key k. An entry whose key is equal gives way to the new one
abbrev pub put_entry : {K V : Type 0} → (K → K → Ordering) → List (K × V) → K → V → List (K × V)
put_entry cmp [] k v = (k, v) ∷ []
put_entry cmp (e ∷ es) k v = match_ordering (cmp k e.0) ((k, v) ∷ e ∷ es) ((k, v) ∷ es) (e ∷ put_entry cmp es k v)

-- the keys ascend
abbrev pub IsAscending : {K V : Type 0} → (K → K → Ordering) → List (K × V) → Type 0
IsAscending cmp es = IsStrictlySortedBy cmp (keys_of es)

-- a tree of n entries is no higher than twice the logarithm of n + 1
abbrev pub IsLow : {K V : Type 0} → Contents K V → Type 0
IsLow c = 2 ^ c.height ≤ (length c.entries + 1) ^ 2

-- what holds of every map: its length is right, the keys ascend, and the tree is low
abbrev pub IsMap : {K V : Type 0} → (K → K → Ordering) → ℕ → Contents K V → Type 0
IsMap cmp len c = (len ≡ length c.entries) × IsAscending cmp c.entries × IsLow c

-- the entries whose keys are above k, where the keys ascend
abbrev pub above : {K V : Type 0} → (K → K → Ordering) → K → List (K × V) → List (K × V)
above cmp k [] = []
above cmp k (e ∷ es) = match_ordering (cmp k e.0) (e ∷ es) es (above cmp k es)

-- the first of a list, if there is one
abbrev pub first_of : {A : Type 0} → List A → Option A
first_of [] = None
first_of (x ∷ xs) = Some x
