-- The data that a builder keeps under fingerprints.
use Rattle.std.specs.Prelude.{◌≡◌, ◌≢◌, ℕ, Bool, false, List, Option, Some, IfSome}
use Rattle.std.specs.Option.{option_map}
use Rattle.std.specs.HashMap.{get}
use Rattle.tinymist_std.specs.Fingerprint.{Halves}
use Rattle.tinymist_std.specs.contracts.fingerprint.FingerprintPartialEq.TheImpl as equality
use Rattle.tinymist_std.specs.declared.fingerprint_builder.FingerprintBuilder.{FingerprintBuilder}
use Rattle.tinymist_std.specs.declared.fingerprint_builder.ResolveFault.{ResolveFault}
use Rattle.tinymist_std.specs.declared.fingerprint_builder.ResolveFault.TheVariants.{Conflict, OutOfMemory}

-- whether two fingerprints are equal, as `==` says
abbrev pub is_equal : Halves → Halves → Bool
is_equal = equality.ghosts.eq

module _ {B : Type 0} where
  -- the data that is kept under a fingerprint
  abbrev pub kept_data : FingerprintBuilder B → Halves → Option (List ℕ)
  kept_data b f = option_map (λ v. v.items) (get is_equal b.kept f)

  -- nothing is kept under the fingerprint but this data
  abbrev pub KeptAs : FingerprintBuilder B → Halves → List ℕ → Type 0
  KeptAs b f given = IfSome (kept_data b f) (λ kept. kept ≡ given)

  -- afterwards the data is kept under the fingerprint, and under others what was
  pub record Keeps (old new : FingerprintBuilder B) (f : Halves) (given : List ℕ) : Type 0 where
    pub here : kept_data new f ≡ Some given
    pub others : (g : Halves) → is_equal f g ≡ false → kept_data new g ≡ kept_data old g

  -- all that was kept is kept, and nothing more
  abbrev pub KeepsAll : FingerprintBuilder B → FingerprintBuilder B → Type 0
  KeepsAll old new = (g : Halves) → kept_data new g ≡ kept_data old g

-- a conflict carries the kept data and the given, which differ; out of memory says nothing
abbrev pub IsConflict : Option (List ℕ) → List ℕ → ResolveFault → Type 0
IsConflict kept given (Conflict a b) = (kept ≡ Some a.items) × (b.items ≡ given) × (a.items ≢ given)
IsConflict kept given OutOfMemory = Unit {0}
