-- The parts of a map from fingerprints.
use Rattle.std.specs.Prelude.{◌<◌, ℕ, List, length}
use Rattle.std.proofs.Common.{sym, ◌∙◌, subst}
use Rattle.std.specs.Borrow.{RattleType}
use Rattle.std.specs.HashMap.{HashMap}
use Rattle.std.specs.Vec.{with_items}
use Rattle.std.specs.contracts.alloc.Global as global
use Rattle.std.specs.contracts.collections.HashMap as map
use Rattle.std.specs.contracts.hash.BuildHasherDefault as builder
use Rattle.std.specs.contracts.hash.FoldHasher as hasher
use Rattle.std.specs.contracts.prelude.FoldHasherHasher.TheImpl as hashes
use Rattle.std.specs.contracts.impls.GlobalAllocator.TheImpl as allocates
use Rattle.std.specs.contracts.sync.RwLock as lock
use Rattle.std.specs.declared.hash.BuildHasher.{Ghosts}
use Rattle.std.specs.declared.hash.BuildHasherDefault.{BuildHasherDefault}
use Rattle.std.specs.declared.hash.FoldHasher.{FoldHasher}
use Rattle.std.specs.declared.sync.RwLock.{RwLock}
use Rattle.tinymist_std.specs.Fingerprint.{Halves}
use Rattle.tinymist_std.specs.contracts.fingerprint.Fingerprint as fingerprint
use Rattle.tinymist_std.specs.contracts.fingerprint.FingerprintHash.TheImpl as hash
use Rattle.tinymist_std.specs.contracts.fingerprint.FingerprintPartialEq.TheImpl as equality
use Rattle.tinymist_std.specs.declared.fingerprint_map.FingerprintMap.{FingerprintMap}

-- a part: entries behind a lock
abbrev pub Shard : Type 0 → Type 0
Shard V = RwLock (HashMap Halves V (BuildHasherDefault FoldHasher))

-- a part as the logic holds it
abbrev pub shard_row : RattleType → Ghosts (BuildHasherDefault FoldHasher) FoldHasher → RattleType
shard_row V builds = lock.the_row (map.the_row fingerprint.the_row V (builder.the_row hasher.the_row) global.the_row hasher.the_row
    equality.ghosts hash.ghosts builds
    hashes.ghosts allocates.ghosts)

-- the parts, in their order
abbrev pub shards_of : {V : Type 0} → FingerprintMap V → List (Shard V)
shards_of m = m.shards.items

-- there are as many parts, whatever is written over them
pub some_stay : {V : Type 0} (m : FingerprintMap V) (parts : List (Shard V)) → 0 < length (with_items m.shards parts).items
some_stay m parts =
    subst (λ (n : ℕ). 0 < n) (sym m.shards.ok.0 ∙ (with_items m.shards parts).ok.0) m.some

-- the map with these parts in place of its own
abbrev pub with_shards : {V : Type 0} → FingerprintMap V → List (Shard V) → FingerprintMap V
with_shards m parts = record m { shards = with_items m.shards parts; some = some_stay m parts }
