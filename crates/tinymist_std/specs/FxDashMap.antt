-- The parts of a locked map.
use Rattle.std.specs.Prelude.{ℕ, List, length}
use Rattle.std.specs.HashMap.{HashMap}
use Rattle.std.specs.declared.cmp.PartialEq as equality
use Rattle.std.specs.declared.hash.Hash as hashes
use Rattle.std.specs.declared.hash.BuildHasherDefault.{BuildHasherDefault}
use Rattle.std.specs.declared.hash.FoldHasher.{FoldHasher}
use Rattle.std.specs.declared.sync.RwLock.{RwLock}
use Rattle.tinymist_std.specs.declared.dash_map.FxDashMap.{FxDashMap}

-- the parts, in their order
abbrev pub parts_of : {K V : Type 0} {e : equality.Ghosts K} {h : hashes.Ghosts K} → FxDashMap K V e h
    → List (RwLock (HashMap K V (BuildHasherDefault FoldHasher)))
parts_of m = m.shards.items

-- the count of parts
abbrev pub part_count : {K V : Type 0} {e : equality.Ghosts K} {h : hashes.Ghosts K} → FxDashMap K V e h → ℕ
part_count m = length m.shards.items
