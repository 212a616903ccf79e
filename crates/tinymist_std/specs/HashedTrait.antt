-- A boxed value beside its hash.
use Rattle.std.specs.Prelude.{ℕ}
use Rattle.tinymist_std.specs.declared.hashed_trait.HashedTrait.{HashedTrait}

-- the hash that is kept beside a value
abbrev pub hashed_number : {T : Type 0} → HashedTrait T → ℕ
hashed_number h = h.hash

-- the value beside its hash
abbrev pub hashed_value : {T : Type 0} → HashedTrait T → T
hashed_value h = h.t.value
