-- Hashes of bytes.
use Rattle.std.specs.Prelude.{ℕ, ◌++◌, List}
use Rattle.std.specs.Int.{w64, to_le_bytes}
use Rattle.tinymist_std.specs.Fingerprint.{Halves}

-- the fingerprint of a pair of halves, the low one first
abbrev pub fingerprint_of : ℕ × ℕ → Halves
fingerprint_of h = record { low = h.0; high = h.1 }

-- the bytes of an item of a kind: the kind in eight bytes, the lowest first, and then the item's own
abbrev pub kind_and_item : ℕ → List ℕ → List ℕ
kind_and_item kind item = to_le_bytes w64 kind ++ item
