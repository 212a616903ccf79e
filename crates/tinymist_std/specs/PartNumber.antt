-- The part in which a key stands.
use Rattle.std.specs.Prelude.{ℕ, ◌%◌, List}
use Rattle.std.specs.List.{fold}
use Rattle.std.specs.Hash.FoldHasher as hashing

-- the number of the part, of so many, for what a key feeds to the hash
abbrev pub part_number : List (List ℕ) → ℕ → ℕ
part_number fed count = hashing.finish (fold hashing.write hashing.initial fed) % count
