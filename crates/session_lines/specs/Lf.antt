-- Lines and the LF that ends them.
use Rattle.std.specs.Prelude.{◌≡◌, ℕ, ◌==◌, false, List}
use Rattle.std.specs.List.{list_any}

-- no byte is LF
abbrev pub IsLine : List ℕ → Type 0
IsLine line = list_any (λ b. b == 10) line ≡ false
