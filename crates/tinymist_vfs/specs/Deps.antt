-- Calls at some paths, in order.
use Rattle.std.specs.Prelude.{◌≡◌, List}
use Rattle.std.specs.Borrow.{Bor}
use Rattle.std.specs.List.{FoldsTo}
use Rattle.tinymist_vfs.specs.Maps.{Path}

-- f was called at each path, which left it as g
abbrev pub CallsAt : {G : Type 0} → (G → Bor Path → Unit {0} → G → Type 0) → List Path → G → G → Type 0
CallsAt step paths f g = FoldsTo (λ before path after. (lent : Bor Path) × (lent.now ≡ path) × step before lent tt after) f paths g
