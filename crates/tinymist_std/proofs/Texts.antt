-- Debug forms of lists.
use Rattle.std.proofs.Common.{◌≡◌, ℕ, List, [], ◌∷◌, Option, Some, map, refl, ap}
use Rattle.std.specs.Fmt.{◌++?◌, debug_items, comma_space}

-- the debug form of each element of a changed list
pub debug_items-map : {X Y : Type 0} (text : Y → Option (List ℕ)) (f : X → Y) (lead : List ℕ) (xs : List X)
    → debug_items text lead (map f xs) ≡ debug_items (λ x. text (f x)) lead xs
debug_items-map text f lead [] = refl
debug_items-map text f lead (x ∷ xs) = ap (λ t. Some lead ++? text (f x) ++? t) (debug_items-map text f comma_space xs)
