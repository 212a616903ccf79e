-- Bytes that were taken from the front of known ones.
use Rattle.std.proofs.Common.{◌≡◌, ℕ, List, [], ◌∷◌, ◌++◌, Option, None, Some, length, take, refl, ap, subst, sym}
use Rattle.std.specs.Prelude.{IfSome}
use Rattle.std.specs.Io.{StartsWith}
use Rattle.std.specs.Io.KnownBytes.{Consumes}

take_front : (xs ys : List ℕ) → take (length xs) (xs ++ ys) ≡ xs
take_front [] ys = refl
take_front (x ∷ xs) ys = ap (λ l. x ∷ l) (take_front xs ys)

-- what was consumed of known bytes stands at their front
pub consumed_front : (left after : Option (List ℕ)) (got : List ℕ) → Consumes left after got
    → IfSome left (λ bytes. StartsWith bytes got)
consumed_front None after got h = tt
consumed_front (Some xs) None got h = absurd h
consumed_front (Some xs) (Some ys) got h = subst (λ l. take (length got) l ≡ got) (sym h) (take_front got ys)
