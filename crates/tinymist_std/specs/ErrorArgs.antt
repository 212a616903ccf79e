-- Arguments of an error that are built one after another.
use Rattle.std.specs.Prelude.{◌≡◌, ℕ, List, [], ◌∷◌, ◌++◌, Option, Some, None, IfSome, IsSomeAnd}
use Rattle.tinymist_std.specs.Error.{Arguments, Failure, Kind, no_memory, plain}
use Rattle.tinymist_std.specs.Context.{IsMet}

-- the arguments before, with the name and a text behind them; the text is the one that is told, if it is
abbrev pub AddsArgument : Option Arguments → List ℕ → Option (List ℕ) → Arguments → Type 0
AddsArgument old name text new = IsSomeAnd old (λ before. (shown : List ℕ)
    × (new ≡ before ++ (name, shown) ∷ []) × IfSome text (λ t. shown ≡ t))

-- an error that was met at a place, of a kind and with these arguments; without them memory ran out
abbrev pub IsMetWith : Option Arguments → List ℕ → (Kind → Type 0) → Failure → Type 0
IsMetWith (Some args) place kind f = IsMet place kind (λ a. a ≡ Some args) f
IsMetWith None place kind f = IsMet place (λ k. k ≡ plain no_memory) (λ a. a ≡ None) f
