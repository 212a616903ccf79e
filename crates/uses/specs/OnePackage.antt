-- What a resolver of one package knows.
use Rattle.std.specs.Prelude.{ℕ, List, Ok}
use Rattle.std.specs.FinMap as map
use Rattle.ty_model.specs.Places.{Resolver}
use Rattle.ty_model.specs.Values.{Spec}

-- one package is listed, with its root
abbrev pub one_package : Spec → List ℕ → Resolver
one_package spec root = map.insert map.empty spec (Ok root)
