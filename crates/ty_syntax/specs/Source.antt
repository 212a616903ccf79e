-- A source as plain data.
use Rattle.std.specs.Prelude.{ℕ, List}
use Rattle.ty_model.specs.Values.{Id}

-- a source as its id and its text
pub record Source : Type 0 where
  pub id : Id
  pub text : List ℕ
