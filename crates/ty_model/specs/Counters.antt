-- The counters from which tags of ids and numbers of spaces are drawn.
use Rattle.std.specs.Prelude.{ℕ}

-- the tag and the space number that are drawn next
pub record Counters : Type 0 where
  pub next_id : ℕ
  pub next_space : ℕ
