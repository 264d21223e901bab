-- What contracts see of a pool.
use Rattle.std.specs.Prelude.{ℕ, List}

-- the tokens that are in the pool, and how many there are with those that are out
pub record Stock (T : Type 0) : Type 0 where
  pub home : List T
  pub size : ℕ
