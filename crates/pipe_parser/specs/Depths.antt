-- The first symbol with which too many brackets are open.
use Rattle.std.specs.Prelude.{◌≡◌, ◌+◌, ◌<◌, ℕ, List, [], ◌∷◌, ◌++◌, length}
use Rattle.pipe_model.specs.declared.bounds.TheConstants.{MOST_OPEN_BRACKETS}
use Rattle.pipe_model.specs.declared.symbol.Symbol.{Symbol}
use Rattle.pipe_model.specs.Language.Spelling.{IsShallow, open_brackets}

-- symbol number k, from 1, is the first with which too many brackets are open
pub record OpensTooMany (ts : List Symbol) (k : ℕ) : Type 0 where
  pub before : List Symbol
  pub t : Symbol
  pub after : List Symbol
  pub split : ts ≡ before ++ t ∷ after
  pub many : length before + 1 ≡ k
  pub shallow : IsShallow before
  pub deep : MOST_OPEN_BRACKETS < open_brackets (before ++ t ∷ [])
