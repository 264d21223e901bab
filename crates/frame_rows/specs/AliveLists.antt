-- The list of alive iterations of a book, by which `rescue` need not look at those that have ended.
use Rattle.std.specs.Prelude.{◌≡◌, ℕ, List, ◌+◌, ◌<◌, ◌≤◌, length, Bool, true, false, not, Option, Some, None, All, AllPairs, Contains}
use Rattle.pipe_model.specs.Runs.State.{is_completed}
use Rattle.frame_rows.specs.IterationRows.{IterationRow, row_at}

-- there is a row, and its iteration has not ended
abbrev pub is_alive_row : {M : Type 0} → Option (IterationRow M) → Bool
is_alive_row None = false
is_alive_row (Some r) = not (is_completed r.status)

-- iteration i has begun and has not ended
abbrev pub is_alive_in : {M : Type 0} → List (IterationRow M) → ℕ → Bool
is_alive_in rows i = is_alive_row (row_at rows i)

-- the numbers rise, each is the number of a row, and each alive iteration is among them; some may have ended
pub record ListsAlive {M : Type 0} (rows : List (IterationRow M)) (alive : List ℕ) : Type 0 where
  pub rises : AllPairs (λ (i : ℕ) (j : ℕ). i < j) alive
  pub begun : All (λ i. i < length rows) alive
  pub all : (i : ℕ) → is_alive_in rows i ≡ true → Contains alive i

-- the list of a book, which has room for a number for each spare row
pub record HasAliveList {M : Type 0} (rows spare : List (IterationRow M)) (alive : List ℕ) (capacity : ℕ) : Type 0 where
  pub list : ListsAlive rows alive
  pub room : length alive + length spare ≤ capacity
