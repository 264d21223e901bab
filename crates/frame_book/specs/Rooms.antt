-- For how many instances a book has room, and why that is enough for its program.
use Rattle.std.specs.Prelude.{◌≡◌, ℕ, ℤ, suc, List, ◌++◌, ◌+◌, ◌*◌, ◌^◌, ◌<◌, map, length, reverse, All, slice_index_or}
use Rattle.pipe_model.specs.Pipelines.Behaviour.{Behaviour, Reading, Writing, Staging, Ending}
use Rattle.pipe_model.specs.Pipelines.Pipeline.{Pipeline, IsWellFormed}
use Rattle.frame_rows.specs.IterationRows.{IterationRow, empty_row}
use Rattle.frame_rows.specs.Totals.{total}

-- whatever is read, at most m next stages are named
abbrev pub NamesAtMost : ℕ → Behaviour → Type 0
NamesAtMost m (Reading c go) = (v : ℤ) → NamesAtMost m (go v)
NamesAtMost m (Writing c v d) = NamesAtMost m d
NamesAtMost m (Staging k n d) = (l : ℕ) × (m ≡ suc l) × NamesAtMost l d
NamesAtMost m (Ending e) = Unit {0}

-- the pipeline is well-formed, there is a row for each of its iterations, and each iteration has at most as many instances as its row
-- has room for
pub record IsPlanned (p : Pipeline) (rooms : List ℕ) : Type 0 where
  pub proper : IsWellFormed p
  pub rows : length rooms ≡ p.last_iteration + 1
  pub room : (i : ℕ) → i < length rooms → (m : ℕ) × (slice_index_or rooms i 0 ≡ suc m) × NamesAtMost m (p.behaviour i)

-- the rooms of the rows that are in use, and of those for iterations that have not begun, which are taken from the end
abbrev pub rooms_of : {M : Type 0} → List (IterationRow M) → List (IterationRow M) → List ℕ
rooms_of rows spare = map (λ r. r.room) (rows ++ reverse spare)

-- their sum
abbrev pub room_in : {M : Type 0} → List (IterationRow M) → List (IterationRow M) → ℕ
room_in rows spare = total (λ r. r.room) rows + total (λ r. r.room) (reverse spare)

-- the row of an iteration that has not begun
abbrev pub IsFresh : {M : Type 0} → IterationRow M → Type 0
IsFresh r = r ≡ empty_row r.room

-- there is room for every instance in the rows, the order lists and the log
pub record IsSized {M : Type 0} (p : Pipeline) (rows spare : List (IterationRow M)) (down right log : ℕ) : Type 0 where
  pub planned : IsPlanned p (rooms_of rows spare)
  pub fresh : All IsFresh spare
  pub bounded : room_in rows spare < 2 ^ 31
  pub down_room : 2 * room_in rows spare < down
  pub right_room : 2 * room_in rows spare < right
  pub log_room : log ≡ 2 * room_in rows spare + 1
