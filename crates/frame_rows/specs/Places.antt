-- Where the numbers and the marks of all instances lie: a place for each instance that an iteration may have.
use Rattle.std.specs.Prelude.{◌≡◌, ℕ, ℤ, zero, suc, pos, List, [], ◌∷◌, ◌+◌, ◌*◌, ◌<◌, ◌≤◌, length, map, replicate, Some}
use Rattle.std.specs.Prelude.{slice_index_or, slice_set}
use Rattle.pipe_model.specs.declared.marks.Marks.{Marks}
use Rattle.frame_rows.specs.IterationRows.{IterationRow, empty_row, row_at}
use Rattle.frame_rows.specs.RowsOfFrames.{no_marks}

-- for how many instances there is room in each row that has not begun, where this many are left: the last iteration's is the first,
-- and the next one's the last
abbrev pub rooms_left : ℕ → ℕ → List ℕ
rooms_left zero stages = []
rooms_left (suc n) stages = 1 ∷ replicate n stages

-- the rows with these rooms
abbrev pub spare_rows : {M : Type 0} → List ℕ → List (IterationRow M)
spare_rows rooms = map empty_row rooms

-- the places of the rows that have begun, one after the other, how many a row has, and the rooms of the rows that have not begun
pub record PlaceTable : Type 0 where
  pub numbers : List ℤ
  pub marks : List Marks
  pub stages : ℕ
  pub spare : List ℕ

-- how many places the rows have that have not begun
abbrev pub places_left : ℕ → ℕ → ℕ
places_left zero stages = 0
places_left (suc n) stages = 1 + n * stages

-- the place of instance k of iteration i
abbrev pub place_of : PlaceTable → ℕ → ℕ → ℕ
place_of p i k = i * p.stages + k

-- the number and the marks of an instance in their place
abbrev pub with_place : ℕ → ℤ → Marks → PlaceTable → PlaceTable
with_place at n m p = record p { numbers = slice_set p.numbers at n; marks = slice_set p.marks at m }

-- the places of iteration i have the numbers and the marks of its row
pub record HoldsRow {M : Type 0} (p : PlaceTable) (i : ℕ) (r : IterationRow M) : Type 0 where
  pub there : place_of p i r.room ≤ length p.numbers
  pub within : length r.numbers ≤ r.room
  pub both : length r.marks ≡ length r.numbers
  pub numbers : (k : ℕ) → k < length r.numbers → slice_index_or p.numbers (place_of p i k) (pos 0) ≡ slice_index_or r.numbers k (pos 0)
  pub marks : (k : ℕ) → k < length r.numbers → slice_index_or p.marks (place_of p i k) no_marks ≡ slice_index_or r.marks k no_marks

-- the places hold all rows
pub record HoldsRows {M : Type 0} (rows : List (IterationRow M)) (p : PlaceTable) : Type 0 where
  pub each : (i : ℕ) (r : IterationRow M) → row_at rows i ≡ Some r → HoldsRow p i r
  pub both : length p.marks ≡ length p.numbers
  pub apart : (i : ℕ) (r : IterationRow M) → row_at rows i ≡ Some r → suc i < length rows + length p.spare → r.room ≤ p.stages
  pub next : 0 < length p.spare → length p.numbers ≡ length rows * p.stages
