-- What contracts see of the table of one iteration.
use Rattle.std.specs.Prelude.{◌≡◌, ℕ, zero, suc, ℤ, pos, List, [], ◌∷◌, ◌++◌, ◌-◌, ◌<◌, ◌^◌, length, Option, Some, None, slice_index_or}
use Rattle.pipe_model.specs.declared.node.Kind.{Kind}
use Rattle.pipe_model.specs.declared.node.Kind.TheVariants as kinds
use Rattle.left_parent.specs.LastNumber.{AreRising}
use Rattle.pipe_model.specs.Orders.OrderMarks.{start_marks}
use Rattle.pipe_model.specs.declared.stage.Counter.{Counter}
use Rattle.pipe_model.specs.declared.stage.Counter.TheVariants.{At, Ended}
use Rattle.pipe_model.specs.declared.marks.Marks.{Marks}
use Rattle.pipe_model.specs.declared.ticket.Entry.{Entry}
use Rattle.pipe_model.specs.Runs.StageCounters.{Passes}
use Rattle.pipe_model.specs.declared.status.Status.{Status}
use Rattle.pipe_model.specs.declared.status.Status.TheVariants.{Running, Pending, Completed}
use Rattle.pipe_frame.specs.declared.token.FrameToken.{FrameToken}

-- the stage numbers and the marks of the instances, the traces of those that have ended, the status, the token if it is
-- at home, and for how many instances there is room
pub record IterationRow (M : Type 0) : Type 0 where
  pub numbers : List ℤ
  pub marks : List Marks
  pub traces : List (List Entry)
  pub status : Status
  pub token : Option (FrameToken M)
  pub room : ℕ

-- the row of an iteration that has not begun
abbrev pub empty_row : {M : Type 0} → ℕ → IterationRow M
empty_row room = record { numbers = []; marks = []; traces = []; status = Running; token = None; room = room }

-- one instance more, which runs
abbrev pub with_instance : {M : Type 0} → ℤ → Marks → IterationRow M → IterationRow M
with_instance n m r = record r { numbers = r.numbers ++ n ∷ []; marks = r.marks ++ m ∷ []; status = Running }

-- one trace more, and a new status
abbrev pub with_trace : {M : Type 0} → List Entry → Status → IterationRow M → IterationRow M
with_trace t w r = record r { traces = r.traces ++ t ∷ []; status = w }

-- the stage counter of a row
abbrev pub row_counter : Status → List ℤ → Counter
row_counter Running numbers = At (slice_index_or numbers (length numbers - 1) (pos 0))
row_counter (Pending k n) numbers = At n
row_counter (Completed e) numbers = Ended

-- instance 0 of a row has ended
abbrev pub RowEndedFirst : Status → List ℤ → Type 0
RowEndedFirst Running numbers = 1 < length numbers
RowEndedFirst (Pending k n) numbers = Unit {0}
RowEndedFirst (Completed e) numbers = Unit {0}

-- the counter, if there is one, is past stage n
abbrev pub CounterPasses : Option Counter → ℤ → Type 0
CounterPasses None n = Unit {0}
CounterPasses (Some c) n = Passes c n

-- a stage is named, and it may be entered by the counter of the left neighbour
abbrev pub IsFreeRow : Status → Option Counter → Type 0
IsFreeRow Running left = ⊥
IsFreeRow (Pending kinds.Wait n) left = CounterPasses left n
IsFreeRow (Pending kinds.Zero n) left = Unit {0}
IsFreeRow (Pending kinds.Continue n) left = Unit {0}
IsFreeRow (Completed e) left = ⊥

-- row i, if there is one
abbrev pub row_at : {M : Type 0} → List (IterationRow M) → ℕ → Option (IterationRow M)
row_at [] i = None
row_at (r ∷ rs) zero = Some r
row_at (r ∷ rs) (suc i) = row_at rs i

-- the counter of a row, if there is one
abbrev pub counter_at : {M : Type 0} → Option (IterationRow M) → Option Counter
counter_at None = None
counter_at (Some r) = Some (row_counter r.status r.numbers)

-- the counter of the row to the left, if there is one
abbrev pub left_row_counter : {M : Type 0} → List (IterationRow M) → ℕ → Option Counter
left_row_counter rs zero = None
left_row_counter rs (suc i) = counter_at (row_at rs i)

-- the marks of instance 0 of the last row, if there is one
abbrev pub head_marks : {M : Type 0} → List (IterationRow M) → Option Marks
head_marks [] = None
head_marks (r ∷ []) = Some (slice_index_or r.marks 0 (start_marks 0 0 0))
head_marks (r ∷ (s ∷ rs)) = head_marks (s ∷ rs)

-- the numbers of a row, if there is one
abbrev pub numbers_of_row : {M : Type 0} → Option (IterationRow M) → List ℤ
numbers_of_row None = []
numbers_of_row (Some r) = r.numbers

-- the numbers of the row to the left
abbrev pub left_numbers : {M : Type 0} → List (IterationRow M) → ℕ → List ℤ
left_numbers rs zero = []
left_numbers rs (suc i) = numbers_of_row (row_at rs i)

-- an instance of this kind waits for its left neighbour
abbrev pub WaitsAt : Kind → ℕ → Type 0
WaitsAt k i = (k ≡ kinds.Wait) × (0 < i)

-- stage numbers that can be searched
pub record IsSearchable (numbers : List ℤ) : Type 0 where
  pub rises : AreRising numbers
  pub bounded : length numbers < 2 ^ 32

-- the running instance has ended with this trace, and the iteration goes on at a stage; its token is kept
abbrev pub suspended_row : {M : Type 0} → List Entry → Kind → ℤ → FrameToken M → IterationRow M → IterationRow M
suspended_row trace k n t r = record r { traces = r.traces ++ trace ∷ []; status = Pending k n; token = Some t }

-- the marks of a row, if there is one
abbrev pub marks_of_row : {M : Type 0} → Option (IterationRow M) → List Marks
marks_of_row None = []
marks_of_row (Some r) = r.marks

-- the marks of instance k of row i
abbrev pub marks_at : {M : Type 0} → List (IterationRow M) → ℕ → ℕ → Marks
marks_at rs i k = slice_index_or (marks_of_row (row_at rs i)) k (start_marks 0 0 0)

-- row i has marks for its instance k
abbrev pub HasMarks : {M : Type 0} → List (IterationRow M) → ℕ → ℕ → Type 0
HasMarks rs i k = k < length (marks_of_row (row_at rs i))

-- the marks of the left parent of an instance of row i
abbrev pub left_marks : {M : Type 0} → List (IterationRow M) → ℕ → Option ℕ → Option Marks
left_marks rs i None = None
left_marks rs zero (Some j) = None
left_marks rs (suc i) (Some j) = Some (marks_at rs i j)
