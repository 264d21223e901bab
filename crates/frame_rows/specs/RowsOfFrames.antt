-- The rows of a book, one for each iteration of a state.
use Rattle.std.specs.Prelude.{◌≡◌, ℕ, zero, suc, List, [], ◌∷◌, ◌<◌, ◌≤◌, ◌⊎◌, map, length, Bool, true, false, not, Option, Some, None}
use Rattle.std.specs.Prelude.{IsSome, slice_index_or}
use Rattle.pipe_model.specs.declared.marks.Marks.{Marks}
use Rattle.pipe_model.specs.declared.node.Kind.TheVariants.{Wait}
use Rattle.pipe_model.specs.declared.node.NodeId.{NodeId}
use Rattle.pipe_model.specs.declared.status.Status.{Status}
use Rattle.pipe_model.specs.declared.status.Status.TheVariants.{Running, Pending, Completed}
use Rattle.pipe_model.specs.Orders.OrderMarks.{instance_marks, start_marks}
use Rattle.pipe_model.specs.Races.Columns.{nodes_at}
use Rattle.pipe_model.specs.Runs.Allowed.{LeftHasPassed}
use Rattle.pipe_model.specs.Runs.State.{Frame, State, frame_at, own_columns}
use Rattle.pipe_frame.specs.declared.token.FrameToken.{FrameToken}
use Rattle.frame_rows.specs.IterationRows.{IterationRow, row_at}
use Rattle.frame_rows.specs.Totals.{total}

-- ---- one row

-- each instance that has ended has a trace
abbrev pub HasTraceCount : Status → ℕ → ℕ → Type 0
HasTraceCount Running traces nodes = suc traces ≡ nodes
HasTraceCount (Pending k n) traces nodes = traces ≡ nodes
HasTraceCount (Completed e) traces nodes = traces ≡ nodes

-- the token of an iteration that waits is kept, and one that has ended has none
abbrev pub TokenFits : {M : Type 0} → Status → Option (FrameToken M) → Type 0
TokenFits Running token = Unit {0}
TokenFits {M} (Pending k n) token = (t : FrameToken M) × (token ≡ Some t)
TokenFits (Completed e) token = token ≡ None

-- no token is kept of an instance that was stopped
abbrev pub IsUnheld : {X : Type 0} → Bool → Option X → Type 0
IsUnheld stopped token = (stopped ≡ false) ⊎ (token ≡ None)

-- the row has the iteration's stage numbers and status, marks for each instance, and room for all; the number of its traces and its
-- token fit its status, unless its instance was stopped
pub record IsRowOf {M : Type 0} (going : Bool) (f : Frame) (r : IterationRow M) : Type 0 where
  pub numbers : r.numbers ≡ map (λ n. n.number) f.nodes
  pub status : r.status ≡ f.status
  pub marks : length r.marks ≡ length f.nodes
  pub fits : length f.nodes ≤ r.room
  pub traces : IsUnheld (not going) r.token → HasTraceCount f.status (length r.traces) (length f.nodes)
  pub home : going ≡ true → TokenFits f.status r.token

-- ---- all rows

-- the rows belong to the iterations, in order
abbrev pub AreRows : {M : Type 0} → Bool → List Frame → List (IterationRow M) → Type 0
AreRows going [] [] = Unit {0}
AreRows going [] (r ∷ rs) = ⊥
AreRows going (f ∷ fs) [] = ⊥
AreRows going (f ∷ fs) (r ∷ rs) = IsRowOf going f r × AreRows going fs rs

-- the kept token of row i
abbrev pub token_at : {M : Type 0} → List (IterationRow M) → ℕ → Option (FrameToken M)
token_at [] i = None
token_at (r ∷ rs) zero = r.token
token_at (r ∷ rs) (suc i) = token_at rs i

abbrev pub no_marks : Marks
no_marks = start_marks 0 0 0

-- the rows belong to the iterations of a state after these starts, and have the marks of all instances
pub record HasRows {M : Type 0} (rows : List (IterationRow M)) (starts : List NodeId) (c : State) : Type 0 where
  pub each : AreRows (not c.stopped) c.frames rows
  pub marks : (i k : ℕ) → k < length (nodes_at (own_columns c) i) → slice_index_or (slice_index_or (map (λ r. r.marks) rows) i []) k
      no_marks ≡ instance_marks (own_columns c) starts i k
  pub started : length starts ≡ total (λ r. length r.numbers) rows

-- ---- which iterations may go on

-- a stage is named, and it does not wait or the left neighbour of iteration i has passed it
abbrev pub IsFreeBy : List Frame → ℕ → Status → Type 0
IsFreeBy fs i Running = ⊥
IsFreeBy fs i (Pending k n) = k ≡ Wait → LeftHasPassed fs i n
IsFreeBy fs i (Completed e) = ⊥

abbrev pub IsFreeIn : List Frame → ℕ → Option Frame → Type 0
IsFreeIn fs i None = ⊥
IsFreeIn fs i (Some f) = IsFreeBy fs i f.status

-- iteration i may enter the stage that it has named
abbrev pub IsFree : List Frame → ℕ → Type 0
IsFree fs i = IsFreeIn fs i (frame_at fs i)

-- iteration i was left ready, or may enter the stage that it has named
abbrev pub RowGoesOn : {M : Type 0} → List Frame → List (IterationRow M) → ℕ → Type 0
RowGoesOn {M} fs rs i = ((r : IterationRow M) × (row_at rs i ≡ Some r) × (r.status ≡ Running) × IsSome r.token) ⊎ IsFree fs i
