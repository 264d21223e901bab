-- The tokens that a book keeps, and the payloads in its pool.
use Rattle.std.specs.Prelude.{◌≡◌, ℕ, ℤ, suc, List, [], ◌+◌, ◌^◌, ◌≤◌, map, length, All, false, Some, slice_index_or}
use Rattle.pipe_model.specs.declared.node.NodeId.{NodeId}
use Rattle.pipe_model.specs.declared.status.Status.TheVariants.{Running}
use Rattle.pipe_model.specs.declared.ticket.Entry.{Entry}
use Rattle.pipe_model.specs.Orders.OrderMarks.{instance_marks}
use Rattle.pipe_model.specs.Runs.State.{Frame, State, frame_at, own_columns}
use Rattle.pipe_frame.specs.LeftCounters.{IsNotAhead}
use Rattle.pipe_frame.specs.Replies.{replies_of}
use Rattle.pipe_frame.specs.RunningTokens.{left_joined}
use Rattle.pipe_frame.specs.Ties.{Tie, BelongsTo, KnowsMarks, ListIdentities}
use Rattle.pipe_frame.specs.declared.token.FrameToken.{FrameToken}
use Rattle.frame_rows.specs.IterationRows.{IterationRow}
use Rattle.frame_rows.specs.RowsOfFrames.{token_at}

-- the token of iteration i, whose instance has made no access, or which waits
pub record IsKeptToken {M : Type 0} (ReadyAt : M → ℕ → List (List ℤ) → Type 0) (tie : M → Tie) (lists : ListIdentities)
    (traces : List (List (List Entry))) (starts : List NodeId) (c : State) (i : ℕ) (f : Frame) (t : FrameToken M) : Type 0 where
  pub iteration : t.iteration ≡ i
  pub index : length f.nodes ≡ suc t.index
  pub joined : t.joined ≡ left_joined (own_columns c) i t.index
  pub folded : IsNotAhead c.frames i t.folded
  pub marks : f.status ≡ Running → t.marks ≡ instance_marks (own_columns c) starts i t.index
  pub knows : f.status ≡ Running → KnowsMarks (tie t.payload) t.marks
  pub belongs : BelongsTo (tie t.payload) lists
  pub ready : ReadyAt t.payload i (map replies_of (slice_index_or traces i []))

-- a payload in the pool
pub record IsAtHome {M : Type 0} (Whole : M → Type 0) (tie : M → Tie) (lists : ListIdentities) (m : M) : Type 0 where
  pub whole : Whole m
  pub belongs : BelongsTo (tie m) lists

-- the tokens of the rows and the payloads of the pool; of a stopped book only the tickets are kept in bounds
pub record HasTokens {M : Type 0} (Whole : M → Type 0) (ReadyAt : M → ℕ → List (List ℤ) → Type 0) (tie : M → Tie) (lists : ListIdentities)
    (rows : List (IterationRow M)) (home : List M) (entries : ℕ) (starts : List NodeId) (c : State) : Type 0 where
  pub tokens : c.stopped ≡ false → (i : ℕ) (f : Frame) (t : FrameToken M) → frame_at c.frames i ≡ Some f → token_at rows i ≡ Some t
      → IsKeptToken ReadyAt tie lists (map (λ r. r.traces) rows) starts c i f t
  pub nows : (i : ℕ) (t : FrameToken M) → token_at rows i ≡ Some t → t.now ≤ 2 ^ 62 + entries
  pub at_home : All (IsAtHome Whole tie lists) home
