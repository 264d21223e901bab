-- What always holds of the tables of a book.
use Rattle.std.specs.Prelude.{◌≡◌, ℕ, ℤ, List, [], ◌∷◌, ◌++◌, ◌+◌, ◌*◌, ◌^◌, ◌<◌, ◌≤◌, ◌↔◌, map, length, Bool, true, false, IsTrue, Some}
use Rattle.std.specs.Prelude.{slice_index_or}
use Rattle.pipe_model.specs.declared.event.Event.{Event}
use Rattle.pipe_model.specs.declared.node.Node.{Node}
use Rattle.pipe_model.specs.declared.node.NodeId.{NodeId}
use Rattle.pipe_model.specs.declared.status.Status.{Status}
use Rattle.pipe_model.specs.declared.status.Status.TheVariants.{Running, Pending, Completed}
use Rattle.pipe_model.specs.declared.ticket.BookEntry.{BookEntry}
use Rattle.pipe_model.specs.declared.ticket.Entry.{Entry}
use Rattle.pipe_model.specs.Language.Programs.{pipeline_of}
use Rattle.pipe_model.specs.Language.SyntaxTree.{SyntaxTree, tree_of}
use Rattle.pipe_model.specs.Orders.Starts.{starts_of}
use Rattle.pipe_model.specs.Orders.TwoOrders.{down_first_log, right_first_log}
use Rattle.pipe_model.specs.Pipelines.Behaviour.{Action, Performs, column_of, node_of, trace_end}
use Rattle.pipe_model.specs.Pipelines.Pipeline.{Pipeline}
use Rattle.pipe_model.specs.Runs.Allowed.{IsClosed}
use Rattle.pipe_model.specs.Runs.ControlRun.{ControlRun}
use Rattle.pipe_model.specs.Runs.RunLogs.{state_after}
use Rattle.pipe_model.specs.Runs.Schedules.{running_in_frames}
use Rattle.pipe_model.specs.Runs.State.{Frame, State, frame_at, alive, end_of_status, own_columns}
use Rattle.pipe_model.specs.Runs.TicketLogs.{laid_traces, end_actions}
use Rattle.pipe_frame.specs.Ties.{Tie}
use Rattle.run_laws.proofs.ListOrders.StartsOfRuns.{IsStartSound}
use Rattle.frame_book.specs.BookStates.{events_of, last_ticket, made, HasRisingTickets}
use Rattle.frame_book.specs.CallEffects.{identities_of_orders}
use Rattle.frame_book.specs.KeptTokens.{HasTokens}
use Rattle.frame_book.specs.Rooms.{IsSized}
use Rattle.frame_rows.specs.RowsOfFrames.{HasRows, IsUnheld, token_at}
use Rattle.frame_book.specs.Tables.{Tables}

-- ---- the log

-- the instance that is named and not entered, if there is one
abbrev pub pending_nodes : Status → List Node
pending_nodes Running = []
pending_nodes (Pending k n) = node_of k n ∷ []
pending_nodes (Completed e) = []

-- 1 if the run was stopped
abbrev pub stop_one : Bool → ℕ
stop_one true = 1
stop_one false = 0

-- the events are a run of the control part, and each start has its end unless its instance is running
pub record IsLogged (limit : ℕ) (es : List Event) (starts : List NodeId) (c : State) : Type 0 where
  pub run : ControlRun limit es c
  pub sound : IsStartSound c.frames starts
  pub entries : length es + running_in_frames c.frames ≡ 2 * length starts + stop_one c.stopped

-- ---- traces

-- the actions of an iteration name its instances, and have its end
pub record MatchesFrame (f : Frame) (actions : List Action) : Type 0 where
  pub nodes : column_of actions ≡ f.nodes ++ pending_nodes f.status
  pub end : trace_end actions ≡ end_of_status f.status

-- what iteration i has done, by its traces and the log
abbrev pub actions_in : List BookEntry → List (List (List Entry)) → ℕ → List Action
actions_in log traces i = map (λ a. a.action) (laid_traces (made traces i) 0 (end_actions i log))

-- each iteration has done what its program does
pub record HasActions (p : Pipeline) (log : List BookEntry) (traces : List (List (List Entry))) (c : State) : Type 0 where
  pub performs : (i : ℕ) → Performs (p.behaviour i) (actions_in log traces i)
  pub matches : (i : ℕ) (f : Frame) → frame_at c.frames i ≡ Some f → MatchesFrame f (actions_in log traces i)

-- ---- all together

-- with these events in its log, their starts, and the state after them
pub record IsBookAt {M : Type 0} (Whole : SyntaxTree → M → Type 0) (ReadyAt : SyntaxTree → List ℤ → M → ℕ → List (List ℤ) → Type 0)
    (tie : M → Tie) (b : Tables M) (es : List Event) (starts : List NodeId) (c : State) : Type 0 where
  pub sized : IsSized (pipeline_of (tree_of b.program) b.input) b.rows b.spare b.orders.down.capacity b.orders.right.capacity b.ledger.room
  pub logged : IsLogged b.limit es starts c
  pub rows : HasRows b.rows starts c
  pub actions : HasActions (pipeline_of (tree_of b.program) b.input) b.ledger.log (map (λ r. r.traces) b.rows) c
  pub counted : (i : ℕ) → IsUnheld c.stopped (token_at b.rows i) → length (end_actions i b.ledger.log) ≡ length
      (slice_index_or (map (λ r. r.traces) b.rows) i [])
  pub tokens : HasTokens (Whole (tree_of b.program)) (ReadyAt (tree_of b.program) b.input) tie
      (identities_of_orders b.orders) b.rows b.pool.home (length b.ledger.log) starts c
  pub down : b.orders.down.log ≡ down_first_log starts
  pub right : b.orders.right.log ≡ right_first_log (own_columns c) starts
  pub stopped : b.stopped ≡ c.stopped
  pub closed : IsTrue b.closed ↔ IsClosed c.frames
  pub alive : length b.pool.home + alive c ≡ b.pool.size
  pub size : b.pool.size ≡ b.limit
  pub some : 0 < b.limit
  pub last : last_ticket b.ledger.log ≤ 2 ^ 62 + length b.ledger.log
  pub reads : b.reads ≤ length b.ledger.log
  pub reserve : length b.rows + length b.spare ≤ b.room
  pub rise : HasRisingTickets b.ledger.log

-- with the events of its log
abbrev pub IsBook : {M : Type 0} → (SyntaxTree → M → Type 0) → (SyntaxTree → List ℤ → M → ℕ → List (List ℤ) → Type 0) → (M → Tie)
    → Tables M → Type 0
IsBook Whole ReadyAt tie b = IsBookAt Whole ReadyAt tie b (events_of b.ledger.log) (starts_of (events_of b.ledger.log))
    (state_after (events_of b.ledger.log))
