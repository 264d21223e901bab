-- The instances that a run log starts, by its events without the accesses.
use Rattle.std.specs.Prelude.{◌≡◌, ℕ, List, [], ◌∷◌, ◌++◌, ◌+◌, ◌<◌, length, map, slice_index, slice_set}
use Rattle.pipe_model.specs.declared.event.Event.{Event}
use Rattle.pipe_model.specs.declared.event.Event.TheVariants.{Begin, Advance, Enter, Finish, Stop, Access}
use Rattle.pipe_model.specs.declared.event.RunLog.{RunLog}
use Rattle.pipe_model.specs.declared.node.Node.{Node}
use Rattle.pipe_model.specs.declared.node.NodeId.{NodeId}
use Rattle.pipe_model.specs.Orders.Starts.{starts_of}
use Rattle.pipe_model.specs.Races.Columns.{at, node_columns}
use Rattle.pipe_model.specs.Runs.ControlParts.{control_after, without_accesses}
use Rattle.pipe_model.specs.Runs.ControlRun.{ControlRun}
use Rattle.pipe_model.specs.Runs.State.{State, own_columns}

-- the control part allows the events, with some throttling limit
pub record IsControlLog (events : List Event) : Type 0 where
  pub limit : ℕ
  pub run : ControlRun limit (without_accesses events) (control_after events)

-- the instances that the events start, in order
abbrev pub log_starts : List Event → List NodeId
log_starts events = starts_of (without_accesses events)

-- the columns that the events make
abbrev pub log_columns : List Event → List (List Node)
log_columns events = own_columns (control_after events)

-- the log's columns are those that its events make
pub record IsOwnLog (log : RunLog) : Type 0 where
  pub control : IsControlLog log.events
  pub columns : node_columns log.columns ≡ log_columns log.events

-- ---- how many instances each iteration has

abbrev pub counts_in : State → List ℕ
counts_in s = map length (own_columns s)

-- the counts after an event
abbrev pub counts_after : List ℕ → Event → List ℕ
counts_after counts (Begin i) = counts ++ 1 ∷ []
counts_after counts (Enter i) = slice_set counts i (slice_index counts i + 1)
counts_after counts (Access i a) = counts
counts_after counts (Advance i k n) = counts
counts_after counts (Finish i e) = counts
counts_after counts Stop = counts

-- the instance that the event starts, if it starts one
abbrev pub started_after : List ℕ → Event → List NodeId
started_after counts (Begin i) = at i 0 ∷ []
started_after counts (Enter i) = at i (slice_index counts i) ∷ []
started_after counts (Access i a) = []
started_after counts (Advance i k n) = []
started_after counts (Finish i e) = []
started_after counts Stop = []

-- the event enters no stage of an iteration that has not begun
abbrev pub EntersBegun : ℕ → Event → Type 0
EntersBegun n (Enter i) = i < n
EntersBegun n (Begin i) = Unit {0}
EntersBegun n (Access i a) = Unit {0}
EntersBegun n (Advance i k m) = Unit {0}
EntersBegun n (Finish i e) = Unit {0}
EntersBegun n Stop = Unit {0}
