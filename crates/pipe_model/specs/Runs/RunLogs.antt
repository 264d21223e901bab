-- Run logs: what a run reports of itself. Its events lead to a state, which has the run's own columns and its own accesses.
use Rattle.std.specs.Prelude.{◌≡◌, ℕ, List, map}
use Rattle.pipe_model.specs.declared.access.NodeAccess.{NodeAccess}
use Rattle.pipe_model.specs.declared.column.Column.{Column}
use Rattle.pipe_model.specs.declared.event.Event.{Event}
use Rattle.pipe_model.specs.declared.event.RunLog.{RunLog}
use Rattle.pipe_model.specs.declared.node.Node.{Node}
use Rattle.pipe_model.specs.Pipelines.Pipeline.{Pipeline}
use Rattle.pipe_model.specs.Runs.Run.{Run, IsFinished, state_from}
use Rattle.pipe_model.specs.Runs.State.{Frame, State, end_of_status, initial_state, own_columns}

-- the state to which events lead
abbrev pub state_after : List Event → State
state_after events = state_from initial_state events

-- the columns that the events make
abbrev pub columns_after : List Event → List (List Node)
columns_after events = own_columns (state_after events)

-- the accesses of the events, each with the instance that makes it
abbrev pub accesses_after : List Event → List NodeAccess
accesses_after events = (state_after events).accesses

-- the column of an iteration, with its end if it has ended
abbrev pub column_of_frame : Frame → Column
column_of_frame f = record { nodes = f.nodes; end = end_of_status f.status }

-- the columns that the events make, with their ends
abbrev pub ended_columns_after : List Event → List Column
ended_columns_after events = map column_of_frame (state_after events).frames

-- the log records a finished run: each event is allowed after the events before it, all iterations have ended, and the columns are
-- the run's own
pub record IsFinishedRun (p : Pipeline) (limit : ℕ) (log : RunLog) : Type 0 where
  pub run : Run p limit log.events (state_after log.events)
  pub finished : IsFinished (state_after log.events)
  pub columns : log.columns ≡ ended_columns_after log.events
