-- The columns that the events of a log make, with their ends. Accesses change none, whether they are allowed or not.
use Rattle.std.specs.Prelude.{◌≡◌, ℕ, List, [], map, false}
use Rattle.pipe_model.specs.declared.column.Column.{Column}
use Rattle.pipe_model.specs.declared.event.Event.{Event}
use Rattle.pipe_model.specs.Pipelines.Pipeline.{Pipeline}
use Rattle.pipe_model.specs.Runs.ControlParts.{control_after, next_control, outlines_of}
use Rattle.pipe_model.specs.Runs.Run.{Run}
use Rattle.pipe_model.specs.Runs.RunLogs.{column_of_frame, ended_columns_after, state_after}
use Rattle.pipe_model.specs.Runs.State.{Frame}
use Rattle.run_record.specs.declared.own_columns.Iteration.{Iteration}

-- the columns that the events make, with their ends
abbrev pub made_columns : List Event → List Column
made_columns events = map column_of_frame (control_after events).frames

-- a run makes the columns of its state
abbrev pub RunsMakeTheirColumns : Type 0
RunsMakeTheirColumns =
    (p : Pipeline) (limit : ℕ) (events : List Event) → Run p limit events (state_after events)
    → made_columns events ≡ ended_columns_after events

-- ---- iterations, as the code keeps them

abbrev pub frame_of : Iteration → Frame
frame_of it = record { nodes = it.nodes; status = it.status; trace = [] }

abbrev pub frames_of : List Iteration → List Frame
frames_of its = map frame_of its

-- the instances and status of all iterations after one more event
abbrev pub next_outlines : List Frame → Event → List Frame
next_outlines fs e = outlines_of (next_control (record { frames = fs; accesses = []; stopped = false }) e).frames
