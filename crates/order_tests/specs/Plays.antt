-- What is kept of a run that is being played.
use Rattle.std.specs.Prelude.{◌≡◌, ℕ, List, map, false, length}
use Rattle.pipe_model.specs.declared.column.Column.{Column}
use Rattle.pipe_model.specs.declared.event.Event.{Event}
use Rattle.pipe_model.specs.declared.status.Status.{Status}
use Rattle.pipe_model.specs.Runs.ControlParts.{control_after, without_accesses}
use Rattle.pipe_model.specs.Runs.ControlRun.{ControlRun}
use Rattle.pipe_model.specs.Runs.State.{State, own_columns}
use Rattle.pipe_model.specs.Races.Columns.{node_columns}

-- the status of each iteration
abbrev pub statuses_of : State → List Status
statuses_of s = map (λ f. f.status) s.frames

-- the events have no accesses and are a run of the control part, which has made these columns and statuses
pub record IsPlayed (limit : ℕ) (events : List Event) (columns : List Column) (statuses : List Status) : Type 0 where
  pub run : ControlRun limit events (control_after events)
  pub no_accesses : without_accesses events ≡ events
  pub not_stopped : (control_after events).stopped ≡ false
  pub columns_are : node_columns columns ≡ own_columns (control_after events)
  pub statuses_are : statuses ≡ statuses_of (control_after events)
  pub same_length : length statuses ≡ length columns
