-- The control part of a run is a log with the run's columns.
use Rattle.std.proofs.Common.{◌≡◌, ℕ, List, sym}
use Rattle.order_2d.specs.LogStarts.{IsControlLog, log_columns}
use Rattle.pipe_model.specs.declared.event.Event.{Event}
use Rattle.pipe_model.specs.Pipelines.Pipeline.{Pipeline}
use Rattle.pipe_model.specs.Runs.ControlParts.{control_after}
use Rattle.pipe_model.specs.Runs.Run.{Run}
use Rattle.pipe_model.specs.Runs.State.{State, own_columns}
use Rattle.schedule_laws.proofs.ControlOutlines.{control_goes_by_outlines, runs_have_control_runs}

-- the log of a run is one of the control part
pub control_log : (p : Pipeline) (limit : ℕ) (events : List Event) (s : State) → Run p limit events s → IsControlLog events
control_log p limit events s r = record { limit = limit; run = (runs_have_control_runs p limit events s r).run }

-- the control part has the run's columns
pub columns_of_run : (p : Pipeline) (limit : ℕ) (events : List Event) (s : State) → Run p limit events s
    → log_columns events ≡ own_columns s
columns_of_run p limit events s r = sym (control_goes_by_outlines limit s (control_after events)
    (runs_have_control_runs p limit events s r).same).columns
