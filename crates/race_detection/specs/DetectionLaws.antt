-- What the histories of a run find is right, and its control part is enough to find it.
use Rattle.std.specs.Prelude.{◌≡◌, ℕ, List}
use Rattle.order_2d.specs.LogStarts.{IsControlLog, log_columns, log_starts}
use Rattle.pipe_model.specs.declared.event.Event.{Event}
use Rattle.pipe_model.specs.Orders.Starts.{starts_of}
use Rattle.pipe_model.specs.Pipelines.Pipeline.{Pipeline}
use Rattle.pipe_model.specs.Races.Reports.{AreRight}
use Rattle.pipe_model.specs.Runs.Run.{Run}
use Rattle.pipe_model.specs.Runs.State.{State, own_columns}
use Rattle.race_detection.specs.FoundReports.{found_reports}
use Rattle.race_detection.specs.LogAccesses.{log_accesses}

-- the log has the columns, the starts and the accesses of the run by its control part, and its histories report the run's races rightly
pub record IsDetected (events : List Event) (s : State) : Type 0 where
  pub control : IsControlLog events
  pub columns : log_columns events ≡ own_columns s
  pub starts : log_starts events ≡ starts_of events
  pub accesses : log_accesses events ≡ s.accesses
  pub right : AreRight (own_columns s) s.accesses (found_reports (own_columns s) (starts_of events) s.accesses)

-- this holds for every run
abbrev pub RunsAreDetected : Type 0
RunsAreDetected = (p : Pipeline) (limit : ℕ) (events : List Event) (s : State) → Run p limit events s → IsDetected events s
