-- Laws of runs and the serial elision of a pipeline (Lee et al. 2013): a run without a determinacy race computes what the
-- serial elision computes, and whether there is a race does not depend on the order of the run.
use Rattle.std.specs.Prelude.{◌↔◌, ◌≡◌, map, ℕ, ◌++◌, List, ◌<◌}
use Rattle.pipe_model.specs.Pipelines.ElisionResults.{serial_ended_columns}
use Rattle.pipe_model.specs.Pipelines.Pipeline.{Pipeline, AlwaysClosesLoop, IsWellFormed}
use Rattle.pipe_model.specs.Races.DeterminacyRaces.{IsRaceFree}
use Rattle.pipe_model.specs.Runs.Run.{Run, IsFinished}
use Rattle.pipe_model.specs.Runs.RunLogs.{column_of_frame}
use Rattle.pipe_model.specs.Pipelines.SerialElision.{serial_columns, serial_ends, serial_accesses, serial_events}
use Rattle.pipe_model.specs.Runs.State.{State, own_columns, end_of_status, accesses_of}
use Rattle.pipe_model.specs.Pipelines.Store.{written}
use Rattle.pipe_model.specs.declared.event.Event.{Event}

-- the serial elision as a list of events is a finished run, with its columns, their ends, and its accesses
pub record HasSerialRun (p : Pipeline) (limit : ℕ) : Type 0 where
  pub state : State
  pub run : Run p limit (serial_events p) state
  pub finished : IsFinished state
  pub columns : own_columns state ≡ serial_columns p
  pub ended : map column_of_frame state.frames ≡ serial_ended_columns p
  pub accesses : state.accesses ≡ serial_accesses p

-- the serial elision is a run, for every limit of at least 1
abbrev pub SerialElisionIsARun : Type 0
SerialElisionIsARun = (p : Pipeline) (limit : ℕ) → IsWellFormed p → 0 < limit → HasSerialRun p limit

-- the run has the columns and ends of the serial elision, and writes to each cell the same values in the same order;
-- and the serial elision has no race
pub record IsSerial (p : Pipeline) (s : State) : Type 0 where
  pub columns : own_columns s ≡ serial_columns p
  pub ends : map (λ f. end_of_status f.status) s.frames ≡ serial_ends p
  pub cells : (c : ℕ)
      → written c (p.preamble ++ accesses_of s.accesses) ≡ written c (p.preamble ++ accesses_of (serial_accesses p))
  pub free : IsRaceFree (serial_columns p) (serial_accesses p)

-- a finished run without a race is the serial elision
abbrev pub RaceFreeRunsAreSerial : Type 0
RaceFreeRunsAreSerial =
    (p : Pipeline) (limit : ℕ) (events : List Event) (s : State) → Run p limit events s
    → AlwaysClosesLoop (p.behaviour p.last_iteration) → IsFinished s
    → IsRaceFree (own_columns s) s.accesses
    → IsSerial p s

-- if the serial elision has no race, no run has one, finished or not
abbrev pub RaceFreeElisionsHaveRaceFreeRuns : Type 0
RaceFreeElisionsHaveRaceFreeRuns =
    (p : Pipeline) (limit : ℕ) (events : List Event) (s : State) → Run p limit events s
    → IsWellFormed p
    → IsRaceFree (serial_columns p) (serial_accesses p)
    → IsRaceFree (own_columns s) s.accesses

-- a finished run has no race exactly when the serial elision has none
abbrev pub RacesAreThoseOfTheElision : Type 0
RacesAreThoseOfTheElision =
    (p : Pipeline) (limit : ℕ) (events : List Event) (s : State) → Run p limit events s
    → IsWellFormed p → IsFinished s
    → IsRaceFree (own_columns s) s.accesses ↔ IsRaceFree (serial_columns p) (serial_accesses p)
