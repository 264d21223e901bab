-- Laws of the access histories of a run (Xu, Lee, Agrawal 2018): three kept instances per cell are enough to find its
-- first race.
use Rattle.std.specs.Prelude.{ℕ, List, None, ◌≡◌, ◌↔◌, ◌<◌}
use Rattle.pipe_model.specs.Races.CellRaces.{accesses_to}
use Rattle.pipe_model.specs.Orders.HistoryRaces.{IsRightVerdict, found_race_of_cell}
use Rattle.pipe_model.specs.Orders.HistoryReports.{reports_below}
use Rattle.pipe_model.specs.Pipelines.Pipeline.{Pipeline, AlwaysClosesLoop, IsWellFormed}
use Rattle.pipe_model.specs.Races.DeterminacyRaces.{IsRaceFree, Among}
use Rattle.pipe_model.specs.Races.Reports.{AreRight}
use Rattle.pipe_model.specs.Runs.Run.{Run, IsFinished}
use Rattle.pipe_model.specs.Pipelines.SerialElision.{serial_columns, serial_accesses}
use Rattle.pipe_model.specs.Orders.Starts.{starts_of}
use Rattle.pipe_model.specs.Runs.State.{State, own_columns}
use Rattle.pipe_model.specs.declared.access.NodeAccess.{NodeAccess}
use Rattle.pipe_model.specs.declared.event.Event.{Event}
use Rattle.run_laws.specs.SerialLaws.{IsSerial}

-- what the history of a cell finds is its first race
abbrev pub HistoriesFindTheFirstRace : Type 0
HistoriesFindTheFirstRace =
    (p : Pipeline) (limit : ℕ) (events : List Event) (s : State) → Run p limit events s
    → (cell : ℕ)
    → IsRightVerdict (own_columns s) (accesses_to cell s.accesses)
    (found_race_of_cell (own_columns s) (starts_of events) s.accesses cell)

-- the histories of all cells find nothing exactly when there is no race
abbrev pub HistoriesDecideRaces : Type 0
HistoriesDecideRaces =
    (p : Pipeline) (limit : ℕ) (events : List Event) (s : State) → Run p limit events s
    → ((cell : ℕ) → found_race_of_cell (own_columns s) (starts_of events) s.accesses cell ≡ None)
    ↔ IsRaceFree (own_columns s) s.accesses

-- the reports of the first races of all cells are right, if `cells` is greater than the number of each cell that is accessed
abbrev pub ReportsAreRight : Type 0
ReportsAreRight =
    (p : Pipeline) (limit : ℕ) (events : List Event) (s : State) (cells : ℕ) → Run p limit events s
    → ((a : NodeAccess) → Among a s.accesses → a.access.cell.0 < cells)
    → AreRight (own_columns s) s.accesses (reports_below (own_columns s) (starts_of events) s.accesses cells)

-- a finished run in which the histories find nothing is the serial elision
abbrev pub NothingFoundIsSerial : Type 0
NothingFoundIsSerial =
    (p : Pipeline) (limit : ℕ) (events : List Event) (s : State) → Run p limit events s
    → AlwaysClosesLoop (p.behaviour p.last_iteration) → IsFinished s
    → ((cell : ℕ) → found_race_of_cell (own_columns s) (starts_of events) s.accesses cell ≡ None)
    → IsSerial p s

-- if the serial elision has no race, the histories of no run find one
abbrev pub RaceFreeElisionsFindNothing : Type 0
RaceFreeElisionsFindNothing =
    (p : Pipeline) (limit : ℕ) (events : List Event) (s : State) → Run p limit events s
    → IsWellFormed p
    → IsRaceFree (serial_columns p) (serial_accesses p)
    → (cell : ℕ) → found_race_of_cell (own_columns s) (starts_of events) s.accesses cell ≡ None
