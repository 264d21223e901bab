-- The traps of iterations, by their columns.
use Rattle.std.specs.Prelude.{◌≡◌, ◌-◌, ◌+◌, ◌∷◌, [], ℕ, List, length, map, Option, None}
use Rattle.pipe_model.specs.declared.column.Column.{Column}
use Rattle.pipe_model.specs.declared.event.Event.{Event}
use Rattle.pipe_model.specs.declared.trap.TrapAt.{TrapAt}
use Rattle.pipe_model.specs.declared.trap.TrapPlace.{TrapPlace}
use Rattle.pipe_model.specs.declared.trap.TrapPlace.TheVariants.{At}
use Rattle.pipe_model.specs.Pipelines.ElisionResults.{first_of_both, first_trap}
use Rattle.pipe_model.specs.Pipelines.Pipeline.{Pipeline}
use Rattle.pipe_model.specs.Pipelines.WholePrograms.{part_trap}
use Rattle.pipe_model.specs.Races.Columns.{at, node_at}
use Rattle.pipe_model.specs.Runs.Run.{Run}
use Rattle.pipe_model.specs.Runs.RunLogs.{column_of_frame}
use Rattle.pipe_model.specs.Runs.State.{State}
use Rattle.pipe_model.specs.Runs.WholeProgramRuns.{run_traces}

-- where the last instance of column i is
abbrev pub last_place : ℕ → Column → TrapPlace
last_place i column = At (at i (length column.nodes - 1)) (node_at column.nodes (length column.nodes - 1)).number

-- the trap of iteration i, if its column ends with one
abbrev pub column_trap : ℕ → Column → Option TrapAt
column_trap i column = part_trap (last_place i column) column.end

-- the trap of the least iteration that trapped, from iteration i on
abbrev pub least_trap : ℕ → List Column → Option TrapAt
least_trap i [] = None
least_trap i (column ∷ rest) = first_of_both (column_trap i column) (least_trap (i + 1) rest)

-- the columns of a run show the trap of the least iteration that trapped
abbrev pub RunTrapsAreThoseOfColumns : Type 0
RunTrapsAreThoseOfColumns =
    (p : Pipeline) (limit : ℕ) (events : List Event) (s : State) → Run p limit events s
    → first_trap 0 (run_traces s) ≡ least_trap 0 (map column_of_frame s.frames)
