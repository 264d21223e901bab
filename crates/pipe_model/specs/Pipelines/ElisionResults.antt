-- The results of the serial elision: its output, its trap, and its columns with their ends.
use Rattle.std.specs.Prelude.{ℕ, ℤ, List, [], ◌∷◌, ◌++◌, Option, Some, None, ◌+◌, length, map}
use Rattle.pipe_model.specs.declared.column.Column.{Column}
use Rattle.pipe_model.specs.declared.column.ColumnEnd.{ColumnEnd}
use Rattle.pipe_model.specs.declared.column.ColumnEnd.TheVariants as ends
use Rattle.pipe_model.specs.declared.trap.TrapAt.{TrapAt}
use Rattle.pipe_model.specs.declared.trap.TrapPlace.TheVariants.{At}
use Rattle.pipe_model.specs.Pipelines.Behaviour.{Action, nodes_in, column_of, trace_end}
use Rattle.pipe_model.specs.Races.Columns.{node_at, at}
use Rattle.pipe_model.specs.Pipelines.Pipeline.{Pipeline}
use Rattle.pipe_model.specs.Pipelines.SerialElision.{serial_traces, serial_accesses}
use Rattle.pipe_model.specs.Runs.State.{accesses_of}
use Rattle.pipe_model.specs.Pipelines.Store.{output_of}

abbrev pub serial_output : Pipeline → List ℤ
serial_output p = output_of p.store (p.preamble ++ accesses_of (serial_accesses p))

-- the trap of iteration i, in its last instance, if it ends with one
abbrev pub trap_at_end : ℕ → List Action → Option ColumnEnd → Option TrapAt
trap_at_end i trace None = None
trap_at_end i trace (Some ends.End) = None
trap_at_end i trace (Some ends.Closed) = None
trap_at_end i trace (Some (ends.Trapped t)) =
    Some (record { place = At (at i (length (nodes_in trace))) (node_at (column_of trace) (length (nodes_in trace))).number; trap = t })

-- the first, or else the second
abbrev pub first_of_both : Option TrapAt → Option TrapAt → Option TrapAt
first_of_both None other = other
first_of_both (Some t) other = Some t

-- the trap of the least iteration that trapped, from iteration i on
abbrev pub first_trap : ℕ → List (List Action) → Option TrapAt
first_trap i [] = None
first_trap i (trace ∷ rest) = first_of_both (trap_at_end i trace (trace_end trace)) (first_trap (i + 1) rest)

abbrev pub serial_trap : Pipeline → Option TrapAt
serial_trap p = first_trap 0 (serial_traces p)

-- an iteration's column with its end
abbrev pub ended_column : List Action → Column
ended_column trace = record { nodes = column_of trace; end = trace_end trace }

-- the columns of the serial elision with their ends
abbrev pub serial_ended_columns : Pipeline → List Column
serial_ended_columns p = map ended_column (serial_traces p)
