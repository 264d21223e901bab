-- Whole programs: `init`, a loop, and `final`; and their serial elision. The output and the trap of a program are defined by the traces and
-- the accesses of its loop, so one definition serves the elision and every run.
use Rattle.std.specs.Prelude.{ℤ, List, [], ◌++◌, Option, Some, None, map, is_some}
use Rattle.pipe_model.specs.declared.access.Access.{Access}
use Rattle.pipe_model.specs.declared.access.NodeAccess.{NodeAccess}
use Rattle.pipe_model.specs.declared.column.Column.{Column}
use Rattle.pipe_model.specs.declared.column.ColumnEnd.{ColumnEnd}
use Rattle.pipe_model.specs.declared.column.ColumnEnd.TheVariants as ends
use Rattle.pipe_model.specs.declared.event.RunLog.{RunLog}
use Rattle.pipe_model.specs.declared.trap.TrapAt.{TrapAt}
use Rattle.pipe_model.specs.declared.trap.TrapPlace.{TrapPlace}
use Rattle.pipe_model.specs.declared.trap.TrapPlace.TheVariants.{Init, Last}
use Rattle.pipe_model.specs.Pipelines.Behaviour.{Behaviour, Reading, Writing, Staging, Ending, Action, accesses_in, trace_end}
use Rattle.pipe_model.specs.Pipelines.ElisionResults.{ended_column, first_of_both, first_trap}
use Rattle.pipe_model.specs.Pipelines.Pipeline.{Pipeline}
use Rattle.pipe_model.specs.Pipelines.SerialElision.{serial_trace, serial_traces, located_from, trace_events_from, unless}
use Rattle.pipe_model.specs.Runs.State.{accesses_of}
use Rattle.pipe_model.specs.Pipelines.Store.{output_of}

-- the loop is a pipeline without a preamble: `loop_after_init` puts the accesses of `init` there
pub record WholeProgram : Type 0 where
  pub init : Behaviour
  pub loop : Pipeline
  pub last : Behaviour

-- whatever is read, no next stage is named
abbrev pub IsOneInstance : Behaviour → Type 0
IsOneInstance (Reading c go) = (v : ℤ) → IsOneInstance (go v)
IsOneInstance (Writing c v d) = IsOneInstance d
IsOneInstance (Staging k n d) = ⊥
IsOneInstance (Ending e) = Unit {0}

-- the trap of `init` or `final`, by its end
abbrev pub part_trap : TrapPlace → Option ColumnEnd → Option TrapAt
part_trap place None = None
part_trap place (Some ends.End) = None
part_trap place (Some ends.Closed) = None
part_trap place (Some (ends.Trapped t)) = Some (record { place = place; trap = t })

-- ---- `init`

abbrev pub init_trace : WholeProgram → List Action
init_trace w = serial_trace w.loop.store w.init []

abbrev pub init_accesses : WholeProgram → List Access
init_accesses w = accesses_in (init_trace w)

abbrev pub init_trap : WholeProgram → Option TrapAt
init_trap w = part_trap Init (trace_end (init_trace w))

-- the loop, preceded by the accesses of `init`
abbrev pub loop_after_init : WholeProgram → Pipeline
loop_after_init w = record w.loop { preamble = init_accesses w }

-- ---- output and trap of a program, by the traces of its loop, and the loop's accesses in the order in which they were made

-- the trap of `init`, or else of the least iteration that trapped
abbrev pub trap_before_final : WholeProgram → List (List Action) → Option TrapAt
trap_before_final w traces = first_of_both (init_trap w) (first_trap 0 traces)

-- the trace of `final`, which does not run after a trap
abbrev pub final_trace : WholeProgram → List (List Action) → List Access → List Action
final_trace w traces accesses = unless (is_some (trap_before_final w traces))
    (serial_trace w.loop.store w.last (init_accesses w ++ accesses))

-- the output of `init`, the loop and `final`
abbrev pub output_with : WholeProgram → List (List Action) → List Access → List ℤ
output_with w traces accesses = output_of w.loop.store (init_accesses w ++ (accesses ++ accesses_in (final_trace w traces accesses)))

-- the trap of `init`, or else of the least iteration that trapped, or else of `final`
abbrev pub trap_with : WholeProgram → List (List Action) → List Access → Option TrapAt
trap_with w traces accesses = first_of_both (trap_before_final w traces) (part_trap Last (trace_end (final_trace w traces accesses)))

-- ---- the serial elision: `init`, the iterations one after the other, `final`

-- the traces of the loop; none if `init` trapped
abbrev pub loop_traces : WholeProgram → List (List Action)
loop_traces w = unless (is_some (init_trap w)) (serial_traces (loop_after_init w))

abbrev pub loop_accesses : WholeProgram → List NodeAccess
loop_accesses w = located_from 0 (loop_traces w)

abbrev pub program_columns : WholeProgram → List Column
program_columns w = map ended_column (loop_traces w)

abbrev pub program_output : WholeProgram → List ℤ
program_output w = output_with w (loop_traces w) (accesses_of (loop_accesses w))

abbrev pub program_trap : WholeProgram → Option TrapAt
program_trap w = trap_with w (loop_traces w) (accesses_of (loop_accesses w))

-- the serial elision of the loop as a log
abbrev pub program_log : WholeProgram → RunLog
program_log w = record { columns = program_columns w; events = trace_events_from 0 (loop_traces w) }
