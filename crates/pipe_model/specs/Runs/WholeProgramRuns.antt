-- Runs of whole programs: which logs are runs, when a run is finished, and the output and the trap after a run.
use Rattle.std.specs.Prelude.{◌≡◌, ℕ, ℤ, List, [], ◌++◌, Bool, true, false, not, Option, map, is_some}
use Rattle.pipe_model.specs.declared.event.Event.{Event}
use Rattle.pipe_model.specs.declared.event.RunLog.{RunLog}
use Rattle.pipe_model.specs.declared.trap.TrapAt.{TrapAt}
use Rattle.pipe_model.specs.declared.trap.TrapPlace.TheVariants.{Last}
use Rattle.pipe_model.specs.Pipelines.Behaviour.{Action, accesses_in, trace_end}
use Rattle.pipe_model.specs.Pipelines.ElisionResults.{first_of_both}
use Rattle.pipe_model.specs.Runs.Run.{Run, IsFinished}
use Rattle.pipe_model.specs.Runs.RunLogs.{ended_columns_after, state_after}
use Rattle.pipe_model.specs.Pipelines.SerialElision.{unless}
use Rattle.pipe_model.specs.Runs.State.{State, initial_state, accesses_of}
use Rattle.pipe_model.specs.Pipelines.Store.{output_of}
use Rattle.pipe_model.specs.Pipelines.WholePrograms.{WholeProgram, final_trace, init_accesses, init_trap, loop_after_init, output_with}
use Rattle.pipe_model.specs.Pipelines.WholePrograms.{part_trap, trap_before_final, trap_with}

-- the events are a run of the program's loop after `init`; if `init` trapped, the empty list is the only run
pub data ProgramRun (w : WholeProgram) (limit : ℕ) : List Event → State → Type 0 where
  NoLoop : is_some (init_trap w) ≡ true → ProgramRun w limit [] initial_state
  OfLoop : {events : List Event} {s : State} → is_some (init_trap w) ≡ false → Run (loop_after_init w) limit events s
      → ProgramRun w limit events s

-- `init` trapped, or the loop is closed and all iterations have ended
pub data ProgramIsFinished (w : WholeProgram) (s : State) : Type 0 where
  WithoutLoop : is_some (init_trap w) ≡ true → ProgramIsFinished w s
  WithLoop : is_some (init_trap w) ≡ false → IsFinished s → ProgramIsFinished w s

-- the log records a finished run of the program
pub record IsFinishedProgramRun (w : WholeProgram) (limit : ℕ) (log : RunLog) : Type 0 where
  pub run : ProgramRun w limit log.events (state_after log.events)
  pub finished : ProgramIsFinished w (state_after log.events)
  pub columns : log.columns ≡ ended_columns_after log.events

abbrev pub run_traces : State → List (List Action)
run_traces s = map (λ f. f.trace) s.frames

-- the output after a finished run, by the run's own accesses
abbrev pub run_output : WholeProgram → State → List ℤ
run_output w s = output_with w (run_traces s) (accesses_of s.accesses)

-- the trap after a finished run, by the run's own traces
abbrev pub run_trap : WholeProgram → State → Option TrapAt
run_trap w s = trap_with w (run_traces s) (accesses_of s.accesses)

-- ---- runs that may be unfinished or racy; `ran` says whether `final` ran after the run

abbrev pub played_final_trace : WholeProgram → Bool → State → List Action
played_final_trace w ran s = unless (not ran) (final_trace w (run_traces s) (accesses_of s.accesses))

abbrev pub played_output : WholeProgram → Bool → State → List ℤ
played_output w ran s = output_of w.loop.store (init_accesses w ++ (accesses_of s.accesses ++ accesses_in (played_final_trace w ran s)))

abbrev pub played_trap : WholeProgram → Bool → State → Option TrapAt
played_trap w ran s = first_of_both (trap_before_final w (run_traces s)) (part_trap Last (trace_end (played_final_trace w ran s)))
