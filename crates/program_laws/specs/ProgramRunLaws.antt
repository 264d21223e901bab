-- Laws of the runs of whole programs.
use Rattle.std.specs.Prelude.{◌≡◌, ◌↔◌, ◌<◌, ◌++◌, true, ℕ, ℤ, List, map}
use Rattle.pipe_model.specs.declared.event.RunLog.{RunLog}
use Rattle.pipe_model.specs.Pipelines.ElisionResults.{first_trap, serial_ended_columns, serial_output, serial_trap}
use Rattle.pipe_model.specs.Language.Programs.{pipeline_of}
use Rattle.pipe_model.specs.Language.CheckingRules.{BreaksNoRule}
use Rattle.pipe_model.specs.Language.SyntaxTree.{Empty, SyntaxTree}
use Rattle.pipe_model.specs.Runs.Throttling.{IsThrottled}
use Rattle.pipe_model.specs.Language.ProgramsOfTrees.{part_of, pipeline_after_init, whole_of}
use Rattle.pipe_model.specs.declared.event.Event.{Event}
use Rattle.pipe_model.specs.Pipelines.Pipeline.{AlwaysClosesLoop, IsWellFormed, Pipeline}
use Rattle.pipe_model.specs.Runs.Run.{Run, IsFinished}
use Rattle.pipe_model.specs.Races.DeterminacyRaces.{IsRaceFree}
use Rattle.pipe_model.specs.Runs.RunLogs.{accesses_after, column_of_frame, columns_after, state_after}
use Rattle.pipe_model.specs.Pipelines.SerialElision.{serial_traces}
use Rattle.pipe_model.specs.Pipelines.Behaviour.{column_of}
use Rattle.pipe_model.specs.Runs.State.{State, own_columns, accesses_of}
use Rattle.pipe_model.specs.Pipelines.Store.{output_of, written}
use Rattle.pipe_model.specs.Pipelines.WholePrograms.{IsOneInstance, WholeProgram, program_log, loop_traces, loop_accesses, program_columns}
use Rattle.pipe_model.specs.Pipelines.WholePrograms.{program_output, program_trap}
use Rattle.pipe_model.specs.Runs.WholeProgramRuns.{ProgramRun, ProgramIsFinished, IsFinishedProgramRun, run_traces, run_output, run_trap}
use Rattle.pipe_model.specs.Runs.WholeProgramRuns.{played_output, played_trap}

-- the run has the traces, columns, output and trap of the serial elision, and the elision has no race
pub record IsSerialProgram (w : WholeProgram) (s : State) : Type 0 where
  pub traces : run_traces s ≡ loop_traces w
  pub columns : map column_of_frame s.frames ≡ program_columns w
  pub cells : (c : ℕ) → written c (accesses_of s.accesses) ≡ written c (accesses_of (loop_accesses w))
  pub output : run_output w s ≡ program_output w
  pub trap : run_trap w s ≡ program_trap w
  pub free : IsRaceFree (map column_of (loop_traces w)) (loop_accesses w)

-- a finished run of a program without a race is its serial elision
abbrev pub RaceFreeProgramRunsAreSerial : Type 0
RaceFreeProgramRunsAreSerial =
    (w : WholeProgram) (limit : ℕ) (events : List Event) (s : State) → ProgramRun w limit events s
    → AlwaysClosesLoop (w.loop.behaviour w.loop.last_iteration) → ProgramIsFinished w s
    → IsRaceFree (own_columns s) s.accesses
    → IsSerialProgram w s

-- whether a finished run has a race does not depend on the order of its events
abbrev pub ProgramRacesAreThoseOfTheElision : Type 0
ProgramRacesAreThoseOfTheElision =
    (w : WholeProgram) (limit : ℕ) (events : List Event) (s : State) → ProgramRun w limit events s
    → IsWellFormed w.loop → ProgramIsFinished w s
    → IsRaceFree (own_columns s) s.accesses ↔ IsRaceFree (map column_of (loop_traces w)) (loop_accesses w)

-- the serial elision's log is a finished run of the program, with the elision's accesses
pub record HasElisionLog (w : WholeProgram) (limit : ℕ) : Type 0 where
  pub run : IsFinishedProgramRun w limit (program_log w)
  pub accesses : accesses_after (program_log w).events ≡ loop_accesses w

abbrev pub ProgramElisionIsARun : Type 0
ProgramElisionIsARun = (w : WholeProgram) (limit : ℕ) → IsWellFormed w.loop → 0 < limit → HasElisionLog w limit

-- the run has a race exactly if the serial elision has one; if it has none, it has the columns, the output and the trap of the elision;
-- at most `limit` iterations are alive after each event
pub record MeetsElision (w : WholeProgram) (limit : ℕ) (log : RunLog) : Type 0 where
  pub races : IsRaceFree (columns_after log.events) (accesses_after log.events) ↔ IsRaceFree (map column_of (loop_traces w))
      (loop_accesses w)
  pub columns : IsRaceFree (columns_after log.events) (accesses_after log.events) → log.columns ≡ program_columns w
  pub output : IsRaceFree (columns_after log.events) (accesses_after log.events) → run_output w (state_after log.events) ≡ program_output w
  pub trap : IsRaceFree (columns_after log.events) (accesses_after log.events) → run_trap w (state_after log.events) ≡ program_trap w
  pub throttled : IsThrottled limit log.events

abbrev pub AcceptedProgramsMeetTheElision : Type 0
AcceptedProgramsMeetTheElision =
    (tree : SyntaxTree) (input : List ℤ) (limit : ℕ) (log : RunLog) → BreaksNoRule tree
    → IsFinishedProgramRun (whole_of tree input) limit log
    → MeetsElision (whole_of tree input) limit log

-- a loop without `init` has no preamble
abbrev pub NoInitNoAccesses : Type 0
NoInitNoAccesses = (tree : SyntaxTree) (input : List ℤ) → tree.init ≡ Empty → pipeline_after_init tree input ≡ pipeline_of tree input

-- a program without `init` and `final` has the output and the trap of its loop
abbrev pub LoopsAlone : Type 0
LoopsAlone =
    (tree : SyntaxTree) (input : List ℤ) → tree.init ≡ Empty → tree.last ≡ Empty
    → (program_output (whole_of tree input) ≡ serial_output (pipeline_of tree input))
    × (program_trap (whole_of tree input) ≡ serial_trap (pipeline_of tree input))

-- if `final` ran, `played_output` and `played_trap` are the output and the trap of the run
abbrev pub PlayedWhereFinalRan : Type 0
PlayedWhereFinalRan = (w : WholeProgram) (s : State) → (played_output w true s ≡ run_output w s) × (played_trap w true s ≡ run_trap w s)

-- a finished run of a pipeline without a race has the traces, columns, output and trap of its serial elision
pub record HasSerialOutcome (p : Pipeline) (s : State) : Type 0 where
  pub traces : run_traces s ≡ serial_traces p
  pub columns : map column_of_frame s.frames ≡ serial_ended_columns p
  pub output : output_of p.store (p.preamble ++ accesses_of s.accesses) ≡ serial_output p
  pub trap : first_trap 0 (run_traces s) ≡ serial_trap p

abbrev pub RaceFreeRunsHaveOutcomes : Type 0
RaceFreeRunsHaveOutcomes =
    (p : Pipeline) (limit : ℕ) (events : List Event) (s : State) → Run p limit events s
    → AlwaysClosesLoop (p.behaviour p.last_iteration) → IsFinished s
    → IsRaceFree (own_columns s) s.accesses
    → HasSerialOutcome p s

-- `init` and `final` of an accepted program are one instance each
abbrev pub PartsAreOneInstance : Type 0
PartsAreOneInstance =
    (tree : SyntaxTree) (input : List ℤ) → BreaksNoRule tree
    → IsOneInstance (part_of tree input tree.init) × IsOneInstance (part_of tree input tree.last)
