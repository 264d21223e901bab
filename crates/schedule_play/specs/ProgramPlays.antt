-- Programs that were played by a schedule: `init`, the loop, `final`.
use Rattle.std.specs.Prelude.{◌≡◌, ◌≢◌, ◌↔◌, ◌+◌, ◌*◌, ◌≤◌, ◌++◌, [], ℕ, ℤ, List, IsTrue, length, is_some}
use Rattle.pipe_model.specs.declared.event.Event.{Event}
use Rattle.pipe_model.specs.Language.Programs.{natural}
use Rattle.pipe_model.specs.Language.ProgramsOfTrees.{pipeline_after_init, whole_of}
use Rattle.pipe_model.specs.Language.SyntaxTree.{SyntaxTree}
use Rattle.pipe_model.specs.Orders.Starts.{starts_of}
use Rattle.pipe_model.specs.Pipelines.SerialElision.{unless}
use Rattle.pipe_model.specs.Pipelines.WholePrograms.{WholeProgram, init_trap, program_columns, program_output, program_trap}
use Rattle.pipe_model.specs.Races.Reports.{AreRight}
use Rattle.pipe_model.specs.Runs.RunLogs.{accesses_after, columns_after, ended_columns_after, state_after}
use Rattle.pipe_model.specs.Runs.Schedules.{candidates, played, running_instances}
use Rattle.pipe_model.specs.Runs.State.{State}
use Rattle.pipe_model.specs.Runs.Throttling.{IsThrottled}
use Rattle.pipe_model.specs.Runs.WholeProgramRuns.{ProgramIsFinished, ProgramRun, played_output, played_trap}
use Rattle.program_ends.specs.ProgramEnds.{reaches_final}
use Rattle.program_laws.specs.ProgramHeadline.{HasNoProgramRace}
use Rattle.schedule_laws.specs.StartCounts.{most_instances}
use Rattle.race_detection.specs.FoundReports.{found_reports}
use Rattle.schedule_play.specs.declared.loop_play.LoopPlay.{LoopPlay}
use Rattle.schedule_play.specs.declared.loop_play.PlayLimits.{PlayLimits}
use Rattle.schedule_play.specs.declared.program_play.Played.{Played}

-- the events of the loop are those that the choices make; there are none if `init` trapped
abbrev pub played_events : SyntaxTree → List ℤ → ℕ → ℕ → List ℕ → ℕ → List Event
played_events tree input workers throttle choices turns =
    unless (is_some (init_trap (whole_of tree input))) (played (pipeline_after_init tree input) throttle workers choices turns)

-- the events are a run of the program; after each event at most `workers` instances run and at most `throttle` iterations are alive; the
-- columns are those of the events; `finished` says whether the run is finished, and otherwise all turns were taken
pub record IsPlayedLog (tree : SyntaxTree) (input : List ℤ) (limits : PlayLimits) (choices : List ℕ) (r : Played) : Type 0 where
  pub events : r.run_log.events ≡ played_events tree input limits.workers limits.throttle choices limits.turns
  pub run : ProgramRun (whole_of tree input) limits.throttle r.run_log.events (state_after r.run_log.events)
  pub columns : r.run_log.columns ≡ ended_columns_after r.run_log.events
  pub workers : (before after : List Event) → r.run_log.events ≡ before ++ after → running_instances (state_after before) ≤ limits.workers
  pub throttled : IsThrottled limits.throttle r.run_log.events
  pub finished : IsTrue r.finished ↔ ProgramIsFinished (whole_of tree input) (state_after r.run_log.events)
  pub turns : (IsTrue r.finished → ⊥) → length r.run_log.events ≡ limits.turns

-- the reports are the first races that the histories of the run find, and right for its own dag
pub record HasFoundReports (r : Played) : Type 0 where
  pub found : r.reports ≡ found_reports (columns_after r.run_log.events) (starts_of r.run_log.events) (accesses_after r.run_log.events)
  pub right : AreRight (columns_after r.run_log.events) (accesses_after r.run_log.events) r.reports

-- the output and the trap are those of `init`, of a run with this state and, if it ran, of `final`
pub record HasPlayedResults (w : WholeProgram) (s : State) (r : Played) : Type 0 where
  pub output : r.output ≡ played_output w (reaches_final r.finished r.reports) s
  pub trap : r.trap ≡ played_trap w (reaches_final r.finished r.reports) s

pub record IsPlayed (tree : SyntaxTree) (input : List ℤ) (limits : PlayLimits) (choices : List ℕ) (r : Played) : Type 0 where
  pub log : IsPlayedLog tree input limits choices r
  pub reports : HasFoundReports r
  pub results : HasPlayedResults (whole_of tree input) (state_after r.run_log.events) r

-- a finished play has a report exactly if the program's serial elision has a race, and otherwise the elision's columns, output and trap
pub record HasElisionResults (w : WholeProgram) (r : Played) : Type 0 where
  pub silent : (r.reports ≡ []) ↔ HasNoProgramRace w
  pub columns : r.reports ≡ [] → r.run_log.columns ≡ program_columns w
  pub output : r.reports ≡ [] → r.output ≡ program_output w
  pub trap : r.reports ≡ [] → r.trap ≡ program_trap w

-- this number of turns is enough for every schedule: two events a step and two more for each instance
abbrev pub enough_turns : SyntaxTree → ℕ
enough_turns tree = most_instances tree * (2 * natural tree.limits.steps + 2)

-- what holds of the play of an accepted program
pub record MeetsPlayGuarantees (tree : SyntaxTree) (input : List ℤ) (limits : PlayLimits) (r : Played) : Type 0 where
  pub elision : IsTrue r.finished → HasElisionResults (whole_of tree input) r
  pub enough : enough_turns tree ≤ limits.turns → IsTrue r.finished
  pub goes_on : (before after : List Event) → r.run_log.events ≡ before ++ after
      → (ProgramIsFinished (whole_of tree input) (state_after before) → ⊥)
      → candidates (pipeline_after_init tree input) limits.throttle limits.workers (state_after before) ≢ []
  pub bounded : length r.run_log.events ≤ enough_turns tree
  pub instances : length (starts_of r.run_log.events) ≤ most_instances tree

-- the program was played to this result after its loop was played
pub record IsEndOfLoop (w : WholeProgram) (play : LoopPlay) (r : Played) : Type 0 where
  pub log : r.run_log ≡ play.run_log
  pub reports : r.reports ≡ play.reports
  pub finished : r.finished ≡ play.finished
  pub results : HasPlayedResults w (state_after play.run_log.events) r
