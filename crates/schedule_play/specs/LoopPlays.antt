-- Loops that were played by a schedule.
use Rattle.std.specs.Prelude.{◌≡◌, ◌↔◌, ◌≤◌, ◌++◌, ℕ, ℤ, List, IsTrue, length}
use Rattle.cell_store.specs.ShardState.{IsStateAfter}
use Rattle.pipe_model.specs.declared.event.Event.{Event}
use Rattle.pipe_model.specs.Language.Programs.{store_of}
use Rattle.pipe_model.specs.Language.ProgramsOfTrees.{pipeline_after_init, whole_of}
use Rattle.pipe_model.specs.Language.SyntaxTree.{SyntaxTree}
use Rattle.pipe_model.specs.Orders.Starts.{starts_of}
use Rattle.pipe_model.specs.Pipelines.WholePrograms.{init_accesses}
use Rattle.pipe_model.specs.Races.Reports.{AreRight}
use Rattle.pipe_model.specs.Runs.Run.{IsFinished, Run}
use Rattle.pipe_model.specs.Runs.RunLogs.{accesses_after, columns_after, ended_columns_after, state_after}
use Rattle.pipe_model.specs.Runs.Schedules.{played, running_instances}
use Rattle.pipe_model.specs.Runs.State.{accesses_of}
use Rattle.pipe_model.specs.Runs.Throttling.{IsThrottled}
use Rattle.race_detection.specs.FoundReports.{found_reports}
use Rattle.schedule_play.specs.declared.loop_play.LoopPlay.{LoopPlay}
use Rattle.schedule_play.specs.declared.loop_play.PlayLimits.{PlayLimits}
use Rattle.schedule_play.specs.OneAccess.{HasAllCells}
use Rattle.schedule_play.specs.PlayStates.{PlayState, run_state}

-- the result of a player after its last event
pub record IsEndOf (v : PlayState) (r : LoopPlay) : Type 0 where
  pub events : r.run_log.events ≡ v.events
  pub columns : r.run_log.columns ≡ ended_columns_after v.events
  pub reports : r.reports ≡ found_reports (columns_after v.events) (starts_of v.events) (accesses_after v.events)
  pub finished : IsTrue r.finished ↔ IsFinished (run_state v)
  pub cells : r.cells ≡ v.cells

-- the events are those that the choices make, and a run; after each event at most `workers` instances run and at most `throttle` iterations
-- are alive; the columns are those of the events
pub record IsScheduledRun (tree : SyntaxTree) (input : List ℤ) (limits : PlayLimits) (choices : List ℕ) (r : LoopPlay) : Type 0 where
  pub events : r.run_log.events ≡ played (pipeline_after_init tree input) limits.throttle limits.workers choices limits.turns
  pub run : Run (pipeline_after_init tree input) limits.throttle r.run_log.events (state_after r.run_log.events)
  pub workers : (before after : List Event) → r.run_log.events ≡ before ++ after → running_instances (state_after before) ≤ limits.workers
  pub throttled : IsThrottled limits.throttle r.run_log.events
  pub columns : r.run_log.columns ≡ ended_columns_after r.run_log.events

-- the loop was played: `finished` says whether the run is finished, and otherwise all turns were taken; the reports are the first races
-- that the histories of the run find, and right for its own dag; the cells, all in one shard, are those after `init` and the run
pub record IsLoopPlay (tree : SyntaxTree) (input : List ℤ) (limits : PlayLimits) (choices : List ℕ) (r : LoopPlay) : Type 0 where
  pub scheduled : IsScheduledRun tree input limits choices r
  pub finished : IsTrue r.finished ↔ IsFinished (state_after r.run_log.events)
  pub turns : (IsTrue r.finished → ⊥) → length r.run_log.events ≡ limits.turns
  pub reports : r.reports ≡ found_reports (columns_after r.run_log.events) (starts_of r.run_log.events) (accesses_after r.run_log.events)
  pub right : AreRight (columns_after r.run_log.events) (accesses_after r.run_log.events) r.reports
  pub state : IsStateAfter (store_of tree) (init_accesses (whole_of tree input) ++ accesses_of (accesses_after r.run_log.events)) r.cells
  pub all : HasAllCells r.cells
