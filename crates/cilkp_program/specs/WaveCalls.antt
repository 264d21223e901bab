-- What a `wave` call guarantees for a wave loop and its input: the headline, with the loop's grid in the place of the serial elision.
use Rattle.std.specs.Prelude.{◌≡◌, ◌≢◌, ◌≤◌, ◌↔◌, ◌++◌, ℕ, ℤ, List, [], length, Option, Some, None}
use Rattle.pipe_model.specs.declared.event.RunLog.{RunLog}
use Rattle.pipe_model.specs.declared.report.Report.{Report}
use Rattle.pipe_model.specs.Language.ProgramsOfTrees.{whole_of}
use Rattle.pipe_model.specs.Language.SyntaxTree.{SyntaxTree}
use Rattle.pipe_model.specs.Races.DeterminacyRaces.{IsRaceFree}
use Rattle.pipe_model.specs.Races.Reports.{AreRight}
use Rattle.pipe_model.specs.Runs.RunLogs.{accesses_after, columns_after}
use Rattle.pipe_model.specs.Runs.Throttling.{IsThrottled}
use Rattle.pipe_model.specs.Runs.WholeProgramRuns.{IsFinishedProgramRun}
use Rattle.pipe_model.specs.Texts.{output_lines, trap_lines}
use Rattle.race_report.specs.CellNames.{race_lines}
use Rattle.wave_laws.specs.Waves.GridResults.{grid_accesses, grid_nodes, grid_output, grid_trap}
use Rattle.wave_laws.specs.Waves.LoweredLoops.{lowered}
use Rattle.wave_laws.specs.Waves.WaveLoops.{IsWave}
use Rattle.pipe_io.specs.Reads.{Content}
use Rattle.pipe_model.specs.declared.exit_status.TheConstants as statuses
use Rattle.command_results.specs.Headline.{IsRunStatus}
use Rattle.command_results.specs.ProgramFiles.{IsInputOf, IsSourceOf}
use Rattle.command_results.specs.TakenText.{HasTaken}
use Rattle.cilkp_words.specs.Commands.{Command, Wave}

-- the command is `wave` with a source that is accepted as a wave loop, an input of these numbers, any number of workers, and a throttling
-- limit of at most `limit`
pub record IsToRunWave (asked : Option Command) (content : Content) (tree : SyntaxTree) (numbers : List ℤ) (limit : ℕ) : Type 0 where
  pub source : List ℕ
  pub input : List ℕ
  pub workers : ℕ
  pub throttle : ℕ
  pub command : asked ≡ Some (Wave source input workers throttle)
  pub within : throttle ≤ limit
  pub program : IsSourceOf (content source) tree
  pub read : IsInputOf (content input) numbers
  pub wave : IsWave tree

abbrev pub GridHasNoRace : SyntaxTree → List ℤ → Type 0
GridHasNoRace tree input = IsRaceFree (grid_nodes tree input) (grid_accesses tree input)

-- the reports, the status and the text of a call agree with the grid of the wave loop on its input
pub record AgreesWithGrid (tree : SyntaxTree) (input : List ℤ) (reports : List Report) (status : ℕ) (text : List ℕ) : Type 0 where
  -- no cell is reported exactly if the dag of the grid has no race
  pub silent : (reports ≡ []) ↔ GridHasNoRace tree input
  -- the status is 2 exactly if the dag of the grid has a race, and then the races are printed
  pub racy : (status ≡ statuses.RACES) ↔ (GridHasNoRace tree input → ⊥)
  pub races : status ≡ statuses.RACES → text ≡ race_lines tree.cells reports
  -- otherwise the output and the trap of the grid are printed, with status 3 exactly if it has a trap, and status 0 exactly if not
  pub otherwise : GridHasNoRace tree input → text ≡ output_lines (grid_output tree input) ++ trap_lines (grid_trap tree input)
  pub trapped : (status ≡ statuses.TRAPPED) ↔ (GridHasNoRace tree input × (grid_trap tree input ≢ None))
  pub untrapped : (status ≡ statuses.FINISHED) ↔ (GridHasNoRace tree input × (grid_trap tree input ≡ None))

-- the call returned the log of a finished run of the lowered program under the throttling limit, and its text was written completely
pub record ReturnsGrid (tree : SyntaxTree) (numbers : List ℤ) (limit status written : ℕ) (run_log : Option RunLog) (reports : List Report)
    (taken_before taken_now : Option (List ℕ)) : Type 0 where
  pub log : RunLog
  pub logged : run_log ≡ Some log
  pub text : List ℕ
  pub whole : written ≡ length text
  pub taken : HasTaken written text taken_before taken_now
  pub complete : IsRunStatus status
  -- the log records a finished run, with the run's own columns
  pub run : IsFinishedProgramRun (whole_of (lowered tree) numbers) limit log
  -- a cell has a report exactly if two conflicting accesses to it are parallel in the run's own dag; it has at most one, and the reports
  -- rise by cell
  pub reported : AreRight (columns_after log.events) (accesses_after log.events) reports
  -- whether races are reported, and what is printed, is as the grid says
  pub agrees : AgreesWithGrid tree numbers reports status text
  -- at most the throttling limit of iterations are alive at any event
  pub throttled : IsThrottled limit log.events
