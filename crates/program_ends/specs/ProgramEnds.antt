-- How programs end: after `init` if it trapped, and otherwise after the loop or after `final`.
use Rattle.std.specs.Prelude.{◌≡◌, ◌↔◌, ◌==◌, ◌&&◌, ◌++◌, ℕ, ℤ, [], List, Bool, true, length}
use Rattle.cell_store.specs.ShardState.{IsStateAfter, ShardState}
use Rattle.pipe_model.specs.declared.column.Column.{Column}
use Rattle.pipe_model.specs.declared.event.Event.{Event}
use Rattle.pipe_model.specs.declared.event.RunLog.{RunLog}
use Rattle.pipe_model.specs.declared.report.Report.{Report}
use Rattle.pipe_model.specs.Language.CheckingRules.{BreaksNoRule}
use Rattle.pipe_model.specs.Language.Programs.{store_of}
use Rattle.pipe_model.specs.Language.ProgramsOfTrees.{pipeline_after_init, whole_of}
use Rattle.pipe_model.specs.Language.SyntaxTree.{SyntaxTree}
use Rattle.pipe_model.specs.Pipelines.WholePrograms.{WholeProgram, init_accesses, program_columns, program_output, program_trap}
use Rattle.pipe_model.specs.Races.Reports.{AreRight}
use Rattle.pipe_model.specs.Runs.Run.{Run}
use Rattle.pipe_model.specs.Runs.RunLogs.{accesses_after, columns_after, ended_columns_after, state_after}
use Rattle.pipe_model.specs.Runs.State.{State, accesses_of}
use Rattle.pipe_model.specs.Runs.WholeProgramRuns.{IsFinishedProgramRun, played_output, played_trap}
use Rattle.program_laws.specs.ProgramHeadline.{HasNoProgramRace}
use Rattle.program_ends.specs.declared.ends.ProgramResults.{ProgramResults}

-- `final` runs exactly after a finished run without a report and, as `played_output` and `played_trap` say, without a trap
abbrev pub reaches_final : Bool → List Report → Bool
reaches_final finished reports = finished && (length reports == 0)

-- the columns and the cells are those after `init`, which did not trap, and a run of the loop with these events
pub record IsAfterLoop (tree : SyntaxTree) (input : List ℤ) (limit : ℕ) (events : List Event) (columns : List Column)
    (cells : ShardState) : Type 0 where
  pub run : Run (pipeline_after_init tree input) limit events (state_after events)
  pub columns_are : columns ≡ ended_columns_after events
  pub state : IsStateAfter (store_of tree) (init_accesses (whole_of tree input) ++ accesses_of (accesses_after events)) cells

-- the output and the trap are those of `init`, of a run with this state and, if it ran, of `final`
pub record HasResults (w : WholeProgram) (ran : Bool) (s : State) (r : ProgramResults) : Type 0 where
  pub output : r.output ≡ played_output w ran s
  pub trap : r.trap ≡ played_trap w ran s

-- a finished run with these reports and results has a report exactly if the program's serial elision has a race, and otherwise the
-- elision's columns, output and trap
pub record EndsAsElision (w : WholeProgram) (log : RunLog) (reports : List Report) (r : ProgramResults) : Type 0 where
  pub silent : (reports ≡ []) ↔ HasNoProgramRace w
  pub columns : reports ≡ [] → log.columns ≡ program_columns w
  pub output : reports ≡ [] → r.output ≡ program_output w
  pub trap : reports ≡ [] → r.trap ≡ program_trap w

-- so does each finished run of an accepted program, if its reports are right
abbrev pub FinishedRunsAgreeWithElisions : Type 0
FinishedRunsAgreeWithElisions =
    (tree : SyntaxTree) (input : List ℤ) (limit : ℕ) (log : RunLog) (reports : List Report) (r : ProgramResults) → BreaksNoRule tree
    → IsFinishedProgramRun (whole_of tree input) limit log → AreRight (columns_after log.events) (accesses_after log.events) reports
    → HasResults (whole_of tree input) (reaches_final true reports) (state_after log.events) r
    → EndsAsElision (whole_of tree input) log reports r
