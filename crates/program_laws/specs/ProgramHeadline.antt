-- The headline of a whole program, for a call that has made a finished run and has right reports of it.
use Rattle.std.specs.Prelude.{◌≡◌, ◌≢◌, ◌↔◌, ◌++◌, ℕ, ℤ, List, [], ◌∷◌, Option, Some, None, map}
use Rattle.pipe_model.specs.declared.event.RunLog.{RunLog}
use Rattle.pipe_model.specs.declared.exit_status.TheConstants as statuses
use Rattle.pipe_model.specs.declared.report.Report.{Report}
use Rattle.pipe_model.specs.declared.trap.TrapAt.{TrapAt}
use Rattle.pipe_model.specs.Pipelines.Behaviour.{column_of}
use Rattle.pipe_model.specs.Races.DeterminacyRaces.{IsRaceFree}
use Rattle.pipe_model.specs.Races.Reports.{AreRight}
use Rattle.pipe_model.specs.Runs.RunLogs.{accesses_after, columns_after, state_after}
use Rattle.pipe_model.specs.Language.CheckingRules.{BreaksNoRule}
use Rattle.pipe_model.specs.Language.SyntaxTree.{SyntaxTree}
use Rattle.pipe_model.specs.Texts.{output_lines, trap_lines}
use Rattle.pipe_model.specs.Runs.Throttling.{IsThrottled}
use Rattle.pipe_model.specs.Language.ProgramsOfTrees.{whole_of}
use Rattle.pipe_model.specs.Pipelines.WholePrograms.{WholeProgram, loop_accesses, loop_traces, program_output, program_trap}
use Rattle.pipe_model.specs.Runs.WholeProgramRuns.{IsFinishedProgramRun, run_output, run_trap}

-- the dag of the program's serial elision has no race
abbrev pub HasNoProgramRace : WholeProgram → Type 0
HasNoProgramRace w = IsRaceFree (map column_of (loop_traces w)) (loop_accesses w)

-- the reports, the status and the text of a call agree with the serial elision of the program on its input; `lines` are the lines of the
-- reports
pub record AgreesWithElision (tree : SyntaxTree) (input : List ℤ) (reports : List Report) (lines : List ℕ) (status : ℕ) (text : List ℕ)
    : Type 0 where
  -- no cell is reported exactly if the dag of the serial elision has no race
  pub silent : (reports ≡ []) ↔ HasNoProgramRace (whole_of tree input)
  -- the status says so exactly if the dag of the serial elision has a race, and then the races are printed
  pub racy : (status ≡ statuses.RACES) ↔ (HasNoProgramRace (whole_of tree input) → ⊥)
  pub races : status ≡ statuses.RACES → text ≡ lines
  -- otherwise the output and the trap of the serial elision are printed, and the status says whether it has a trap
  pub otherwise : HasNoProgramRace (whole_of tree input)
      → text ≡ output_lines (program_output (whole_of tree input)) ++ trap_lines (program_trap (whole_of tree input))
  pub trapped : (status ≡ statuses.TRAPPED) ↔ (HasNoProgramRace (whole_of tree input) × (program_trap (whole_of tree input) ≢ None))
  pub untrapped : (status ≡ statuses.FINISHED) ↔ (HasNoProgramRace (whole_of tree input) × (program_trap (whole_of tree input) ≡ None))

-- the headline: a run of the program under the throttling limit, its log and its reports, and the status and the text of the call
pub record MeetsHeadline (tree : SyntaxTree) (input : List ℤ) (limit : ℕ) (log : RunLog) (reports : List Report) (lines : List ℕ)
    (status : ℕ) (text : List ℕ) : Type 0 where
  -- the log records a finished run of the program on its input, with the run's own columns
  pub run : IsFinishedProgramRun (whole_of tree input) limit log
  -- a cell has a report exactly if two conflicting accesses to it are parallel in the run's own dag; it has at most one, and the reports
  -- rise by cell
  pub reported : AreRight (columns_after log.events) (accesses_after log.events) reports
  -- whether races are reported, and what is printed, is as the serial elision says
  pub agrees : AgreesWithElision tree input reports lines status text
  -- at most the throttling limit of iterations are alive at any event
  pub throttled : IsThrottled limit log.events

-- the exit status of a run with these reports and this trap
abbrev pub exit_status : List Report → Option TrapAt → ℕ
exit_status [] None = statuses.FINISHED
exit_status [] (Some t) = statuses.TRAPPED
exit_status (r ∷ rs) trap = statuses.RACES

-- the printed text: the text of the reports if there are any, and otherwise the output and the trap
abbrev pub printed_text : List Report → List ℕ → List ℤ → Option TrapAt → List ℕ
printed_text [] races output trap = output_lines output ++ trap_lines trap
printed_text (r ∷ rs) races output trap = races

-- a call that makes a finished run of an accepted program and prints right reports, or else the run's output and trap, meets the headline
abbrev pub RunsMeetTheHeadline : Type 0
RunsMeetTheHeadline =
    (tree : SyntaxTree) (input : List ℤ) (limit : ℕ) (log : RunLog) (reports : List Report) (races : List ℕ) → BreaksNoRule tree
    → IsFinishedProgramRun (whole_of tree input) limit log
    → AreRight (columns_after log.events) (accesses_after log.events) reports
    → MeetsHeadline tree input limit log reports races
    (exit_status reports (run_trap (whole_of tree input) (state_after log.events)))
    (printed_text reports races (run_output (whole_of tree input) (state_after log.events))
    (run_trap (whole_of tree input) (state_after log.events)))
