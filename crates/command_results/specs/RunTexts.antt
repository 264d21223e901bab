-- What a run prints, defined by its reports of races, its output and its trap.
use Rattle.std.specs.Prelude.{◌≡◌, ◌≢◌, ℕ, ℤ, List, [], ◌++◌, Option, Some, None}
use Rattle.pipe_model.specs.declared.report.Report.{Report}
use Rattle.pipe_model.specs.declared.trap.TrapAt.{TrapAt}
use Rattle.pipe_model.specs.declared.tree.Declaration.{Declaration}
use Rattle.pipe_model.specs.Texts.{output_lines, trap_line}
use Rattle.race_report.specs.CellNames.{race_lines}
use Rattle.pipe_model.specs.declared.exit_status.TheConstants as statuses

-- the status and the text of a run: its races if there are any, and otherwise its output and its trap
pub data IsPrintedAs (cells : List Declaration) (output : List ℤ) (trap : Option TrapAt) (reports : List Report) : ℕ → List ℕ → Type 0 where
  WithRaces : reports ≢ [] → IsPrintedAs cells output trap reports statuses.RACES (race_lines cells reports)
  ToItsEnd : reports ≡ [] → trap ≡ None → IsPrintedAs cells output trap reports statuses.FINISHED (output_lines output)
  WithTrap : (t : TrapAt) → reports ≡ [] → trap ≡ Some t
      → IsPrintedAs cells output trap reports statuses.TRAPPED (output_lines output ++ trap_line t)
