-- The headline: what a call guarantees for an accepted program, its input, and every limit from its throttling limit on.
use Rattle.std.specs.Prelude.{◌≡◌, ◌≤◌, ◌⊎◌, ℕ, ℤ, List, Option}
use Rattle.pipe_model.specs.declared.event.RunLog.{RunLog}
use Rattle.pipe_model.specs.declared.report.Report.{Report}
use Rattle.pipe_model.specs.Language.SyntaxTree.{SyntaxTree}
use Rattle.pipe_model.specs.declared.exit_status.TheConstants as statuses
use Rattle.command_results.specs.CommandFiles.{NamesInput, NamesSource, RunsUnder}
use Rattle.program_laws.specs.ProgramHeadline as laws
use Rattle.race_report.specs.CellNames.{race_lines}
use Rattle.pipe_io.specs.Reads.{Content}
use Rattle.command_results.specs.ProgramFiles.{IsInputOf, IsSourceOf}
use Rattle.cilkp_words.specs.Commands.{Command}

-- the command is `run` or `play` with a source that is accepted as the program, an input of these numbers, any number of workers, and a
-- throttling limit of at most `limit`
pub record IsToRun (asked : Option Command) (content : Content) (tree : SyntaxTree) (numbers : List ℤ) (limit : ℕ) : Type 0 where
  pub source : List ℕ
  pub input : List ℕ
  pub throttle : ℕ
  pub names_source : NamesSource asked source
  pub names_input : NamesInput asked input
  pub runs : RunsUnder asked throttle
  pub within : throttle ≤ limit
  pub program : IsSourceOf (content source) tree
  pub read : IsInputOf (content input) numbers

-- the reports, the status and the text of a call agree with the serial elision of the program on its input
abbrev pub AgreesWithElision : SyntaxTree → List ℤ → List Report → (status : ℕ) → (text : List ℕ) → Type 0
AgreesWithElision tree input reports status text = laws.AgreesWithElision tree input reports (race_lines tree.cells reports) status text

-- a run of the program under the throttling limit, its log and its reports, and the status and the text of the call meet the headline
abbrev pub MeetsHeadline : SyntaxTree → List ℤ → (limit : ℕ) → RunLog → List Report → (status : ℕ) → (text : List ℕ) → Type 0
MeetsHeadline tree input limit log reports status text =
    laws.MeetsHeadline tree input limit log reports (race_lines tree.cells reports) status text

-- the status of a program that was run is 0, 2 or 3
abbrev pub IsRunStatus : ℕ → Type 0
IsRunStatus status = (status ≡ statuses.FINISHED) ⊎ ((status ≡ statuses.RACES) ⊎ (status ≡ statuses.TRAPPED))
