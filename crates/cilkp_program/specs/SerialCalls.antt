-- What a `serial` call guarantees for an accepted program and its input.
use Rattle.std.specs.Prelude.{◌≡◌, ℕ, ℤ, List, length, Option, Some, None}
use Rattle.pipe_model.specs.declared.event.RunLog.{RunLog}
use Rattle.pipe_model.specs.declared.report.Report.{Report}
use Rattle.pipe_model.specs.Races.Reports.{AreRight}
use Rattle.pipe_model.specs.Language.SyntaxTree.{SyntaxTree}
use Rattle.command_results.specs.TakenText.{HasTaken}
use Rattle.command_results.specs.Headline.{AgreesWithElision, IsRunStatus}
use Rattle.pipe_io.specs.Reads.{Content}
use Rattle.command_results.specs.ProgramFiles.{IsInputOf, IsSourceOf}
use Rattle.command_results.specs.SerialResults.{elision_accesses, elision_columns}
use Rattle.cilkp_words.specs.Commands.{Command, Serial}

-- the command is `serial` with a source that is accepted as the program, and an input of these numbers
pub record IsToRunSerially (asked : Option Command) (content : Content) (tree : SyntaxTree) (numbers : List ℤ) : Type 0 where
  pub source : List ℕ
  pub input : List ℕ
  pub command : asked ≡ Some (Serial source input)
  pub program : IsSourceOf (content source) tree
  pub read : IsInputOf (content input) numbers

-- the call has the status, the text and the reports of the program's serial elision, its text was written completely, and there is no run
-- log
pub record ReturnsElision (tree : SyntaxTree) (numbers : List ℤ) (status written : ℕ) (run_log : Option RunLog) (reports : List Report)
    (taken_before taken_now : Option (List ℕ)) : Type 0 where
  pub text : List ℕ
  pub whole : written ≡ length text
  pub taken : HasTaken written text taken_before taken_now
  pub complete : IsRunStatus status
  -- a cell has a report exactly if two conflicting accesses to it are parallel in the elision's own dag; it has at most one, and the
  -- reports rise by cell
  pub reported : AreRight (elision_columns tree numbers) (elision_accesses tree numbers) reports
  -- whether races are reported, and what is printed, is as the serial elision says
  pub agrees : AgreesWithElision tree numbers reports status text
  pub unlogged : run_log ≡ None
