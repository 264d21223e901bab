-- What a `check-record` call guarantees for an accepted program, its input and a saved run log.
use Rattle.std.specs.Prelude.{◌≡◌, ℕ, ℤ, List, length, Option, Some}
use Rattle.pipe_model.specs.declared.event.RunLog.{RunLog}
use Rattle.pipe_model.specs.declared.report.Report.{Report}
use Rattle.pipe_model.specs.Language.SyntaxTree.{SyntaxTree}
use Rattle.pipe_io.specs.Reads.{Content}
use Rattle.command_results.specs.ProgramFiles.{IsInputOf, IsSourceOf}
use Rattle.command_results.specs.RecordResults.{RecordResult}
use Rattle.command_results.specs.TakenText.{HasTaken}
use Rattle.cilkp_words.specs.Commands.{Command, CheckRecord}

-- the command is `check-record` with a source that is accepted as the program, an input of these numbers, this throttling limit, and a
-- record of this name
pub record IsToCheck (asked : Option Command) (content : Content) (tree : SyntaxTree) (numbers : List ℤ) (throttle : ℕ)
    (saved : List ℕ) : Type 0 where
  pub source : List ℕ
  pub input : List ℕ
  pub command : asked ≡ Some (CheckRecord source input saved throttle)
  pub program : IsSourceOf (content source) tree
  pub read : IsInputOf (content input) numbers

-- the call has the result of the record, and its text was written completely: a yes, which is a status of 0 or 2, means that the events of
-- the file are a run of the program, and that its race lines name exactly the cells that race in that run's own dag
pub record ReturnsCheck (tree : SyntaxTree) (numbers : List ℤ) (throttle : ℕ) (saved : List ℕ) (file : Option (List ℕ)) (status written : ℕ)
    (run_log : Option RunLog) (reports : List Report) (taken_before taken_now : Option (List ℕ)) : Type 0 where
  pub text : List ℕ
  pub whole : written ≡ length text
  pub taken : HasTaken written text taken_before taken_now
  pub outcome : RecordResult tree numbers throttle saved file status text run_log reports
