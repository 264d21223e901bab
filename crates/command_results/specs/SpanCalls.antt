-- What a `span` call guarantees for an accepted program and its input.
use Rattle.std.specs.Prelude.{◌≡◌, ℕ, ℤ, List, [], length, Option, Some, None}
use Rattle.pipe_model.specs.declared.event.RunLog.{RunLog}
use Rattle.pipe_model.specs.declared.report.Report.{Report}
use Rattle.pipe_model.specs.Language.SyntaxTree.{SyntaxTree}
use Rattle.pipe_io.specs.Reads.{Content}
use Rattle.pipe_model.specs.declared.exit_status.TheConstants as statuses
use Rattle.command_results.specs.ProgramFiles.{IsInputOf, IsSourceOf}
use Rattle.command_results.specs.SpanResults.{IsSpanText}
use Rattle.command_results.specs.TakenText.{HasTaken}
use Rattle.cilkp_words.specs.Commands.{Command, Span}

-- the command is `span` with a source that is accepted as the program, and an input of these numbers
pub record IsToWeigh (asked : Option Command) (content : Content) (tree : SyntaxTree) (numbers : List ℤ) : Type 0 where
  pub source : List ℕ
  pub input : List ℕ
  pub command : asked ≡ Some (Span source input)
  pub program : IsSourceOf (content source) tree
  pub read : IsInputOf (content input) numbers

-- work, span and the heaviest path of the program's serial elision were written completely, with status 0, whatever races or trap the
-- elision has; there is no run log, and there are no reports
pub record ReturnsSpan (tree : SyntaxTree) (numbers : List ℤ) (status written : ℕ) (run_log : Option RunLog) (reports : List Report)
    (taken_before taken_now : Option (List ℕ)) : Type 0 where
  pub text : List ℕ
  pub done : status ≡ statuses.FINISHED
  pub whole : written ≡ length text
  pub taken : HasTaken written text taken_before taken_now
  pub weighed : IsSpanText tree numbers text
  pub unlogged : run_log ≡ None
  pub silent : reports ≡ []
