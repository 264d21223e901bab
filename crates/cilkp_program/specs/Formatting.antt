-- What a call guarantees when it prints the canonical text of an accepted program.
use Rattle.std.specs.Prelude.{◌≡◌, ℕ, List, [], length, Option, Some, None}
use Rattle.pipe_model.specs.declared.event.RunLog.{RunLog}
use Rattle.pipe_model.specs.declared.report.Report.{Report}
use Rattle.pipe_model.specs.Language.CanonicalText.{program_text}
use Rattle.pipe_model.specs.Language.SyntaxTree.{SyntaxTree}
use Rattle.pipe_model.specs.declared.exit_status.TheConstants as statuses
use Rattle.command_results.specs.TakenText.{HasTaken}
use Rattle.pipe_io.specs.Reads.{Content}
use Rattle.command_results.specs.ProgramFiles.{IsSourceOf}
use Rattle.cilkp_words.specs.Commands.{Command, Format}

-- the command is `format SOURCE`, and the source is accepted as the program
pub record IsToFormat (asked : Option Command) (content : Content) (tree : SyntaxTree) : Type 0 where
  pub source : List ℕ
  pub command : asked ≡ Some (Format source)
  pub program : IsSourceOf (content source) tree

-- the canonical text of the program was written completely, with status 0, and nothing was run
pub record ReturnsText (tree : SyntaxTree) (status written : ℕ) (run_log : Option RunLog) (reports : List Report)
    (taken_before taken_now : Option (List ℕ)) : Type 0 where
  pub done : status ≡ statuses.FINISHED
  pub whole : written ≡ length (program_text tree)
  pub taken : HasTaken written (program_text tree) taken_before taken_now
  pub not_run : run_log ≡ None
  pub silent : reports ≡ []
