-- What a `bench` call guarantees.
use Rattle.std.specs.Prelude.{◌≡◌, ℕ, ℤ, List, [], length, Option, Some, None}
use Rattle.pipe_model.specs.declared.event.RunLog.{RunLog}
use Rattle.pipe_model.specs.declared.report.Report.{Report}
use Rattle.pipe_model.specs.Language.SyntaxTree.{SyntaxTree}
use Rattle.pipe_model.specs.declared.exit_status.TheConstants as statuses
use Rattle.command_results.specs.Benchmarks.{IsGenerated, elision_summary}
use Rattle.command_results.specs.TakenText.{HasTaken}
use Rattle.cilkp_words.specs.Commands.{Command, Bench}

-- the command is `bench`, with a seed and a size whose generated source and input are this program and these numbers
pub record IsToBench (asked : Option Command) (tree : SyntaxTree) (numbers : List ℤ) : Type 0 where
  pub seed : ℕ
  pub size : ℕ
  pub command : asked ≡ Some (Bench seed size)
  pub generated : IsGenerated seed size tree numbers

-- the summary was written completely, with status 0, no run log and no reports
pub record ReturnsSummary (tree : SyntaxTree) (numbers : List ℤ) (status written : ℕ) (run_log : Option RunLog) (reports : List Report)
    (taken_before taken_now : Option (List ℕ)) : Type 0 where
  pub done : status ≡ statuses.FINISHED
  pub whole : written ≡ length (elision_summary tree numbers)
  pub taken : HasTaken written (elision_summary tree numbers) taken_before taken_now
  pub unlogged : run_log ≡ None
  pub silent : reports ≡ []
