-- What the table of results says of two calls with the same words and files.
use Rattle.std.specs.Prelude.{◌≡◌, ◌≢◌, false, ℕ, List, Option}
use Rattle.pipe_model.specs.declared.event.RunLog.{RunLog}
use Rattle.pipe_model.specs.declared.report.Report.{Report}
use Rattle.pipe_model.specs.declared.exit_status.TheConstants as statuses
use Rattle.command_results.specs.CommandFiles.{AsksRun, asks_record}
use Rattle.command_results.specs.ProgramFiles.{FileContents}
use Rattle.command_results.specs.ResultTable.{ResultRow}
use Rattle.cilkp_words.specs.Commands.{Command}

-- for all commands but `run` and `wave`: two rows of the same command and the same files have the same status, text, run log and reports
abbrev pub CallsHaveOneRow : Type 0
CallsHaveOneRow = (asked : Option Command) (held : FileContents) (status other_status : ℕ) (text other_text : List ℕ)
    (log other_log : Option RunLog)
    (reports other_reports : List Report) → (AsksRun asked → ⊥)
    → ResultRow asked held status text log reports → ResultRow asked held other_status other_text other_log other_reports
    → (status ≡ other_status) × (text ≡ other_text) × (log ≡ other_log) × (reports ≡ other_reports)

-- for all commands: two rows of the same command and the same files have the same status, and the same text unless the status is 2 or the
-- log is printed. (Two runs of `run` or `wave` may have different logs, and if the program has a race they may report different races of
-- a cell. The seed of a `play` fixes its run)
abbrev pub CallsHaveOneStatus : Type 0
CallsHaveOneStatus = (asked : Option Command) (held : FileContents) (status other_status : ℕ) (text other_text : List ℕ)
    (log other_log : Option RunLog)
    (reports other_reports : List Report)
    → ResultRow asked held status text log reports → ResultRow asked held other_status other_text other_log other_reports
    → (status ≡ other_status) × (asks_record asked ≡ false → status ≢ statuses.RACES → text ≡ other_text)
