-- What a saved run log is: a run of the program, with its races, or the line that refuses it.
use Rattle.std.specs.Prelude.{◌≡◌, ◌<◌, ◌≤◌, ◌++◌, ℕ, ℤ, List, [], ◌∷◌, length, Option, Some, None, codes}
use Rattle.pipe_model.specs.declared.event.Event.{Event}
use Rattle.pipe_model.specs.declared.event.RunLog.{RunLog}
use Rattle.pipe_model.specs.declared.report.Report.{Report}
use Rattle.pipe_model.specs.Language.ProgramsOfTrees.{whole_of}
use Rattle.pipe_model.specs.Language.SyntaxTree.{SyntaxTree}
use Rattle.pipe_model.specs.Texts.{numbered_line, refused_missing}
use Rattle.race_report.specs.CellNames.{race_lines}
use Rattle.record_check.specs.CheckedRecords.{IsCheckedRecord, IsRefusedRecord}
use Rattle.record_check.specs.declared.answer.RunKind.{RunKind}
use Rattle.record_check.specs.declared.answer.RunKind.TheVariants.{Finished, Unfinished, Stopped}
use Rattle.record_parser.specs.RecordLines.{IsFirstBadLine, IsRecord, lines_of}
use Rattle.record_parser.specs.declared.bounds.TheConstants.{LONGEST_RECORD}
use Rattle.pipe_model.specs.declared.exit_status.TheConstants as statuses

-- the line that says how far a run is
abbrev pub kind_line : RunKind → List ℕ
kind_line Finished = codes "run finished\n"
kind_line Unfinished = codes "run unfinished\n"
kind_line Stopped = codes "run stopped\n"

-- the status of a run with these races
abbrev pub status_of_reports : List Report → ℕ
status_of_reports [] = statuses.FINISHED
status_of_reports (r ∷ rs) = statuses.RACES

-- the line that refuses a record of this name: there is no such file, it is too long, or it has a line of no known form
pub data RecordRefusal (tree : SyntaxTree) (name : List ℕ) (file : Option (List ℕ)) : List ℕ → Type 0 where
  RecordMissing : file ≡ None → RecordRefusal tree name file (refused_missing name)
  RecordTooLong : (bytes : List ℕ) → file ≡ Some bytes → LONGEST_RECORD < length bytes → RecordRefusal tree name file
      (codes "refused record TooLong\n")
  HasBadLine : (bytes : List ℕ) (n : ℕ) → file ≡ Some bytes → length bytes ≤ LONGEST_RECORD → IsFirstBadLine tree.cells (lines_of bytes) n
      → RecordRefusal tree name file (numbered_line (codes "refused record BadLine at ") n)

-- the file holds a record of these events
pub record IsRecordOf (tree : SyntaxTree) (file : Option (List ℕ)) (events : List Event) : Type 0 where
  pub bytes : List ℕ
  pub held : file ≡ Some bytes
  pub short : length bytes ≤ LONGEST_RECORD
  pub read : IsRecord tree.cells (lines_of bytes) events

-- the status, the text, the run log and the reports of a check: a record is refused, or its events are no run of the program from some
-- event on, or they are a run, whose log and races are returned
pub data RecordResult (tree : SyntaxTree) (numbers : List ℤ) (throttle : ℕ) (name : List ℕ) (file : Option (List ℕ))
    : ℕ → List ℕ → Option RunLog → List Report → Type 0 where
  NoRecord : {text : List ℕ} → RecordRefusal tree name file text
      → RecordResult tree numbers throttle name file statuses.REFUSED text None []
  NoRun : (events : List Event) (k : ℕ) → IsRecordOf tree file events → IsRefusedRecord (whole_of tree numbers) throttle events k
      → RecordResult tree numbers throttle name file statuses.REFUSED (numbered_line (codes "refused record NotAllowed at ") k) None []
  RunOf : (events : List Event) (kind : RunKind) (log : RunLog) (reports : List Report) → IsRecordOf tree file events
      → IsCheckedRecord (whole_of tree numbers) throttle events kind log reports
      → RecordResult tree numbers throttle name file (status_of_reports reports) (kind_line kind ++ race_lines tree.cells reports)
      (Some log) reports
