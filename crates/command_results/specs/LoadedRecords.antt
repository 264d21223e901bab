-- The results of loading a record and of checking it.
use Rattle.std.specs.Prelude.{◌≡◌, ◌≤◌, ℕ, ℤ, List, [], length, Option, None, IfSome, Bool, true, false}
use Rattle.pipe_model.specs.declared.event.RunLog.{RunLog}
use Rattle.pipe_model.specs.declared.report.Report.{Report}
use Rattle.pipe_model.specs.Language.SyntaxTree.{SyntaxTree}
use Rattle.pipe_model.specs.Texts.{fault_read, numbered_line}
use Rattle.pipe_io.specs.Faults.{CountsFault}
use Rattle.pipe_io.specs.Reads.{Content}
use Rattle.record_parser.specs.RecordLines.{IsFirstBadLine, IsRecord, lines_of}
use Rattle.record_parser.specs.declared.bounds.TheConstants.{LONGEST_RECORD}
use Rattle.command_results.specs.declared.saved_run.Record.{Record}
use Rattle.command_results.specs.declared.saved_run.Record.TheVariants as records
use Rattle.command_results.specs.RecordResults.{IsRecordOf, RecordRefusal, RecordResult}
use Rattle.std.specs.Prelude.{codes}

-- whether a read of the record failed
abbrev pub is_record_fault : Record → Bool
is_record_fault (records.Accepted events) = false
is_record_fault (records.Refused line) = false
is_record_fault records.Failed = true

-- the line names the first bad line
pub record HasBadLineAt (tree : SyntaxTree) (bytes line : List ℕ) : Type 0 where
  pub n : ℕ
  pub bad : IsFirstBadLine tree.cells (lines_of bytes) n
  pub line_is : line ≡ numbered_line (codes "refused record BadLine at ") n

-- the result of reading these bytes, which are not too long
abbrev pub IsReadRecord : SyntaxTree → List ℕ → Record → Type 0
IsReadRecord tree bytes (records.Accepted events) = IsRecord tree.cells (lines_of bytes) events × (length events ≤ LONGEST_RECORD)
IsReadRecord tree bytes (records.Refused line) = HasBadLineAt tree bytes line
IsReadRecord tree bytes records.Failed = ⊥

-- the result of loading this file as a record: its events, or the line that refuses it
abbrev pub IsRecordFrom : SyntaxTree → List ℕ → Option (List ℕ) → Record → Type 0
IsRecordFrom tree name file (records.Accepted events) = IsRecordOf tree file events × (length events ≤ LONGEST_RECORD)
IsRecordFrom tree name file (records.Refused line) = RecordRefusal tree name file line
IsRecordFrom tree name file records.Failed = Unit {0}

-- some content of the file explains the result; where the content is known, it is that one
pub record IsRecordLoad (holds : Option Content) (tree : SyntaxTree) (name : List ℕ) (r : Record) : Type 0 where
  pub file : Option (List ℕ)
  pub known : IfSome holds (λ content. content name ≡ file)
  pub result_is : IsRecordFrom tree name file r

-- the result of checking the record of this name: no read failed, and some content of the file explains it, or a read failed
pub data IsSavedResult (holds : Option Content) (before now : ℕ) (tree : SyntaxTree) (numbers : List ℤ) (throttle : ℕ) (name : List ℕ)
    : ℕ → List ℕ → Option RunLog → List Report → Type 0 where
  Judged : (file : Option (List ℕ)) {status : ℕ} {text : List ℕ} {log : Option RunLog} {reports : List Report}
      → CountsFault false before now
      → IfSome holds (λ content. content name ≡ file) → RecordResult tree numbers throttle name file status text log reports
      → IsSavedResult holds before now tree numbers throttle name status text log reports
  Unread : CountsFault true before now → IsSavedResult holds before now tree numbers throttle name 4 (fault_read name) None []
