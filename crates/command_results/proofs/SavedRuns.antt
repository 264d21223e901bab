-- Loading and checking a record.
use Rattle.std.proofs.Common.{◌≡◌, ◌≤◌, ◌++◌, ℕ, ℤ, List, [], length, true, false, Option, Some, None, Result, Ok, Err, IfOk}
use Rattle.std.specs.Prelude.{codes}
use Rattle.pipe_io.specs.declared.whole.Whole.TheVariants as whole
use Rattle.pipe_io.specs.Faults.{CountsFault}
use Rattle.pipe_io.specs.Reads.{Content}
use Rattle.pipe_model.specs.declared.event.Event.{Event}
use Rattle.pipe_model.specs.declared.event.RunLog.{RunLog}
use Rattle.pipe_model.specs.declared.memory.NoMemory.{NoMemory}
use Rattle.pipe_model.specs.declared.report.Report.{Report}
use Rattle.pipe_model.specs.Language.ProgramsOfTrees.{whole_of}
use Rattle.pipe_model.specs.Language.SyntaxTree.{SyntaxTree}
use Rattle.pipe_model.specs.Texts.{fault_read, numbered_line, refused_missing}
use Rattle.race_report.specs.CellNames.{race_lines}
use Rattle.record_check.specs.CheckedRecords.{IsNoProgramRun, IsProgramRun, IsRecordAnswer}
use Rattle.record_check.specs.declared.answer.RecordAnswer.TheVariants as answers
use Rattle.record_check.specs.declared.answer.RunKind.{RunKind}
use Rattle.record_parser.specs.declared.bounds.TheConstants.{LONGEST_RECORD}
use Rattle.record_parser.specs.declared.fault.RecordFault.TheVariants as faults
use Rattle.record_parser.specs.RecordLines as lines
use Rattle.record_parser.specs.RecordLines.{IsFaultOf, IsFirstBadLine, lines_of}
use Rattle.command_results.proofs.Loading.{IsOfFile, bytes_are_held, missing_is_none, too_long_is_held}
use Rattle.command_results.specs.declared.command_result.CommandResult.{CommandResult}
use Rattle.command_results.specs.declared.saved_run.Record.{Record}
use Rattle.command_results.specs.declared.saved_run.Record.TheVariants as records
use Rattle.command_results.specs.LoadedRecords.{HasBadLineAt, IsReadRecord, IsRecordFrom, IsRecordLoad, IsSavedResult, Judged, Unread}
use Rattle.command_results.specs.RecordResults.{HasBadLine, IsRecordOf, NoRecord, NoRun, RecordMissing, RecordResult, RecordTooLong, RunOf}
use Rattle.command_results.specs.RecordResults.{kind_line, status_of_reports}

-- ---- reading

-- what is printed for a record with a bad line
pub bad_line : (tree : SyntaxTree) (bytes line : List ℕ) {n : ℕ} → IsFaultOf tree.cells bytes (faults.BadLine n)
    → line ≡ numbered_line (codes "refused record BadLine at ") n → HasBadLineAt tree bytes line
bad_line tree bytes line (lines.HasBadLine n short bad) e = record { n = n; bad = bad; line_is = e }

-- reading the bytes of a file gives the same result as loading the file
from_bytes : (tree : SyntaxTree) (name : List ℕ) (file : Option (List ℕ)) (bytes : List ℕ) (r : Record) → file ≡ Some bytes
    → length bytes ≤ LONGEST_RECORD → IsReadRecord tree bytes r → IsRecordFrom tree name file r
from_bytes tree name file bytes (records.Accepted events) held short h =
    (record { bytes = bytes; held = held; short = short; read = h.0 }, h.1)
from_bytes tree name file bytes (records.Refused line) held short h = rw h.line_is (HasBadLine bytes h.n held short h.bad)
from_bytes tree name file bytes records.Failed held short h = absurd h

pub record_outcome : (holds : Option Content) (tree : SyntaxTree) (name bytes : List ℕ) (r : Result Record NoMemory)
    → IsOfFile holds name LONGEST_RECORD (whole.Bytes bytes) → length bytes ≤ LONGEST_RECORD → IfOk r (IsReadRecord tree bytes)
    → IfOk r (IsRecordLoad holds tree name)
record_outcome holds tree name bytes (Ok r) f short h = record {
  file = f.file;
  known = f.known;
  result_is = from_bytes tree name f.file bytes r (bytes_are_held f.file LONGEST_RECORD bytes f.is) short h;
}
record_outcome holds tree name bytes (Err m) f short h = h

pub record_is_missing : (holds : Option Content) (tree : SyntaxTree) (name line : List ℕ) → IsOfFile holds name LONGEST_RECORD whole.Missing
    → line ≡ refused_missing name → IsRecordLoad holds tree name (records.Refused line)
record_is_missing holds tree name line f e =
    record { file = f.file; known = f.known; result_is = rw e (RecordMissing (missing_is_none f.file LONGEST_RECORD f.is)) }

pub record_is_too_long : (holds : Option Content) (tree : SyntaxTree) (name bytes line : List ℕ)
    → IsOfFile holds name LONGEST_RECORD (whole.TooLong bytes) → line ≡ codes "refused record TooLong\n"
    → IsRecordLoad holds tree name (records.Refused line)
record_is_too_long holds tree name bytes line f e =
    let held = too_long_is_held f.file LONGEST_RECORD bytes f.is in
    record { file = f.file; known = f.known; result_is = rw e (RecordTooLong held.0 held.1 held.2) }

-- ---- checking

-- the result for a record that is a run
pub checked_run : (tree : SyntaxTree) (numbers : List ℤ) (throttle : ℕ) (events : List Event) {kind : RunKind} {log : RunLog}
    {reports : List Report}
    (r : Result CommandResult NoMemory) → IsRecordAnswer (whole_of tree numbers) throttle events (answers.Run kind log reports)
    → IfOk r (λ a. a ≡ record {
      status = status_of_reports reports;
      text = kind_line kind ++ race_lines tree.cells reports;
      run_log = Some log;
      reports = reports;
    })
    → IfOk r (λ a. (name : List ℕ) (file : Option (List ℕ)) → IsRecordOf tree file events
    → RecordResult tree numbers throttle name file a.status a.text a.run_log a.reports)
checked_run tree numbers throttle events (Ok a) (IsProgramRun kind log reports h) e =
    λ name file r. rw e (RunOf events kind log reports r h)
checked_run tree numbers throttle events (Err m) answer e = e

-- the result for a record with an event that is not allowed
pub no_run : (tree : SyntaxTree) (numbers : List ℤ) (throttle : ℕ) (events : List Event) {k : ℕ} (text : List ℕ)
    → IsRecordAnswer (whole_of tree numbers) throttle events (answers.NotAllowed k)
    → text ≡ numbered_line (codes "refused record NotAllowed at ") k → (name : List ℕ) (file : Option (List ℕ))
    → IsRecordOf tree file events
    → RecordResult tree numbers throttle name file 1 text None []
no_run tree numbers throttle events text (IsNoProgramRun k h) e = λ name file r. rw e (NoRun events k r h)

-- ---- the whole

-- a record that was read
pub judged : (holds : Option Content) (tree : SyntaxTree) (numbers : List ℤ) (throttle before now : ℕ) (name : List ℕ) (events : List Event)
    (r : Result CommandResult NoMemory) → CountsFault false before now → IsRecordLoad holds tree name (records.Accepted events)
    → IfOk r (λ a. (name : List ℕ) (file : Option (List ℕ)) → IsRecordOf tree file events
    → RecordResult tree numbers throttle name file a.status a.text a.run_log a.reports)
    → IfOk r (λ a. IsSavedResult holds before now tree numbers throttle name a.status a.text a.run_log a.reports)
judged holds tree numbers throttle before now name events (Ok a) same f h = Judged f.file same f.known (h name f.file f.result_is.0)
judged holds tree numbers throttle before now name events (Err m) same f h = h

-- a record that is refused
pub refused_saved : (holds : Option Content) (tree : SyntaxTree) (numbers : List ℤ) (throttle before now : ℕ) (name line : List ℕ)
    → CountsFault false before now → IsRecordLoad holds tree name (records.Refused line)
    → IsSavedResult holds before now tree numbers throttle name 1 line None []
refused_saved holds tree numbers throttle before now name line same f = Judged f.file same f.known (NoRecord f.result_is)

-- a record that could not be read
pub unread_saved : (holds : Option Content) (tree : SyntaxTree) (numbers : List ℤ) (throttle before now : ℕ) (name : List ℕ)
    (r : Result CommandResult NoMemory) → CountsFault true before now
    → IfOk r (λ a. a ≡ record { status = 4; text = fault_read name; run_log = None; reports = [] })
    → IfOk r (λ a. IsSavedResult holds before now tree numbers throttle name a.status a.text a.run_log a.reports)
unread_saved holds tree numbers throttle before now name (Ok a) rose e = rw e (Unread rose)
unread_saved holds tree numbers throttle before now name (Err m) rose e = e
