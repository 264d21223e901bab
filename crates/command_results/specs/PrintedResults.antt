-- The result of a call, with the faults in it.
use Rattle.std.specs.Prelude.{◌≡◌, ◌≤◌, ◌<◌, ℕ, ℤ, List, [], length, Option, None, IfSome, ◌⊎◌}
use Rattle.pipe_model.specs.declared.event.RunLog.{RunLog}
use Rattle.pipe_model.specs.declared.report.Report.{Report}
use Rattle.pipe_model.specs.Language.SyntaxTree.{SyntaxTree}
use Rattle.pipe_model.specs.Texts.{fault_read}
use Rattle.pipe_io.specs.Faults.{CountRose}
use Rattle.pipe_io.specs.Reads.{Content}
use Rattle.pipe_model.specs.declared.exit_status.TheConstants as statuses
use Rattle.command_results.specs.CommandFiles.{CanRunBy, NamesInput, NamesRecord, NamesSource, asks_wave}
use Rattle.command_results.specs.ProgramFiles.{AreHeldBy, FileContents, IsInputOf, IsSourceOf}
use Rattle.command_results.specs.ResultTable.{ResultRow}
use Rattle.command_results.specs.TakenText.{HasTaken}
use Rattle.cilkp_words.specs.Commands.{Command}

-- the result of a call in which no read failed: the row of its command and of some content of its files; where the content is known, it is
-- that one
pub record IsRow (asked : Option Command) (holds : Option Content) (status : ℕ) (text : List ℕ) (log : Option RunLog)
    (reports : List Report) : Type 0 where
  pub held : FileContents
  pub known : IfSome holds (λ content. AreHeldBy content asked held)
  pub row : ResultRow asked held status text log reports

-- the status, the text, the run log and the reports of a call are as in its row if no read failed, and otherwise the line of the fault,
-- which is the input's only if the source is an accepted program to run, and the record's only if the input is accepted too. `before` and
-- `now` are the counts of
-- faults before and after the call
pub data IsCallResult (asked : Option Command) (holds : Option Content) (before now : ℕ) : ℕ → List ℕ → Option RunLog → List Report
    → Type 0 where
  OfRow : {status : ℕ} {text : List ℕ} {log : Option RunLog} {reports : List Report} → now ≡ before
      → IsRow asked holds status text log reports
      → IsCallResult asked holds before now status text log reports
  SourceFault : (source : List ℕ) → before ≤ now → CountRose before now → NamesSource asked source
      → IsCallResult asked holds before now statuses.READ_FAULT (fault_read source) None []
  InputFault : (source input : List ℕ) (file : Option (List ℕ)) (tree : SyntaxTree) → before ≤ now → CountRose before now
      → NamesSource asked source
      → NamesInput asked input
      → IfSome holds (λ content. content source ≡ file) → IsSourceOf file tree → CanRunBy (asks_wave asked) tree
      → IsCallResult asked holds before now statuses.READ_FAULT (fault_read input) None []
  RecordFault : (source input saved : List ℕ) (file other : Option (List ℕ)) (tree : SyntaxTree) (numbers : List ℤ) → before ≤ now
      → CountRose before now
      → NamesSource asked source → NamesInput asked input → NamesRecord asked saved → IfSome holds (λ content. content source ≡ file)
      → IfSome holds (λ content. content input ≡ other) → IsSourceOf file tree → IsInputOf other numbers
      → IsCallResult asked holds before now statuses.READ_FAULT (fault_read saved) None []

-- the call's text was written completely
pub record IsPrinted (asked : Option Command) (holds : Option Content) (faults_before faults_now status written : ℕ) (log : Option RunLog)
    (reports : List Report)
    (taken_before taken_now : Option (List ℕ)) : Type 0 where
  pub text : List ℕ
  pub outcome : IsCallResult asked holds faults_before faults_now status text log reports
  pub whole : written ≡ length text
  pub taken : HasTaken written text taken_before taken_now

-- a prefix of the call's text was written, and not all of it; the run log and the reports are the ones of the complete result
pub record IsCutShort (asked : Option Command) (holds : Option Content) (faults_before faults_now written : ℕ) (log : Option RunLog)
    (reports : List Report)
    (taken_before taken_now : Option (List ℕ)) : Type 0 where
  pub status : ℕ
  pub text : List ℕ
  pub outcome : IsCallResult asked holds faults_before faults_now status text log reports
  pub short : written < length text
  pub taken : HasTaken written text taken_before taken_now

-- after out of memory, nothing was taken, or the call's text was cut short
abbrev pub IsGivenUp : (asked : Option Command) (holds : Option Content) (faults_before faults_now : ℕ)
    (taken_before taken_now : Option (List ℕ)) → Type 0
IsGivenUp asked holds faults_before faults_now taken_before taken_now =
    (taken_now ≡ taken_before)
    ⊎ ((written : ℕ) × (log : Option RunLog) × (reports : List Report)
    × IsCutShort asked holds faults_before faults_now written log reports taken_before taken_now)
