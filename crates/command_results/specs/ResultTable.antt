-- The table of results: what a call prints, with its status, its run log and its reports of races, if no read or write fails.
use Rattle.std.specs.Prelude.{◌≡◌, ℕ, ℤ, List, [], Bool, Option, Some, None}
use Rattle.pipe_model.specs.declared.event.RunLog.{RunLog}
use Rattle.pipe_model.specs.declared.report.Report.{Report}
use Rattle.pipe_model.specs.Language.CanonicalText.{program_text}
use Rattle.pipe_model.specs.Language.SyntaxTree.{SyntaxTree}
use Rattle.pipe_model.specs.Texts.{refused_usage}
use Rattle.pipe_model.specs.declared.exit_status.TheConstants as statuses
use Rattle.command_results.specs.Benchmarks.{IsGenerated, elision_summary}
use Rattle.command_results.specs.CommandFiles.{CanRunBy, NamesInput, NamesSource, asks_record, asks_wave, program_by}
use Rattle.command_results.specs.ProgramFiles.{AreAccepted, FileContents, InputRefusal, IsSourceOf, SourceRefusal}
use Rattle.command_results.specs.RecordedRuns.{IsRecordedRun, seeded_events}
use Rattle.command_results.specs.RecordResults.{RecordResult}
use Rattle.command_results.specs.RunReports.{run_reports}
use Rattle.command_results.specs.SerialResults.{ElisionResult}
use Rattle.command_results.specs.SpanResults.{IsSpanText}
use Rattle.command_results.specs.WaveRefusals.{IsRefusedWave}
use Rattle.wave_laws.specs.Waves.WaveFaults.{wave_fault}
use Rattle.cilkp_words.specs.Commands.{Command, Run, Play, Serial, Format, Bench, CheckRecord, Wave, Span}

-- the log may be one of a command that makes a run: `run`, and `wave` for a wave loop, may have any, and that of `play` has the events that
-- the choices of its seed make
pub data IsLogOf (asked : Option Command) (tree : SyntaxTree) (numbers : List ℤ) (throttle : ℕ) (log : RunLog) : Type 0 where
  OfRun : (source input : List ℕ) (workers : ℕ) (recording : Bool) → asked ≡ Some (Run source input workers throttle recording)
      → IsLogOf asked tree numbers throttle log
  OfPlay : (source input : List ℕ) (workers seed : ℕ) (recording : Bool) → asked ≡ Some (Play source input workers throttle seed recording)
      → log.events ≡ seeded_events tree numbers workers throttle seed → IsLogOf asked tree numbers throttle log
  OfWave : (source input : List ℕ) (workers : ℕ) → asked ≡ Some (Wave source input workers throttle) → wave_fault tree ≡ None
      → IsLogOf asked tree numbers throttle log

-- the row of a call by its command and its files: its status, its text, its run log if it keeps one, and its reports.
-- The words are refused before the source, and the source before the input. A `run` command may have any run that meets the headline under
-- its throttling limit, and a `play` command has the one of its seed; both report what the histories of that run find. A `wave` command
-- refuses a program that is no wave
-- loop before its input, and otherwise has a run of the lowered program, as `run` has one. All other commands have one result
pub data ResultRow (asked : Option Command) (held : FileContents) : ℕ → List ℕ → Option RunLog → List Report → Type 0 where
  NoCommand : asked ≡ None → ResultRow asked held statuses.REFUSED refused_usage None []
  SourceRefused : (source : List ℕ) {text : List ℕ} → NamesSource asked source → SourceRefusal source held.source text
      → ResultRow asked held statuses.REFUSED text None []
  Formats : (source : List ℕ) (tree : SyntaxTree) → asked ≡ Some (Format source) → IsSourceOf held.source tree
      → ResultRow asked held statuses.FINISHED (program_text tree) None []
  Benches : (seed size : ℕ) (tree : SyntaxTree) (numbers : List ℤ) → asked ≡ Some (Bench seed size) → IsGenerated seed size tree numbers
      → ResultRow asked held statuses.FINISHED (elision_summary tree numbers) None []
  WaveRefused : (source input : List ℕ) (workers throttle : ℕ) {text : List ℕ} (tree : SyntaxTree)
      → asked ≡ Some (Wave source input workers throttle)
      → IsSourceOf held.source tree → IsRefusedWave held.source tree text → ResultRow asked held statuses.REFUSED text None []
  InputRefused : (input : List ℕ) {text : List ℕ} (tree : SyntaxTree) → NamesInput asked input → IsSourceOf held.source tree
      → CanRunBy (asks_wave asked) tree
      → InputRefusal input held.input text → ResultRow asked held statuses.REFUSED text None []
  Runs : (throttle : ℕ) {status : ℕ} {text : List ℕ} {reports : List Report} (log : RunLog) (tree : SyntaxTree) (numbers : List ℤ)
      → IsLogOf asked tree numbers throttle log → AreAccepted held tree numbers
      → IsRecordedRun (asks_record asked) (program_by (asks_wave asked) tree) numbers throttle log reports status text
      → reports ≡ run_reports log
      → ResultRow asked held status text (Some log) reports
  RunsSerially : (source input : List ℕ) {status : ℕ} {text : List ℕ} {reports : List Report} (tree : SyntaxTree) (numbers : List ℤ)
      → asked ≡ Some (Serial source input) → AreAccepted held tree numbers → ElisionResult tree numbers status text reports
      → ResultRow asked held status text None reports
  ChecksRecord : (source input saved : List ℕ) (throttle : ℕ) {status : ℕ} {text : List ℕ} {log : Option RunLog} {reports : List Report}
      (tree : SyntaxTree)
      (numbers : List ℤ) → asked ≡ Some (CheckRecord source input saved throttle) → AreAccepted held tree numbers
      → RecordResult tree numbers throttle saved held.saved status text log reports → ResultRow asked held status text log reports
  Weighs : (source input : List ℕ) {text : List ℕ} (tree : SyntaxTree) (numbers : List ℤ) → asked ≡ Some (Span source input)
      → AreAccepted held tree numbers → IsSpanText tree numbers text → ResultRow asked held statuses.FINISHED text None []
