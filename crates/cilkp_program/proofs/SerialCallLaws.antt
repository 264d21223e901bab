-- The result of a call that runs the serial elision of an accepted program alone.
use Rattle.std.proofs.Common.{◌≡◌, ℕ, ℤ, List, Option, Some, None, IfSome, refl}
use Rattle.pipe_model.specs.declared.event.RunLog.{RunLog}
use Rattle.pipe_model.specs.declared.report.Report.{Report}
use Rattle.pipe_model.specs.Language.SyntaxTree.{SyntaxTree}
use Rattle.pipe_io.specs.Faults.{CountRose}
use Rattle.pipe_io.specs.Reads.{Content}
use Rattle.cilkp_words.specs.Commands.{Command}
use Rattle.command_results.proofs.ElisionOutcomes.{outcome_agrees, outcome_is_right, outcome_status}
use Rattle.command_results.proofs.OneCommand.{apart, no_command, run_is_not_serial, serial_is_not_bench, serial_is_not_format}
use Rattle.command_results.proofs.OneContent.{one_input, one_source, refused_no_input, refused_not_accepted_file}
use Rattle.command_results.specs.PrintedResults.{IsCallResult, OfRow, SourceFault, InputFault, RecordFault, IsPrinted}
use Rattle.command_results.specs.ProgramFiles.{FileContents}
use Rattle.command_results.specs.SerialResults.{ElisionResult}
use Rattle.command_results.specs.ResultTable.{ResultRow, NoCommand, SourceRefused, Formats, Benches, WaveRefused, InputRefused, Runs}
use Rattle.command_results.specs.ResultTable.{RunsSerially, ChecksRecord, Weighs}
use Rattle.cilkp_program.specs.SerialCalls.{ReturnsElision, IsToRunSerially}

-- the result is the program's serial elision, without a log
record IsElisionOf (tree : SyntaxTree) (numbers : List ℤ) (status : ℕ) (text : List ℕ) (log : Option RunLog)
    (reports : List Report) : Type 0 where
  unlogged : log ≡ None
  outcome : ElisionResult tree numbers status text reports

elided_row : {asked : Option Command} {content : Content} {held : FileContents} {status : ℕ} {text : List ℕ} {log : Option RunLog}
    {reports : List Report} (tree : SyntaxTree) (numbers : List ℤ)
    → (a : IsToRunSerially asked content tree numbers) → content a.source ≡ held.source → content a.input ≡ held.input
    → ResultRow asked held status text log reports → IsElisionOf tree numbers status text log reports
elided_row tree numbers a s i (NoCommand none) = absurd (no_command none a.command)
elided_row tree numbers a s i (SourceRefused source w r) = absurd (refused_not_accepted_file tree r (rw (← s) a.program))
elided_row tree numbers a s i (Formats source other w o) = absurd (serial_is_not_format a.command w)
elided_row tree numbers a s i (Benches seed size other others w g) = absurd (serial_is_not_bench a.command w)
elided_row tree numbers a s i (WaveRefused source input workers throttle other w o r) = absurd (apart a.command w (λ e. cc (e)))
elided_row tree numbers a s i (InputRefused input other w o can r) = absurd (refused_no_input numbers r (rw (← i) a.read))
elided_row tree numbers a s i (Runs throttle log other others w o m f) = absurd (run_is_not_serial w a.command)
elided_row tree numbers a s i (RunsSerially source input other others w o r) =
    let same : other ≡ tree = one_source other tree o.program (rw (← s) a.program) in
    let also : others ≡ numbers = one_input others numbers o.read (rw (← i) a.read) in
    record { unlogged = refl; outcome = rw (← same, ← also) r }
elided_row tree numbers a s i (ChecksRecord source input saved throttle other others w o r) = absurd (apart a.command w (λ e. cc (e)))
elided_row tree numbers a s i (Weighs source input other others w o r) = absurd (apart a.command w (λ e. cc (e)))

-- the result of a call that runs the elision of an accepted program, if no read failed
result_elided : {asked : Option Command} {content : Content} {before now status : ℕ} {text : List ℕ} {log : Option RunLog}
    {reports : List Report}
    (tree : SyntaxTree) (numbers : List ℤ)
    → ¬ (CountRose before now) → IsToRunSerially asked content tree numbers → IsCallResult asked
    (Some content) before now status text log reports
    → IsElisionOf tree numbers status text log reports
result_elided tree numbers calm a (OfRow same row) =
    elided_row tree numbers a (row.known.source a.source (rw a.command refl)) (row.known.input a.input (rw a.command refl)) row.row
result_elided tree numbers calm a (SourceFault s grew rose w) = absurd (calm rose)
result_elided tree numbers calm a (InputFault s i file other grew rose w v known of can) = absurd (calm rose)
result_elided tree numbers calm a (RecordFault s i r file others other ns grew rose w v u known also of read) = absurd (calm rose)

-- a call whose text was written completely
pub printed_elision : (asked : Option Command) (holds : Option Content) (before now status written : ℕ) (log : Option RunLog)
    (reports : List Report)
    (taken_before taken_now : Option (List ℕ)) → ¬ (CountRose before now) → IsPrinted asked holds before now status written log reports
    taken_before taken_now
    → IfSome holds (λ content. (tree : SyntaxTree) (numbers : List ℤ) → IsToRunSerially asked content tree numbers
    → ReturnsElision tree numbers status written log reports taken_before taken_now)
printed_elision asked None before now status written log reports taken_before taken_now calm printed = tt
printed_elision asked (Some content) before now status written log reports taken_before taken_now calm printed = λ tree numbers a. (
    let h = result_elided tree numbers calm a printed.outcome in
    record {
      text = printed.text;
      whole = printed.whole;
      taken = printed.taken;
      complete = outcome_status h.outcome;
      reported = outcome_is_right h.outcome;
      agrees = outcome_agrees h.outcome;
      unlogged = h.unlogged;
    })
