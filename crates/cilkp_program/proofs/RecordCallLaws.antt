-- The result of a call that checks a record.
use Rattle.std.proofs.Common.{◌≡◌, refl, subst, sym, ℕ, ℤ, List, Option, Some, None, IfSome}
use Rattle.pipe_model.specs.declared.event.RunLog.{RunLog}
use Rattle.pipe_model.specs.declared.report.Report.{Report}
use Rattle.pipe_model.specs.Language.SyntaxTree.{SyntaxTree}
use Rattle.pipe_io.specs.Faults.{CountRose}
use Rattle.pipe_io.specs.Reads.{Content}
use Rattle.cilkp_words.specs.Commands.{Command}
use Rattle.command_results.proofs.OneCommand.{apart, no_command, one_check, run_is_not_check}
use Rattle.command_results.proofs.OneContent.{one_input, one_source, refused_no_input, refused_not_accepted_file}
use Rattle.command_results.specs.PrintedResults.{IsCallResult, OfRow, SourceFault, InputFault, RecordFault, IsPrinted}
use Rattle.command_results.specs.ProgramFiles.{FileContents}
use Rattle.cilkp_program.specs.RecordCalls.{IsToCheck, ReturnsCheck}
use Rattle.command_results.specs.RecordResults.{RecordResult}
use Rattle.command_results.specs.ResultTable.{ResultRow, NoCommand, SourceRefused, Formats, Benches, WaveRefused, InputRefused, Runs}
use Rattle.command_results.specs.ResultTable.{RunsSerially, ChecksRecord, Weighs}

check_row : {asked : Option Command} {content : Content} {held : FileContents} {status : ℕ} {text : List ℕ} {log : Option RunLog}
    {reports : List Report} (tree : SyntaxTree) (numbers : List ℤ) (throttle : ℕ) (saved : List ℕ)
    → (a : IsToCheck asked content tree numbers throttle saved) → content a.source ≡ held.source → content a.input ≡ held.input
    → ResultRow asked held status text log reports → RecordResult tree numbers throttle saved held.saved status text log reports
check_row tree numbers throttle saved a s i (NoCommand none) = absurd (no_command none a.command)
check_row tree numbers throttle saved a s i (SourceRefused source w r) = absurd (refused_not_accepted_file tree r (rw (← s) a.program))
check_row tree numbers throttle saved a s i (Formats source other w o) = absurd (apart a.command w (λ e. cc (e)))
check_row tree numbers throttle saved a s i (Benches seed size other others w g) = absurd (apart a.command w (λ e. cc (e)))
check_row tree numbers throttle saved a s i (WaveRefused source input workers limit other w o r) = absurd (apart a.command w (λ e. cc (e)))
check_row tree numbers throttle saved a s i (InputRefused input other w o can r) = absurd (refused_no_input numbers r (rw (← i) a.read))
check_row tree numbers throttle saved a s i (Runs limit log other others w o m f) = absurd (run_is_not_check w a.command)
check_row tree numbers throttle saved a s i (RunsSerially source input other others w o r) = absurd (apart a.command w (λ e. cc (e)))
check_row {held = held} {status = status} {text = text} {log = log} {reports = reports} tree numbers throttle saved a s i
    (ChecksRecord source input name limit other others w o r) =
    let same : other ≡ tree = one_source other tree o.program (rw (← s) a.program) in
    let also : others ≡ numbers = one_input others numbers o.read (rw (← i) a.read) in
    let check = one_check w a.command in
    subst (λ t. RecordResult t numbers throttle saved held.saved status text log reports) same
    (subst (λ n. RecordResult other n throttle saved held.saved status text log reports) also
    (subst (λ k. RecordResult other others k saved held.saved status text log reports) check.throttle_is
    (subst (λ d. RecordResult other others limit d held.saved status text log reports) check.saved_is r)))
check_row tree numbers throttle saved a s i (Weighs source input other others w o r) = absurd (apart a.command w (λ e. cc (e)))

-- the result of a call that checks a record, if no read failed
check_result : {asked : Option Command} {content : Content} {before now status : ℕ} {text : List ℕ} {log : Option RunLog}
    {reports : List Report}
    (tree : SyntaxTree) (numbers : List ℤ) (throttle : ℕ) (saved : List ℕ)
    → ¬ (CountRose before now) → IsToCheck asked content tree numbers throttle saved → IsCallResult asked
    (Some content) before now status text log reports
    → RecordResult tree numbers throttle saved (content saved) status text log reports
check_result {status = status} {text = text} {log = log} {reports = reports} tree numbers throttle saved calm a (OfRow same row) =
    subst (λ file. RecordResult tree numbers throttle saved file status text log reports) (sym (row.known.saved saved (rw a.command refl)))
    (check_row tree numbers throttle saved a (row.known.source a.source (rw a.command refl))
    (row.known.input a.input (rw a.command refl)) row.row)
check_result tree numbers throttle saved calm a (SourceFault s grew rose w) = absurd (calm rose)
check_result tree numbers throttle saved calm a (InputFault s i file other grew rose w v known of can) = absurd (calm rose)
check_result tree numbers throttle saved calm a (RecordFault s i r file others other ns grew rose w v u known also of read) =
    absurd (calm rose)

-- a call whose text was written completely
pub printed_check : (asked : Option Command) (holds : Option Content) (before now status written : ℕ) (log : Option RunLog)
    (reports : List Report)
    (taken_before taken_now : Option (List ℕ)) → ¬ (CountRose before now) → IsPrinted asked holds before now status written log reports
    taken_before taken_now
    → IfSome holds (λ content. (tree : SyntaxTree) (numbers : List ℤ) (throttle : ℕ) (saved : List ℕ)
    → IsToCheck asked content tree numbers throttle saved
    → ReturnsCheck tree numbers throttle saved (content saved) status written log reports taken_before taken_now)
printed_check asked None before now status written log reports taken_before taken_now calm printed = tt
printed_check asked (Some content) before now status written log reports taken_before taken_now calm printed =
    λ tree numbers throttle saved a. (record {
      text = printed.text;
      whole = printed.whole;
      taken = printed.taken;
      outcome = check_result tree numbers throttle saved calm a printed.outcome;
    })
