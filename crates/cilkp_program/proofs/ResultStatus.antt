-- What follows from the status of a result: its cause, and whether there is a run log.
use Rattle.std.proofs.Common.{◌≡◌, ◌≢◌, ◌≤◌, ◌⊎◌, ◌↔◌, ℕ, ℤ, Bool, List, [], ◌∷◌, Option, Some, None, true, false, refl, inl, inr, arith}
use Rattle.std.specs.Prelude.{is_some}
use Rattle.pipe_model.specs.declared.event.RunLog.{RunLog}
use Rattle.pipe_model.specs.declared.report.Report.{Report}
use Rattle.pipe_io.specs.Faults.{CountGrew, CountRose, CountsFault}
use Rattle.pipe_io.specs.Reads.{Content}
use Rattle.cilkp_words.specs.Commands.{Command}
use Rattle.command_results.specs.PrintedResults.{IsCallResult, OfRow, SourceFault, InputFault, RecordFault}
use Rattle.command_results.specs.CommandFiles.{KeepsLog}
use Rattle.command_results.specs.ProgramFiles.{FileContents}
use Rattle.command_results.specs.ResultTable.{ResultRow, NoCommand, SourceRefused, Formats, Benches, WaveRefused, InputRefused, Runs}
use Rattle.command_results.specs.ResultTable.{RunsSerially, ChecksRecord, Weighs}
use Rattle.command_results.proofs.Agreements.{agreed_status}
use Rattle.command_results.proofs.OneCommand.{bench_keeps_no_log, format_keeps_no_log, run_keeps_log}
use Rattle.command_results.specs.Headline.{IsRunStatus}
use Rattle.command_results.specs.RecordResults.{NoRecord, NoRun, RecordResult, RunOf, status_of_reports}
use Rattle.pipe_model.specs.Language.SyntaxTree.{SyntaxTree}
use Rattle.command_results.proofs.ElisionOutcomes.{outcome_status}

-- there is a log exactly if the command keeps one, the call was not refused, and no read failed
abbrev IsLogged : Option Command → ℕ → Option RunLog → Type 0
IsLogged asked status log = (is_some log ≡ true) ↔ (KeepsLog asked × (status ≢ 1) × (status ≢ 4))

-- the status of a program that was run is at most 4
run_status_is_small : {status : ℕ} → IsRunStatus status → status ≤ 4
run_status_is_small (inl a) = omega (arith, a)
run_status_is_small (inr (inl b)) = omega (arith, b)
run_status_is_small (inr (inr c)) = omega (arith, c)

run_status_is_no_fault : {status : ℕ} → IsRunStatus status → (status ≡ 1) ⊎ (status ≡ 4) → ⊥
run_status_is_no_fault (inl a) (inl d) = absurd (omega (arith, a, d))
run_status_is_no_fault (inl a) (inr d) = absurd (omega (arith, a, d))
run_status_is_no_fault (inr (inl b)) (inl d) = absurd (omega (arith, b, d))
run_status_is_no_fault (inr (inl b)) (inr d) = absurd (omega (arith, b, d))
run_status_is_no_fault (inr (inr c)) (inl d) = absurd (omega (arith, c, d))
run_status_is_no_fault (inr (inr c)) (inr d) = absurd (omega (arith, c, d))

-- a result may have this status: what follows from it of faults and of the log
record IsPossibleStatus (asked : Option Command) (before now status : ℕ) (log : Option RunLog) : Type 0 where
  small : status ≤ 4
  fault : status ≡ 4 → CountRose before now
  logged : IsLogged asked status log

-- a result without a log
no_log : (asked : Option Command) (status : ℕ) → (KeepsLog asked × (status ≢ 1) × (status ≢ 4) → ⊥) → IsLogged asked status None
no_log asked status never = ((λ some. let d : false ≡ true = some in cc (d)), λ logs. absurd (never logs))

-- a refusal
refusal : {asked : Option Command} {before now : ℕ} → IsPossibleStatus asked before now 1 None
refusal = record { small = omega arith; fault = λ e. absurd (omega (arith, e)); logged = no_log _ _ (λ logs. logs.1 refl) }

-- a read that failed
read_fault : {asked : Option Command} {before now : ℕ} → CountRose before now → IsPossibleStatus asked before now 4 None
read_fault rose = record { small = omega arith; fault = λ e. rose; logged = no_log _ _ (λ logs. logs.2 refl) }

-- a command that keeps no log
without_log : {asked : Option Command} {before now status : ℕ} → (KeepsLog asked → ⊥) → IsRunStatus status
    → IsPossibleStatus asked before now status None
without_log silent is = record {
  small = run_status_is_small is;
  fault = λ four. absurd (run_status_is_no_fault is (inr four));
  logged = no_log _ _ (λ logs. silent logs.0);
}

-- a run
with_run : {asked : Option Command} {before now status : ℕ} (log : RunLog) → KeepsLog asked → IsRunStatus status
    → IsPossibleStatus asked before now status (Some log)
with_run log keeps is = record {
  small = run_status_is_small is;
  fault = λ four. absurd (run_status_is_no_fault is (inr four));
  logged = ((λ some. (keeps, (λ one. run_status_is_no_fault is (inl one)), λ four. run_status_is_no_fault is (inr four))), λ logs. refl);
}

-- a record that is checked
checked_status : {asked : Option Command} {before now : ℕ} {tree : SyntaxTree} {numbers : List ℤ} {throttle : ℕ} {name : List ℕ}
    {file : Option (List ℕ)}
    {status : ℕ} {text : List ℕ} {log : Option RunLog} {reports : List Report} → KeepsLog asked
    → RecordResult tree numbers throttle name file status text log reports → IsPossibleStatus asked before now status log
checked_status keeps (NoRecord r) = refusal
checked_status keeps (NoRun events k h r) = refusal
checked_status keeps (RunOf events kind log reports h r) = with_run log keeps (reports_status reports)
  where
    reports_status : (reports : List Report) → IsRunStatus (status_of_reports reports)
    reports_status [] = inl refl
    reports_status (r ∷ rs) = inr (inl refl)

-- the status of a row
row_status : {before now : ℕ} {asked : Option Command} {held : FileContents} {status : ℕ} {text : List ℕ} {log : Option RunLog}
    {reports : List Report}
    → ResultRow asked held status text log reports → IsPossibleStatus asked before now status log
row_status (NoCommand n) = refusal
row_status (SourceRefused s w r) = refusal
row_status (Formats s tree w o) = without_log (format_keeps_no_log w) (inl refl)
row_status (Benches seed size tree numbers w g) = without_log (bench_keeps_no_log w) (inl refl)
row_status (WaveRefused s i n k tree w o r) = refusal
row_status (InputRefused i tree w o can r) = refusal
row_status (Runs k log tree numbers w a m f) = with_run log (run_keeps_log w) (agreed_status m.meets.agrees)
row_status (RunsSerially s i tree numbers w a r) = without_log (λ keeps. let d : false ≡ true = rw w at keeps in cc (d)) (outcome_status r)
row_status (ChecksRecord s i r k tree numbers w a outcome) = checked_status (rw w refl) outcome
row_status (Weighs s i tree numbers w a r) = without_log (λ keeps. let d : false ≡ true = rw w at keeps in cc (d)) (inl refl)

-- the status of a result
possible_status : {asked : Option Command} {holds : Option Content} {before now status : ℕ} {text : List ℕ} {log : Option RunLog}
    {reports : List Report}
    → IsCallResult asked holds before now status text log reports → IsPossibleStatus asked before now status log
possible_status (OfRow same row) = row_status row.row
possible_status (SourceFault s grew rose w) = read_fault rose
possible_status (InputFault s i file tree grew rose w v known of can) = read_fault rose
possible_status (RecordFault s i r file others tree ns grew rose w v u known also of read) = read_fault rose

-- no result has the status of a write that failed
pub no_write_fault : {asked : Option Command} {holds : Option Content} {before now status : ℕ} {text : List ℕ} {log : Option RunLog}
    {reports : List Report}
    → IsCallResult asked holds before now status text log reports → status ≡ 5 → ⊥
no_write_fault outcome five = let t = possible_status outcome in let small = t.small in absurd (omega (arith, small, five))

-- the status is at most 4
pub result_is_small : {asked : Option Command} {holds : Option Content} {before now status : ℕ} {text : List ℕ} {log : Option RunLog}
    {reports : List Report}
    → IsCallResult asked holds before now status text log reports → status ≤ 4
result_is_small outcome = let t = possible_status outcome in t.small

-- the status 4 has its cause
pub result_has_cause : {asked : Option Command} {holds : Option Content} {before now status : ℕ} {text : List ℕ} {log : Option RunLog}
    {reports : List Report}
    → IsCallResult asked holds before now status text log reports → status ≡ 4 → CountRose before now
result_has_cause outcome four = let t = possible_status outcome in t.fault four

-- there is a run log exactly if the command keeps one, the call was not refused, and no read failed
pub result_is_logged : {asked : Option Command} {holds : Option Content} {before now status : ℕ} {text : List ℕ} {log : Option RunLog}
    {reports : List Report}
    → IsCallResult asked holds before now status text log reports → (is_some log ≡ true) ↔ (KeepsLog asked × (status ≢ 1) × (status ≢ 4))
result_is_logged outcome = let t = possible_status outcome in t.logged

-- no count of faults falls
pub counts_do_not_fall : (fault : Bool) {before now : ℕ} → CountsFault fault before now → before ≤ now
counts_do_not_fall true h = h.0
counts_do_not_fall false h = omega (arith, h)

-- the count of failed reads does not fall
pub result_keeps_count : {asked : Option Command} {holds : Option Content} {before now status : ℕ} {text : List ℕ} {log : Option RunLog}
    {reports : List Report}
    → IsCallResult asked holds before now status text log reports → before ≤ now
result_keeps_count (OfRow same row) = omega (arith, same)
result_keeps_count (SourceFault s grew rose w) = grew
result_keeps_count (InputFault s i file tree grew rose w v known of can) = grew
result_keeps_count (RecordFault s i r file others tree ns grew rose w v u known also of read) = grew

-- if the count of failed reads grew, the status says that a read failed
pub grown_count_has_status : {asked : Option Command} {holds : Option Content} {before now status : ℕ} {text : List ℕ} {log : Option RunLog}
    {reports : List Report}
    → IsCallResult asked holds before now status text log reports → CountGrew before now → status ≡ 4
grown_count_has_status (OfRow same row) g = absurd (omega (arith, same, g))
grown_count_has_status (SourceFault s grew rose w) g = refl
grown_count_has_status (InputFault s i file tree grew rose w v known of can) g = refl
grown_count_has_status (RecordFault s i r file others tree ns grew rose w v u known also of read) g = refl
