-- A record has at most one result.
use Rattle.std.proofs.Common.{◌≡◌, ◌<◌, ◌≤◌, ℕ, ℤ, List, ◌++◌, length, Option, Some, None, ap, ap₂, refl, subst, arith}
use Rattle.std.specs.Prelude.{codes}
use Rattle.pipe_model.specs.declared.event.Event.{Event}
use Rattle.pipe_model.specs.declared.event.RunLog.{RunLog}
use Rattle.pipe_model.specs.declared.report.Report.{Report}
use Rattle.pipe_model.specs.Language.ProgramsOfTrees.{whole_of}
use Rattle.pipe_model.specs.Language.SyntaxTree.{SyntaxTree}
use Rattle.pipe_model.specs.Runs.RunLogs.{state_after}
use Rattle.pipe_model.specs.Texts.{numbered_line}
use Rattle.race_report.specs.CellNames.{race_lines}
use Rattle.record_check.proofs.RecordAnswers.{records_have_one_answer, runs_are_not_refused}
use Rattle.record_check.specs.CheckedRecords.{IsCheckedRecord, IsNoProgramRun, IsProgramRun, IsRefusedRecord}
use Rattle.record_check.specs.declared.answer.RecordAnswer.{RecordAnswer}
use Rattle.record_check.specs.declared.answer.RecordAnswer.TheVariants as answers
use Rattle.record_check.specs.declared.answer.RunKind.{RunKind}
use Rattle.record_parser.proofs.OneReading.{records_have_no_bad_line, texts_have_one_bad_line}
use Rattle.record_parser.proofs.ReadBack.{records_have_one_reading}
use Rattle.record_parser.specs.RecordLines.{IsFirstBadLine, IsRecord, lines_of}
use Rattle.record_parser.specs.declared.bounds.TheConstants.{LONGEST_RECORD}
use Rattle.command_results.proofs.OneContent.{missing_not_held, one_held}
use Rattle.command_results.specs.ProgramFiles.{IsSourceOf}
use Rattle.command_results.specs.RecordResults.{HasBadLine, IsRecordOf, NoRecord, NoRun, RecordMissing, RecordRefusal, RecordResult}
use Rattle.command_results.specs.RecordResults.{RecordTooLong, RunOf, kind_line, status_of_reports}

-- ---- refused or read

one_bad_line : (tree : SyntaxTree) (file : Option (List ℕ)) (bytes others : List ℕ) (n m : ℕ) → file ≡ Some bytes → file ≡ Some others
    → IsFirstBadLine tree.cells (lines_of bytes) n → IsFirstBadLine tree.cells (lines_of others) m → n ≡ m
one_bad_line tree file bytes others n m h g bad worse =
    let same : others ≡ bytes = one_held file others bytes g h in
    texts_have_one_bad_line tree.cells (lines_of bytes) n m bad (subst (λ b. IsFirstBadLine tree.cells (lines_of b) m) same worse)

not_both_lengths : (file : Option (List ℕ)) (bytes others : List ℕ) → file ≡ Some bytes → file ≡ Some others → LONGEST_RECORD < length bytes
    → length others ≤ LONGEST_RECORD → ⊥
not_both_lengths file bytes others h g long short =
    let same : length bytes ≡ length others = ap length (one_held file bytes others h g) in
    absurd (omega (arith, same, long, short))

-- a file has at most one line of refusal as a record
one_refusal : {tree : SyntaxTree} {name : List ℕ} {file : Option (List ℕ)} {text other : List ℕ} → RecordRefusal tree name file text
    → RecordRefusal tree name file other → text ≡ other
one_refusal (RecordMissing m) (RecordMissing m') = refl
one_refusal (RecordMissing m) (RecordTooLong bytes h long) = absurd (missing_not_held _ bytes m h)
one_refusal (RecordMissing m) (HasBadLine bytes n h short bad) = absurd (missing_not_held _ bytes m h)
one_refusal (RecordTooLong bytes h long) (RecordMissing m) = absurd (missing_not_held _ bytes m h)
one_refusal (RecordTooLong bytes h long) (RecordTooLong others g longer) = refl
one_refusal (RecordTooLong bytes h long) (HasBadLine others n g short bad) = absurd (not_both_lengths _ bytes others h g long short)
one_refusal (HasBadLine bytes n h short bad) (RecordMissing m) = absurd (missing_not_held _ bytes m h)
one_refusal (HasBadLine bytes n h short bad) (RecordTooLong others g long) = absurd (not_both_lengths _ others bytes g h long short)
one_refusal {tree} {file = file} (HasBadLine bytes n h short bad) (HasBadLine others m g short' worse) =
    ap (numbered_line (codes "refused record BadLine at ")) (one_bad_line tree file bytes others n m h g bad worse)

-- a record is not refused
refused_no_record : {tree : SyntaxTree} {name : List ℕ} {file : Option (List ℕ)} {text : List ℕ} (events : List Event)
    → RecordRefusal tree name file text
    → IsRecordOf tree file events → ⊥
refused_no_record events (RecordMissing m) r = missing_not_held _ r.bytes m r.held
refused_no_record events (RecordTooLong bytes h long) r = not_both_lengths _ bytes r.bytes h r.held long r.short
refused_no_record {tree} {file = file} events (HasBadLine bytes n h short bad) r =
    let same : r.bytes ≡ bytes = one_held file r.bytes bytes r.held h in
    records_have_no_bad_line tree.cells (lines_of bytes) events n (subst (λ b. IsRecord tree.cells (lines_of b) events) same r.read) bad

-- a file is a record of one list of events
one_list : {tree : SyntaxTree} {source file : Option (List ℕ)} (events others : List Event) → IsSourceOf source tree
    → IsRecordOf tree file events
    → IsRecordOf tree file others → events ≡ others
one_list {tree} {file = file} events others s h g =
    let same : g.bytes ≡ h.bytes = one_held file g.bytes h.bytes g.held h.held in
    records_have_one_reading s.bytes tree (lines_of h.bytes) events others s.accepted h.read
    (subst (λ b. IsRecord tree.cells (lines_of b) others) same g.read)

-- ---- the results

-- two results have the same status, text, log and reports
abbrev pub AreOneResult : (status other : ℕ) (text other_text : List ℕ) (log other_log : Option RunLog)
    (reports other_reports : List Report) → Type 0
AreOneResult status other text other_text log other_log reports other_reports =
    (status ≡ other) × (text ≡ other_text) × (log ≡ other_log) × (reports ≡ other_reports)

abbrev kind_in : RunKind → RecordAnswer → RunKind
kind_in default (answers.Run kind log reports) = kind
kind_in default (answers.NotAllowed k) = default

abbrev log_in : RecordAnswer → Option RunLog
log_in (answers.Run kind log reports) = Some log
log_in (answers.NotAllowed k) = None

abbrev reports_in : List Report → RecordAnswer → List Report
reports_in default (answers.Run kind log reports) = reports
reports_in default (answers.NotAllowed k) = default

abbrev index_in : RecordAnswer → ℕ
index_in (answers.Run kind log reports) = 0
index_in (answers.NotAllowed k) = k

pub one_record_result : {tree : SyntaxTree} {numbers : List ℤ} {throttle : ℕ} {name : List ℕ} {source file : Option (List ℕ)}
    {status other : ℕ}
    {text other_text : List ℕ} {log other_log : Option RunLog} {reports other_reports : List Report} → IsSourceOf source tree
    → RecordResult tree numbers throttle name file status text log reports → RecordResult tree numbers throttle name file other other_text
    other_log other_reports
    → AreOneResult status other text other_text log other_log reports other_reports
one_record_result s (NoRecord r) (NoRecord r') = (refl, one_refusal r r', refl, refl)
one_record_result s (NoRecord r) (NoRun events k h bad) = absurd (refused_no_record events r h)
one_record_result s (NoRecord r) (RunOf events kind log reports h run) = absurd (refused_no_record events r h)
one_record_result s (NoRun events k h bad) (NoRecord r) = absurd (refused_no_record events r h)
one_record_result {tree} {numbers} {throttle} s (NoRun events k h bad) (NoRun others n g worse) =
    let same : others ≡ events = one_list others events s g h in
    let answer : answers.NotAllowed k ≡ answers.NotAllowed n =
    records_have_one_answer (whole_of tree numbers) throttle events (answers.NotAllowed k) (answers.NotAllowed n) (IsNoProgramRun k bad)
    (IsNoProgramRun n (subst (λ es. IsRefusedRecord (whole_of tree numbers) throttle es n) same worse)) in
    (refl, ap (λ a. numbered_line (codes "refused record NotAllowed at ") (index_in a)) answer, refl, refl)
one_record_result {tree} {numbers} {throttle} s (NoRun events k h bad) (RunOf others kind log reports g run) =
    let same : others ≡ events = one_list others events s g h in
    let moved = subst (λ es. IsCheckedRecord (whole_of tree numbers) throttle es kind log reports) same run in
    absurd (runs_are_not_refused (whole_of tree numbers) throttle events (state_after events) k moved.run bad)
one_record_result s (RunOf events kind log reports h run) (NoRecord r) = absurd (refused_no_record events r h)
one_record_result {tree} {numbers} {throttle} s (RunOf events kind log reports h run) (NoRun others n g bad) =
    let same : others ≡ events = one_list others events s g h in
    let moved = subst (λ es. IsRefusedRecord (whole_of tree numbers) throttle es n) same bad in
    absurd (runs_are_not_refused (whole_of tree numbers) throttle events (state_after events) n run.run moved)
one_record_result {tree} {numbers} {throttle} s (RunOf events kind log reports h run) (RunOf others kind' log' reports' g run') =
    let same : others ≡ events = one_list others events s g h in
    let moved = subst (λ es. IsCheckedRecord (whole_of tree numbers) throttle es kind' log' reports') same run' in
    let answer : answers.Run kind log reports ≡ answers.Run kind' log' reports' =
    records_have_one_answer (whole_of tree numbers) throttle events (answers.Run kind log reports) (answers.Run kind' log' reports')
    (IsProgramRun kind log reports run) (IsProgramRun kind' log' reports' moved) in
    let kinds : kind ≡ kind' = ap (kind_in kind) answer in
    let found : reports ≡ reports' = ap (reports_in reports) answer in
    (ap status_of_reports found, ap₂ (λ k rs. kind_line k ++ race_lines tree.cells rs) kinds found, ap log_in answer, found)
