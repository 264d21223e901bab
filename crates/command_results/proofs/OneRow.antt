-- A call has at most one row of the table, but for the runs of `run` and `wave`, which have one status, and one text if the status is not 2
-- and no log is printed.
use Rattle.std.proofs.Common.{◌≡◌, ◌≢◌, ◌∙◌, Bool, true, false, ℕ, ℤ, List, ◌++◌, Option, Some, None, refl, ap, ap₂, subst, sym}
use Rattle.pipe_model.specs.declared.column.Column.{Column}
use Rattle.pipe_model.specs.declared.event.Event.{Event}
use Rattle.pipe_model.specs.declared.event.RunLog.{RunLog}
use Rattle.pipe_model.specs.declared.report.Report.{Report}
use Rattle.pipe_model.specs.Language.SyntaxTree.{SyntaxTree}
use Rattle.pipe_model.specs.Language.CanonicalText.{program_text}
use Rattle.pipe_model.specs.Runs.RunLogs.{ended_columns_after}
use Rattle.pipe_model.specs.Texts.{trap_line}
use Rattle.pipe_gen.specs.Workload.{input_text, source_text}
use Rattle.pipe_io.proofs.OneReading.{one_reading}
use Rattle.grammar_laws.proofs.SourceRefusals.{one_accepted}
use Rattle.cilkp_words.specs.Commands.{Command, CheckRecord, Wave}
use Rattle.command_results.proofs.Agreements.{one_agreement, one_text}
use Rattle.command_results.proofs.OneCommand.{IsOnePlay, apart, bench_has_no_input, bench_has_no_source, format_has_no_input}
use Rattle.command_results.proofs.OneCommand.{format_is_not_bench, no_command, no_input, no_run, no_source, one_bench, one_check, one_play}
use Rattle.command_results.proofs.OneCommand.{run_is_not_bench, run_is_not_check, run_is_not_format, run_is_not_play, run_is_not_serial}
use Rattle.command_results.proofs.OneCommand.{run_is_not_span, serial_is_not_bench, serial_is_not_format}
use Rattle.command_results.proofs.OneContent.{one_held, one_input, one_input_refusal, one_source, one_source_refusal, refused_no_input}
use Rattle.command_results.proofs.OneContent.{refused_not_accepted_file}
use Rattle.command_results.proofs.OneReports.{one_first_races}
use Rattle.command_results.specs.Benchmarks.{IsGenerated, elision_summary}
use Rattle.race_report.specs.CellNames.{race_lines}
use Rattle.command_results.specs.CommandFiles.{AsksRun, asks_record, asks_wave, program_by}
use Rattle.command_results.specs.Headline.{AgreesWithElision, MeetsHeadline}
use Rattle.command_results.specs.ProgramFiles.{AreAccepted, FileContents, IsSourceOf}
use Rattle.command_results.specs.RecordResults.{RecordResult}
use Rattle.command_results.specs.WaveRefusals.{IsRefusedWave}
use Rattle.command_results.proofs.OneWave.{one_wave_refusal, refused_no_wave}
use Rattle.command_results.proofs.OneRecord.{one_record_result}
use Rattle.command_results.proofs.SpanLaws.{one_span_text}
use Rattle.command_results.specs.SpanResults.{IsSpanText}
use Rattle.command_results.specs.RecordedRuns.{IsRecordedRun, recorded, seeded_events}
use Rattle.command_results.specs.RunReports.{run_reports}
use Rattle.command_results.specs.ResultTable.{IsLogOf, OfPlay, OfRun, OfWave, ResultRow, NoCommand, SourceRefused, Formats, Benches}
use Rattle.command_results.specs.ResultTable.{WaveRefused, InputRefused, Runs, RunsSerially, ChecksRecord, Weighs}
use Rattle.command_results.specs.SerialResults.{ElisionResult, Races, Finishes, Traps}
use Rattle.command_results.specs.SerialResults.{elision_columns, elision_accesses, elision_output_text}

-- two results have the same status, text and reports
abbrev pub AreOneRow : (status other : ℕ) (text other_text : List ℕ) (reports other_reports : List Report) → Type 0
AreOneRow status other text other_text reports other_reports = (status ≡ other) × (text ≡ other_text) × (reports ≡ other_reports)

-- a program has at most one result on an input
one_outcome : {tree : SyntaxTree} {input : List ℤ} {status other : ℕ} {text other_text : List ℕ} {reports other_reports : List Report}
    → ElisionResult tree input status text reports → ElisionResult tree input other other_text other_reports
    → AreOneRow status other text other_text reports other_reports
one_outcome {tree} {input} (Races rs some h) (Races rs' some' h') =
    let same : rs ≡ rs' = one_first_races (elision_columns tree input) (elision_accesses tree input) rs rs' h h' in
    (refl, ap (race_lines tree.cells) same, same)
one_outcome (Races rs some h) (Finishes free e') = absurd (some free)
one_outcome (Races rs some h) (Traps t' free e') = absurd (some free)
one_outcome (Finishes free e) (Races rs' some' h') = absurd (some' free)
one_outcome (Finishes free e) (Finishes free' e') = (refl, refl, refl)
one_outcome (Finishes free e) (Traps t free' e') = absurd (let d : None ≡ Some t = sym e ∙ e' in cc (d))
one_outcome (Traps t free e) (Races rs' some' h') = absurd (some' free)
one_outcome (Traps t free e) (Finishes free' e') = absurd (let d : None ≡ Some t = sym e' ∙ e in cc (d))
one_outcome {tree} {input} (Traps t free e) (Traps t' free' e') = (
  refl,
  let d : Some t ≡ Some t' = sym e ∙ e' in let same : t ≡ t' = cc (d) in ap (λ x. elision_output_text tree input ++ trap_line x)
      same,
  refl,
)

-- equal files have the same program, input and results
one_elision : {held : FileContents} (tree other_tree : SyntaxTree) (numbers others : List ℤ) {status other : ℕ} {text other_text : List ℕ}
    {reports other_reports : List Report}
    → AreAccepted held tree numbers → AreAccepted held other_tree others → ElisionResult tree numbers status text reports
    → ElisionResult other_tree others other other_text other_reports
    → AreOneRow status other text other_text reports other_reports
one_elision tree other_tree numbers others a b r r' =
    let same : tree ≡ other_tree = one_source tree other_tree a.program b.program in
    let also : numbers ≡ others = one_input numbers others a.read b.read in
    one_outcome r (rw (same, also) r')

-- a seed and a size have one summary
one_summary : {seed size other others : ℕ} (tree other_tree : SyntaxTree) (numbers other_numbers : List ℤ) → seed ≡ other → size ≡ others
    → IsGenerated seed size tree numbers → IsGenerated other others other_tree other_numbers
    → elision_summary tree numbers ≡ elision_summary other_tree other_numbers
one_summary {seed} {size} tree other_tree numbers other_numbers e f g h =
    let g' : IsGenerated seed size other_tree other_numbers = rw (e, f) h in
    ap₂ elision_summary (one_accepted (source_text size) tree other_tree g.program g'.program)
    (one_reading (input_text seed size) numbers other_numbers g.read g'.read)

-- two runs of a program have the same status, and the same text unless the status is 2
one_run : (program : SyntaxTree) (numbers : List ℤ) {limit other_limit : ℕ} {log other_log : RunLog} {status other : ℕ}
    {text other_text : List ℕ} {reports other_reports : List Report} → MeetsHeadline program numbers limit log reports status text
    → MeetsHeadline program numbers other_limit other_log other_reports other other_text
    → (status ≡ other) × (status ≢ 2 → text ≡ other_text)
one_run program numbers {reports = reports} {other_reports = other_reports} m m' =
    one_agreement {reports = reports} {other_reports = other_reports} m.agrees m'.agrees

-- a text without the lines of a log
pub unrecorded : (recording : Bool) (tree : SyntaxTree) (log : RunLog) (outcome : List ℕ) {text : List ℕ} → recording ≡ false
    → text ≡ recorded recording tree.cells log outcome → text ≡ outcome
unrecorded true tree log outcome silent is = absurd (let d : true ≡ false = silent in cc (d))
unrecorded false tree log outcome silent is = is

-- the log, the reports, the status and the text of a run, by the events of the log
record IsOneRun (log other_log : RunLog) (reports other_reports : List Report) (status other : ℕ) (text other_text : List ℕ) : Type 0 where
  logs : log ≡ other_log
  found : reports ≡ other_reports
  statuses : status ≡ other
  texts : text ≡ other_text

abbrev log_with : List Column → List Event → RunLog
log_with columns events = record { columns = columns; events = events }

one_by_events : {recording : Bool} (tree : SyntaxTree) (numbers : List ℤ) {limit other_limit : ℕ}
    (log other_log : RunLog) {status other : ℕ}
    {text other_text : List ℕ} {reports other_reports : List Report} → log.events ≡ other_log.events
    → IsRecordedRun recording tree numbers limit log reports status text → reports ≡ run_reports log
    → IsRecordedRun recording tree numbers other_limit other_log other_reports other other_text → other_reports ≡ run_reports other_log
    → IsOneRun log other_log reports other_reports status other text other_text
one_by_events {recording} tree numbers log other_log {other = other} {reports = reports} {other_reports = other_reports} e m f m' f' =
    let columns = m.meets.run.columns ∙ ap ended_columns_after e ∙ sym m'.meets.run.columns in
    let logs : log ≡ other_log = ap₂ log_with columns e in
    let found : reports ≡ other_reports = f ∙ ap run_reports logs ∙ sym f' in
    let agrees : AgreesWithElision tree numbers reports other m'.outcome = subst (λ r. AgreesWithElision tree numbers r other m'.outcome)
    (sym found) m'.meets.agrees in
    let outcomes = one_text {reports = reports} m.meets.agrees agrees in
    record {
      logs = logs;
      found = found;
      statuses = (one_agreement {reports = reports} {other_reports = reports} m.meets.agrees agrees).0;
      texts = m.text_is ∙ ap₂ (recorded recording tree.cells) logs outcomes ∙ sym m'.text_is;
    }

-- ---- the rows

-- two rows of a command: they are the same, or both are runs of `run`, or of `wave`
data AreAlike (asked : Option Command) (status other : ℕ) (text other_text : List ℕ) (log other_log : Option RunLog)
    (reports other_reports : List Report)
    : Type 0 where
  Same : status ≡ other → text ≡ other_text → log ≡ other_log → reports ≡ other_reports
      → AreAlike asked status other text other_text log other_log reports other_reports
  BothRun : AsksRun asked → status ≡ other → (asks_record asked ≡ false → status ≢ 2 → text ≡ other_text)
      → AreAlike asked status other text other_text log other_log reports other_reports

-- what a function says of equal programs, inputs and options is equal
same_schedule : (f : SyntaxTree → List ℤ → (workers throttle seed : ℕ) → List Event) {tree other_tree : SyntaxTree}
    {numbers others : List ℤ}
    {workers other_workers throttle limit seed number : ℕ} → tree ≡ other_tree → numbers ≡ others
    → IsOnePlay workers other_workers throttle limit seed number
    → f tree numbers workers throttle seed ≡ f other_tree others other_workers limit number
same_schedule f {tree} {other_tree} {numbers} {others} {workers} {other_workers} {throttle} {limit} {seed} {number} same also play =
    ap (λ t. f t numbers workers throttle seed) same ∙ ap (λ n. f other_tree n workers throttle seed) also
    ∙ ap (λ w. f other_tree others w throttle seed) play.workers_are ∙ ap (λ k. f other_tree others other_workers k seed) play.throttle_is
    ∙ ap (f other_tree others other_workers limit) play.seed_is

-- a run of a program on an input is one of an equal program on an equal input
moved : {recording : Bool} (program other_program : SyntaxTree) (numbers others : List ℤ) {limit : ℕ} {log : RunLog}
    {reports : List Report} {status : ℕ}
    {text : List ℕ} → program ≡ other_program → numbers ≡ others → IsRecordedRun recording other_program others limit log reports status
    text
    → IsRecordedRun recording program numbers limit log reports status text
moved {recording} program other_program numbers others {limit} {log} {reports} {status} {text} same also m =
    subst (λ t. IsRecordedRun recording t numbers limit log reports status text) (sym same)
    (subst (λ n. IsRecordedRun recording other_program n limit log reports status text) (sym also) m)

-- two rows of `run` or of `wave`
both_any : {asked : Option Command} (program : SyntaxTree) (numbers : List ℤ) {limit other_limit : ℕ}
    (log other_log : RunLog) {status other : ℕ}
    {text other_text : List ℕ} {reports other_reports : List Report} → AsksRun asked
    → IsRecordedRun (asks_record asked) program numbers limit log reports status text
    → IsRecordedRun (asks_record asked) program numbers other_limit other_log other_reports other other_text
    → AreAlike asked status other text other_text (Some log) (Some other_log) reports other_reports
both_any {asked} program numbers log other_log asks m m' =
    let one = one_run program numbers m.meets m'.meets in
    BothRun asks one.0 (λ silent apart. unrecorded (asks_record asked) program log _ silent m.text_is ∙ one.1 apart
    ∙ sym (unrecorded (asks_record asked) program other_log _ silent m'.text_is))

-- two rows of a command that makes a run of the same program
both_made : {asked : Option Command} (tree : SyntaxTree) (program : SyntaxTree) (numbers : List ℤ) {limit other_limit : ℕ}
    (log other_log : RunLog)
    {status other : ℕ} {text other_text : List ℕ} {reports other_reports : List Report} → IsLogOf asked tree numbers limit log
    → IsRecordedRun (asks_record asked) program numbers limit log reports status text → reports ≡ run_reports log
    → IsLogOf asked tree numbers other_limit other_log
    → IsRecordedRun (asks_record asked) program numbers other_limit other_log other_reports other other_text
    → other_reports ≡ run_reports other_log
    → AreAlike asked status other text other_text (Some log) (Some other_log) reports other_reports
both_made tree program numbers log other_log (OfRun source input workers recording w) m f l' m' f' =
    both_any program numbers log other_log (rw w refl) m m'
both_made tree program numbers log other_log (OfWave source input workers w fits) m f l' m' f' =
    both_any program numbers log other_log (rw w refl) m m'
both_made tree program numbers log other_log (OfPlay source input workers seed recording w is) m f
    (OfRun source' input' workers' recording' w') m' f' =
    absurd (run_is_not_play w' w)
both_made tree program numbers log other_log (OfPlay source input workers seed recording w is) m f
    (OfWave source' input' workers' w' fits) m' f' =
    absurd (apart w' w (λ e. cc (e)))
both_made tree program numbers log other_log (OfPlay source input workers seed recording w is) m f
    (OfPlay source' input' workers' seed' recording' w' is') m' f' =
    let e : log.events ≡ other_log.events = is ∙ same_schedule seeded_events {tree = tree} {other_tree = tree} {numbers = numbers}
    {others = numbers} refl refl (one_play w w') ∙ sym is' in
    let one = one_by_events program numbers log other_log e m f m' f' in
    Same one.statuses one.texts (ap Some one.logs) one.found

-- two rows of a command that makes a run
both_run : {asked : Option Command} {held : FileContents} (tree other_tree : SyntaxTree) (numbers others : List ℤ) {limit other_limit : ℕ}
    (log other_log : RunLog) {status other : ℕ} {text other_text : List ℕ} {reports other_reports : List Report}
    → IsLogOf asked tree numbers limit log → AreAccepted held tree numbers
    → IsRecordedRun (asks_record asked) (program_by (asks_wave asked) tree) numbers limit log reports status text
    → reports ≡ run_reports log
    → IsLogOf asked other_tree others other_limit other_log → AreAccepted held other_tree others
    → IsRecordedRun (asks_record asked) (program_by (asks_wave asked) other_tree) others other_limit other_log other_reports other
    other_text
    → other_reports ≡ run_reports other_log
    → AreAlike asked status other text other_text (Some log) (Some other_log) reports other_reports
both_run {asked} tree other_tree numbers others {other_limit = other_limit} log other_log l a m f l' a' m' f' =
    let same : tree ≡ other_tree = one_source tree other_tree a.program a'.program in
    let also : numbers ≡ others = one_input numbers others a.read a'.read in
    let l'' : IsLogOf asked tree numbers other_limit other_log =
    subst (λ t. IsLogOf asked t numbers other_limit other_log) (sym same)
    (subst (λ n. IsLogOf asked other_tree n other_limit other_log) (sym also) l') in
    both_made tree (program_by (asks_wave asked) tree) numbers log other_log l m f l''
    (moved (program_by (asks_wave asked) tree) (program_by (asks_wave asked) other_tree) numbers others
    (ap (program_by (asks_wave asked)) same) also m') f'

-- two results of a record
both_checked : {asked : Option Command} {held : FileContents} {source input saved other_source other_input other_saved : List ℕ}
    {throttle limit : ℕ}
    (tree other_tree : SyntaxTree) (numbers others : List ℤ) {status other : ℕ} {text other_text : List ℕ} {log other_log : Option RunLog}
    {reports other_reports : List Report} → asked ≡ Some (CheckRecord source input saved throttle) → AreAccepted held tree numbers
    → RecordResult tree numbers throttle saved held.saved status text log reports
    → asked ≡ Some (CheckRecord other_source other_input other_saved limit) → AreAccepted held other_tree others
    → RecordResult other_tree others limit other_saved held.saved other other_text other_log other_reports
    → AreAlike asked status other text other_text log other_log reports other_reports
both_checked {held = held} {saved = saved} {other_saved = other_saved} {throttle = throttle} {limit = limit} tree other_tree numbers others
    {other = other} {other_text = other_text} {other_log = other_log} {other_reports = other_reports} w a r w' a' r' =
    let same : tree ≡ other_tree = one_source tree other_tree a.program a'.program in
    let also : numbers ≡ others = one_input numbers others a.read a'.read in
    let check = one_check w w' in
    let r'' : RecordResult tree numbers throttle saved held.saved other other_text other_log other_reports =
    subst (λ t. RecordResult t numbers throttle saved held.saved other other_text other_log other_reports) (sym same)
    (subst (λ n. RecordResult other_tree n throttle saved held.saved other other_text other_log other_reports) (sym also)
    (subst (λ k. RecordResult other_tree others k saved held.saved other other_text other_log other_reports) (sym check.throttle_is)
    (subst (λ s. RecordResult other_tree others limit s held.saved other other_text other_log other_reports) (sym check.saved_is) r'))) in
    let one = one_record_result a.program r r'' in
    Same one.0 one.1 one.2 one.3

-- equal files have one text of work and span
one_weighing : {held : FileContents} (tree other_tree : SyntaxTree) (numbers others : List ℤ) {text other_text : List ℕ}
    → AreAccepted held tree numbers
    → AreAccepted held other_tree others → IsSpanText tree numbers text → IsSpanText other_tree others other_text → text ≡ other_text
one_weighing tree other_tree numbers others {other_text = other_text} a b r r' =
    let same : tree ≡ other_tree = one_source tree other_tree a.program b.program in
    let also : numbers ≡ others = one_input numbers others a.read b.read in
    one_span_text tree numbers a.program r
    (subst (λ t. IsSpanText t numbers other_text) (sym same) (subst (λ n. IsSpanText other_tree n other_text) (sym also) r'))

-- a program that is refused as a wave loop is not run by `wave`, and other commands refuse none
no_run_of_no_wave : {asked : Option Command} {held : FileContents} {numbers : List ℤ} {limit throttle workers : ℕ} {log : RunLog}
    {source input text : List ℕ}
    (tree other : SyntaxTree) → IsLogOf asked tree numbers limit log → asked ≡ Some (Wave source input workers throttle)
    → AreAccepted held tree numbers
    → IsSourceOf held.source other → IsRefusedWave held.source other text → ⊥
no_run_of_no_wave tree other (OfRun source input workers recording w) v a o r = apart w v (λ e. cc (e))
no_run_of_no_wave tree other (OfPlay source input workers seed recording w is) v a o r = apart w v (λ e. cc (e))
no_run_of_no_wave tree other (OfWave source input workers w fits) v a o r = refused_no_wave other tree
    (one_source other tree o a.program) fits r

alike : {asked : Option Command} {held : FileContents} {status other : ℕ} {text other_text : List ℕ} {log other_log : Option RunLog}
    {reports other_reports : List Report}
    → ResultRow asked held status text log reports → ResultRow asked held other other_text other_log other_reports
    → AreAlike asked status other text other_text log other_log reports other_reports
alike (NoCommand n) (NoCommand n') = Same refl refl refl refl
alike (NoCommand n) (SourceRefused s' w' r') = absurd (no_source n w')
alike (NoCommand n) (Formats s' tree' w' o') = absurd (no_command n w')
alike (NoCommand n) (Benches n' m' tree' xs' w' g') = absurd (no_command n w')
alike (NoCommand n) (WaveRefused s' i' n' k' tree' w' o' r') = absurd (no_command n w')
alike (NoCommand n) (InputRefused i' tree' w' o' c' r') = absurd (no_input n w')
alike (NoCommand n) (Runs k' l' tree' xs' w' a' m' f') = absurd (no_run n w')
alike (NoCommand n) (RunsSerially s' i' tree' xs' w' a' r') = absurd (no_command n w')
alike (NoCommand n) (ChecksRecord s' i' d' k' tree' xs' w' a' r') = absurd (no_command n w')
alike (NoCommand n) (Weighs s' i' tree' xs' w' a' r') = absurd (no_command n w')
alike (SourceRefused s w r) (NoCommand n') = absurd (no_source n' w)
alike (SourceRefused s w r) (SourceRefused s' w' r') = Same refl (one_source_refusal r (rw (one_held _ s s' w w') r')) refl refl
alike (SourceRefused s w r) (Formats s' tree' w' o') = absurd (refused_not_accepted_file tree' r o')
alike (SourceRefused s w r) (Benches n' m' tree' xs' w' g') = absurd (bench_has_no_source w' w)
alike (SourceRefused s w r) (WaveRefused s' i' n' k' tree' w' o' r') = absurd (refused_not_accepted_file tree' r o')
alike (SourceRefused s w r) (InputRefused i' tree' w' o' c' r') = absurd (refused_not_accepted_file tree' r o')
alike (SourceRefused s w r) (Runs k' l' tree' xs' w' a' m' f') = absurd (refused_not_accepted_file tree' r a'.program)
alike (SourceRefused s w r) (RunsSerially s' i' tree' xs' w' a' r') = absurd (refused_not_accepted_file tree' r a'.program)
alike (SourceRefused s w r) (ChecksRecord s' i' d' k' tree' xs' w' a' r') = absurd (refused_not_accepted_file tree' r a'.program)
alike (SourceRefused s w r) (Weighs s' i' tree' xs' w' a' r') = absurd (refused_not_accepted_file tree' r a'.program)
alike (Formats s tree w o) (NoCommand n') = absurd (no_command n' w)
alike (Formats s tree w o) (SourceRefused s' w' r') = absurd (refused_not_accepted_file tree r' o)
alike (Formats s tree w o) (Formats s' tree' w' o') = Same refl (ap program_text (one_source tree tree' o o')) refl refl
alike (Formats s tree w o) (Benches n' m' tree' xs' w' g') = absurd (format_is_not_bench w w')
alike (Formats s tree w o) (WaveRefused s' i' n' k' tree' w' o' r') = absurd (apart w w' (λ e. cc (e)))
alike (Formats s tree w o) (InputRefused i' tree' w' o' c' r') = absurd (format_has_no_input w w')
alike (Formats s tree w o) (Runs k' l' tree' xs' w' a' m' f') = absurd (run_is_not_format w' w)
alike (Formats s tree w o) (RunsSerially s' i' tree' xs' w' a' r') = absurd (serial_is_not_format w' w)
alike (Formats s tree w o) (ChecksRecord s' i' d' k' tree' xs' w' a' r') = absurd (apart w w' (λ e. cc (e)))
alike (Formats s tree w o) (Weighs s' i' tree' xs' w' a' r') = absurd (apart w w' (λ e. cc (e)))
alike (Benches n m tree xs w g) (NoCommand n') = absurd (no_command n' w)
alike (Benches n m tree xs w g) (SourceRefused s' w' r') = absurd (bench_has_no_source w w')
alike (Benches n m tree xs w g) (Formats s' tree' w' o') = absurd (format_is_not_bench w' w)
alike (Benches n m tree xs w g) (Benches n' m' tree' xs' w' g') = let one = one_bench w w' in
    Same refl (one_summary tree tree' xs xs' one.0 one.1 g g') refl refl
alike (Benches n m tree xs w g) (WaveRefused s' i' n' k' tree' w' o' r') = absurd (apart w w' (λ e. cc (e)))
alike (Benches n m tree xs w g) (InputRefused i' tree' w' o' c' r') = absurd (bench_has_no_input w w')
alike (Benches n m tree xs w g) (Runs k' l' tree' xs' w' a' m' f') = absurd (run_is_not_bench w' w)
alike (Benches n m tree xs w g) (RunsSerially s' i' tree' xs' w' a' r') = absurd (serial_is_not_bench w' w)
alike (Benches n m tree xs w g) (ChecksRecord s' i' d' k' tree' xs' w' a' r') = absurd (apart w w' (λ e. cc (e)))
alike (Benches n m tree xs w g) (Weighs s' i' tree' xs' w' a' r') = absurd (apart w w' (λ e. cc (e)))
alike (WaveRefused s i n k tree w o r) (NoCommand n') = absurd (no_command n' w)
alike (WaveRefused s i n k tree w o r) (SourceRefused s' w' r') = absurd (refused_not_accepted_file tree r' o)
alike (WaveRefused s i n k tree w o r) (Formats s' tree' w' o') = absurd (apart w w' (λ e. cc (e)))
alike (WaveRefused s i n k tree w o r) (Benches n' m' tree' xs' w' g') = absurd (apart w w' (λ e. cc (e)))
alike (WaveRefused s i n k tree w o r) (WaveRefused s' i' n' k' tree' w' o' r') = Same refl
    (one_wave_refusal tree tree' (one_source tree tree' o o') r r') refl refl
alike (WaveRefused s i n k tree w o r) (InputRefused i' tree' w' o' c' r') =
    absurd (refused_no_wave tree tree' (one_source tree tree' o o') (c' (rw w refl)) r)
alike (WaveRefused s i n k tree w o r) (Runs k' l' tree' xs' w' a' m' f') = absurd (no_run_of_no_wave tree' tree w' w a' o r)
alike (WaveRefused s i n k tree w o r) (RunsSerially s' i' tree' xs' w' a' r') = absurd (apart w w' (λ e. cc (e)))
alike (WaveRefused s i n k tree w o r) (ChecksRecord s' i' d' k' tree' xs' w' a' r') = absurd (apart w w' (λ e. cc (e)))
alike (WaveRefused s i n k tree w o r) (Weighs s' i' tree' xs' w' a' r') = absurd (apart w w' (λ e. cc (e)))
alike (InputRefused i tree w o c r) (NoCommand n') = absurd (no_input n' w)
alike (InputRefused i tree w o c r) (SourceRefused s' w' r') = absurd (refused_not_accepted_file tree r' o)
alike (InputRefused i tree w o c r) (Formats s' tree' w' o') = absurd (format_has_no_input w' w)
alike (InputRefused i tree w o c r) (Benches n' m' tree' xs' w' g') = absurd (bench_has_no_input w' w)
alike (InputRefused i tree w o c r) (WaveRefused s' i' n' k' tree' w' o' r') =
    absurd (refused_no_wave tree' tree (one_source tree' tree o' o) (c (rw w' refl)) r')
alike (InputRefused i tree w o c r) (InputRefused i' tree' w' o' c' r') = Same refl (one_input_refusal r (rw (one_held _ i i' w w') r'))
    refl refl
alike (InputRefused i tree w o c r) (Runs k' l' tree' xs' w' a' m' f') = absurd (refused_no_input xs' r a'.read)
alike (InputRefused i tree w o c r) (RunsSerially s' i' tree' xs' w' a' r') = absurd (refused_no_input xs' r a'.read)
alike (InputRefused i tree w o c r) (ChecksRecord s' i' d' k' tree' xs' w' a' r') = absurd (refused_no_input xs' r a'.read)
alike (InputRefused i tree w o c r) (Weighs s' i' tree' xs' w' a' r') = absurd (refused_no_input xs' r a'.read)
alike (Runs k l tree xs w a m f) (NoCommand n') = absurd (no_run n' w)
alike (Runs k l tree xs w a m f) (SourceRefused s' w' r') = absurd (refused_not_accepted_file tree r' a.program)
alike (Runs k l tree xs w a m f) (Formats s' tree' w' o') = absurd (run_is_not_format w w')
alike (Runs k l tree xs w a m f) (Benches n' m' tree' xs' w' g') = absurd (run_is_not_bench w w')
alike (Runs k l tree xs w a m f) (WaveRefused s' i' n' k' tree' w' o' r') = absurd (no_run_of_no_wave tree tree' w w' a o' r')
alike (Runs k l tree xs w a m f) (InputRefused i' tree' w' o' c' r') = absurd (refused_no_input xs r' a.read)
alike (Runs k l tree xs w a m f) (Runs k' l' tree' xs' w' a' m' f') = both_run tree tree' xs xs' l l' w a m f w' a' m' f'
alike (Runs k l tree xs w a m f) (RunsSerially s' i' tree' xs' w' a' r') = absurd (run_is_not_serial w w')
alike (Runs k l tree xs w a m f) (ChecksRecord s' i' d' k' tree' xs' w' a' r') = absurd (run_is_not_check w w')
alike (Runs k l tree xs w a m f) (Weighs s' i' tree' xs' w' a' r') = absurd (run_is_not_span w w')
alike (RunsSerially s i tree xs w a r) (NoCommand n') = absurd (no_command n' w)
alike (RunsSerially s i tree xs w a r) (SourceRefused s' w' r') = absurd (refused_not_accepted_file tree r' a.program)
alike (RunsSerially s i tree xs w a r) (Formats s' tree' w' o') = absurd (serial_is_not_format w w')
alike (RunsSerially s i tree xs w a r) (Benches n' m' tree' xs' w' g') = absurd (serial_is_not_bench w w')
alike (RunsSerially s i tree xs w a r) (WaveRefused s' i' n' k' tree' w' o' r') = absurd (apart w w' (λ e. cc (e)))
alike (RunsSerially s i tree xs w a r) (InputRefused i' tree' w' o' c' r') = absurd (refused_no_input xs r' a.read)
alike (RunsSerially s i tree xs w a r) (Runs k' l' tree' xs' w' a' m' f') = absurd (run_is_not_serial w' w)
alike (RunsSerially s i tree xs w a r) (RunsSerially s' i' tree' xs' w' a' r') = let one = one_elision tree tree' xs xs' a a' r r' in
    Same one.0 one.1 refl one.2
alike (RunsSerially s i tree xs w a r) (ChecksRecord s' i' d' k' tree' xs' w' a' r') = absurd (apart w w' (λ e. cc (e)))
alike (RunsSerially s i tree xs w a r) (Weighs s' i' tree' xs' w' a' r') = absurd (apart w w' (λ e. cc (e)))
alike (ChecksRecord s i d k tree xs w a r) (NoCommand n') = absurd (no_command n' w)
alike (ChecksRecord s i d k tree xs w a r) (SourceRefused s' w' r') = absurd (refused_not_accepted_file tree r' a.program)
alike (ChecksRecord s i d k tree xs w a r) (Formats s' tree' w' o') = absurd (apart w w' (λ e. cc (e)))
alike (ChecksRecord s i d k tree xs w a r) (Benches n' m' tree' xs' w' g') = absurd (apart w w' (λ e. cc (e)))
alike (ChecksRecord s i d k tree xs w a r) (WaveRefused s' i' n' k' tree' w' o' r') = absurd (apart w w' (λ e. cc (e)))
alike (ChecksRecord s i d k tree xs w a r) (InputRefused i' tree' w' o' c' r') = absurd (refused_no_input xs r' a.read)
alike (ChecksRecord s i d k tree xs w a r) (Runs k' l' tree' xs' w' a' m' f') = absurd (run_is_not_check w' w)
alike (ChecksRecord s i d k tree xs w a r) (RunsSerially s' i' tree' xs' w' a' r') = absurd (apart w w' (λ e. cc (e)))
alike (ChecksRecord s i d k tree xs w a r) (ChecksRecord s' i' d' k' tree' xs' w' a' r') = both_checked tree tree' xs xs' w a r w' a' r'
alike (ChecksRecord s i d k tree xs w a r) (Weighs s' i' tree' xs' w' a' r') = absurd (apart w w' (λ e. cc (e)))
alike (Weighs s i tree xs w a r) (NoCommand n') = absurd (no_command n' w)
alike (Weighs s i tree xs w a r) (SourceRefused s' w' r') = absurd (refused_not_accepted_file tree r' a.program)
alike (Weighs s i tree xs w a r) (Formats s' tree' w' o') = absurd (apart w w' (λ e. cc (e)))
alike (Weighs s i tree xs w a r) (Benches n' m' tree' xs' w' g') = absurd (apart w w' (λ e. cc (e)))
alike (Weighs s i tree xs w a r) (WaveRefused s' i' n' k' tree' w' o' r') = absurd (apart w w' (λ e. cc (e)))
alike (Weighs s i tree xs w a r) (InputRefused i' tree' w' o' c' r') = absurd (refused_no_input xs r' a.read)
alike (Weighs s i tree xs w a r) (Runs k' l' tree' xs' w' a' m' f') = absurd (run_is_not_span w' w)
alike (Weighs s i tree xs w a r) (RunsSerially s' i' tree' xs' w' a' r') = absurd (apart w w' (λ e. cc (e)))
alike (Weighs s i tree xs w a r) (ChecksRecord s' i' d' k' tree' xs' w' a' r') = absurd (apart w w' (λ e. cc (e)))
alike (Weighs s i tree xs w a r) (Weighs s' i' tree' xs' w' a' r') = Same refl (one_weighing tree tree' xs xs' a a' r r') refl refl

-- two rows of a command other than `run` and `wave` are equal
pub one_row : {asked : Option Command} {held : FileContents} {status other : ℕ} {text other_text : List ℕ} {log other_log : Option RunLog}
    {reports other_reports : List Report} → (AsksRun asked → ⊥)
    → ResultRow asked held status text log reports → ResultRow asked held other other_text other_log other_reports
    → (status ≡ other) × (text ≡ other_text) × (log ≡ other_log) × (reports ≡ other_reports)
one_row other_command r r' = elim (alike r r') [
  | Same s t l p ↦ (s, t, l, p)
  | BothRun asks s t ↦ absurd (other_command asks)
]

-- two rows of a command have the same status, and the same text unless the status is 2 or the log is printed
pub one_status : {asked : Option Command} {held : FileContents} {status other : ℕ} {text other_text : List ℕ}
    {log other_log : Option RunLog}
    {reports other_reports : List Report}
    → ResultRow asked held status text log reports → ResultRow asked held other other_text other_log other_reports
    → (status ≡ other) × (asks_record asked ≡ false → status ≢ 2 → text ≡ other_text)
one_status r r' = elim (alike r r') [
  | Same s t l p ↦ (s, λ silent other. t)
  | BothRun asks s t ↦ (s, t)
]
