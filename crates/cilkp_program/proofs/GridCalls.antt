-- The result of a call that runs a wave loop: the headline of its lowered program, whose serial elision is the grid.
use Rattle.std.proofs.Common.{◌≡◌, ◌∙◌, ◌++◌, ap, ap₂, arith, refl, subst, sym, ℕ, ℤ, List, Option, Some, None, IfSome, true, false}
use Rattle.pipe_model.specs.declared.event.RunLog.{RunLog}
use Rattle.pipe_model.specs.declared.report.Report.{Report}
use Rattle.pipe_model.specs.Language.CheckingRules.{BreaksNoRule}
use Rattle.pipe_model.specs.Language.SyntaxTree.{SyntaxTree}
use Rattle.pipe_model.specs.Texts.{output_lines, trap_lines}
use Rattle.pipe_io.specs.Faults.{CountRose}
use Rattle.pipe_io.specs.Reads.{Content}
use Rattle.wave_laws.proofs.GridRaces.{lowered_races_are_those_of_the_grid}
use Rattle.wave_laws.proofs.Grids.{lowered_waves_are_grids}
use Rattle.wave_laws.proofs.WavesHaveNoFault.{waves_have_no_fault}
use Rattle.wave_laws.specs.Waves.LoweredLoops.{lowered}
use Rattle.wave_laws.specs.Waves.WaveLoops.{IsWave}
use Rattle.cilkp_words.specs.Commands.{Command, Wave}
use Rattle.command_results.proofs.Agreements.{agreed_status}
use Rattle.command_results.proofs.GreaterLimits.{meets_more}
use Rattle.command_results.proofs.OneCommand.{apart, no_command, one_command}
use Rattle.command_results.proofs.OneContent.{one_input, one_source, refused_no_input, refused_not_accepted_file}
use Rattle.command_results.proofs.OneRow.{unrecorded}
use Rattle.command_results.proofs.OneWave.{refused_no_wave}
use Rattle.command_results.specs.PrintedResults.{IsCallResult, OfRow, SourceFault, InputFault, RecordFault, IsPrinted}
use Rattle.command_results.specs.CommandFiles.{asks_record, asks_wave, program_by}
use Rattle.command_results.specs.Headline.{AgreesWithElision, MeetsHeadline}
use Rattle.command_results.specs.ProgramFiles.{FileContents, IsSourceOf}
use Rattle.command_results.specs.RecordedRuns.{IsRecordedRun}
use Rattle.command_results.specs.ResultTable.{IsLogOf, OfPlay, OfRun, OfWave, ResultRow, NoCommand, SourceRefused, Formats, Benches}
use Rattle.command_results.specs.ResultTable.{WaveRefused, InputRefused, Runs, RunsSerially, ChecksRecord, Weighs}
use Rattle.cilkp_program.specs.WaveCalls.{AgreesWithGrid, IsToRunWave, ReturnsGrid}

-- what agrees with the elision of the lowered program agrees with the grid
agrees_with_grid : (tree : SyntaxTree) (numbers : List ℤ) (reports : List Report) {status : ℕ} {text : List ℕ} → IsWave tree
    → BreaksNoRule tree
    → AgreesWithElision (lowered tree) numbers reports status text → AgreesWithGrid tree numbers reports status text
agrees_with_grid tree numbers reports wave obeys h =
    let grid = lowered_waves_are_grids tree numbers wave obeys in
    let calm = lowered_races_are_those_of_the_grid (lowered tree) tree numbers grid in
    record {
      silent = ((λ e. calm.0 (h.silent.0 e)), λ g. h.silent.1 (calm.1 g));
      racy = ((λ e g. h.racy.0 e (calm.1 g)), λ n. h.racy.1 (λ f. n (calm.0 f)));
      races = h.races;
      otherwise = λ g. h.otherwise (calm.1 g) ∙ ap₂ (λ o t. output_lines o ++ trap_lines t) grid.output grid.trap;
      trapped = (
        (λ e. (calm.0 ((h.trapped.0 e).0), λ none. (h.trapped.0 e).1 (grid.trap ∙ none))),
        λ p. h.trapped.1 (calm.1 p.0, λ none. p.1 (sym grid.trap ∙ none)),
      );
      untrapped = (
        (λ e. (calm.0 ((h.untrapped.0 e).0), sym grid.trap ∙ (h.untrapped.0 e).1)),
        λ p. h.untrapped.1 (calm.1 p.0, grid.trap ∙ p.1),
      );
    }

-- the result describes a run of the lowered program
record IsGridRun (tree : SyntaxTree) (numbers : List ℤ) (limit status : ℕ) (text : List ℕ) (run_log : Option RunLog)
    (reports : List Report) : Type 0 where
  log : RunLog
  logged : run_log ≡ Some log
  meets : MeetsHeadline (lowered tree) numbers limit log reports status text

-- the limit of a `wave` command
wave_limit : {asked : Option Command} {tree : SyntaxTree} {numbers : List ℤ} {throttle limit workers : ℕ} {source input : List ℕ}
    {log : RunLog}
    → IsLogOf asked tree numbers throttle log → asked ≡ Some (Wave source input workers limit) → throttle ≡ limit
wave_limit (OfRun source input workers recording w) v = absurd (apart w v (λ e. cc (e)))
wave_limit (OfPlay source input workers seed recording w is) v = absurd (apart w v (λ e. cc (e)))
wave_limit {throttle = throttle} {limit = limit} {workers = workers} {source = source} {input = input}
    (OfWave source' input' workers' w fits) v =
    let e : Wave source' input' workers' throttle ≡ Wave source input workers limit = one_command w v in cc (e)

obeys_rules : {file : Option (List ℕ)} (tree : SyntaxTree) → IsSourceOf file tree → BreaksNoRule tree
obeys_rules tree s = record { obeys = s.accepted.obeys }

grid_row : {asked : Option Command} {content : Content} {held : FileContents} {status : ℕ} {text : List ℕ} {log : Option RunLog}
    {reports : List Report} (tree : SyntaxTree) (numbers : List ℤ) (limit : ℕ)
    → (a : IsToRunWave asked content tree numbers limit) → content a.source ≡ held.source → content a.input ≡ held.input
    → ResultRow asked held status text log reports → IsGridRun tree numbers limit status text log reports
grid_row tree numbers limit a s i (NoCommand none) = absurd (no_command none a.command)
grid_row tree numbers limit a s i (SourceRefused source w r) = absurd (refused_not_accepted_file tree r (rw (← s) a.program))
grid_row tree numbers limit a s i (Formats source other w o) = absurd (apart a.command w (λ e. cc (e)))
grid_row tree numbers limit a s i (Benches seed size other others w g) = absurd (apart a.command w (λ e. cc (e)))
grid_row tree numbers limit a s i (WaveRefused source input workers throttle other w o r) =
    absurd (refused_no_wave other tree (one_source other tree o (rw (← s) a.program))
    (waves_have_no_fault tree a.wave (obeys_rules tree a.program)) r)
grid_row tree numbers limit a s i (InputRefused input other w o can r) = absurd (refused_no_input numbers r (rw (← i) a.read))
grid_row {asked} {status = status} {text = text} {reports = reports} tree numbers limit a s i (Runs throttle log other others w o m found) =
    let same : other ≡ tree = one_source other tree o.program (rw (← s) a.program) in
    let also : others ≡ numbers = one_input others numbers o.read (rw (← i) a.read) in
    let wave : asks_wave asked ≡ true = rw a.command refl in
    let silent : asks_record asked ≡ false = rw a.command refl in
    let program : program_by (asks_wave asked) other ≡ lowered tree = ap (λ b. program_by b other) wave ∙ ap lowered same in
    let made : IsRecordedRun (asks_record asked) (lowered tree) numbers throttle log reports status text =
    subst (λ t. IsRecordedRun (asks_record asked) t numbers throttle log reports status text) program
    (subst (λ n. IsRecordedRun (asks_record asked) (program_by (asks_wave asked) other) n throttle log reports status text) also m) in
    let bound : throttle ≡ a.throttle = wave_limit w a.command in
    let within = a.within in
    let text_is : text ≡ made.outcome = unrecorded (asks_record asked) (lowered tree) log made.outcome silent made.text_is in
    record {
      log = log;
      logged = refl;
      meets = subst (λ x. MeetsHeadline (lowered tree) numbers limit log reports status x) (sym text_is)
          (meets_more throttle limit (omega (arith, bound, within)) made.meets);
    }
grid_row tree numbers limit a s i (RunsSerially source input other others w o r) = absurd (apart a.command w (λ e. cc (e)))
grid_row tree numbers limit a s i (ChecksRecord source input saved throttle other others w o r) = absurd (apart a.command w (λ e. cc (e)))
grid_row tree numbers limit a s i (Weighs source input other others w o r) = absurd (apart a.command w (λ e. cc (e)))

-- the result of a call that runs a wave loop, if no read failed
grid_result : {asked : Option Command} {content : Content} {before now status : ℕ} {text : List ℕ} {log : Option RunLog}
    {reports : List Report}
    (tree : SyntaxTree) (numbers : List ℤ) (limit : ℕ)
    → ¬ (CountRose before now) → IsToRunWave asked content tree numbers limit → IsCallResult asked
    (Some content) before now status text log reports
    → IsGridRun tree numbers limit status text log reports
grid_result tree numbers limit calm a (OfRow same row) =
    grid_row tree numbers limit a (row.known.source a.source (rw a.command refl)) (row.known.input a.input (rw a.command refl)) row.row
grid_result tree numbers limit calm a (SourceFault s grew rose w) = absurd (calm rose)
grid_result tree numbers limit calm a (InputFault s i file other grew rose w v known of can) = absurd (calm rose)
grid_result tree numbers limit calm a (RecordFault s i r file others other ns grew rose w v u known also of read) = absurd (calm rose)

-- a call whose text was written completely
pub printed_grid : (asked : Option Command) (holds : Option Content) (before now status written : ℕ) (log : Option RunLog)
    (reports : List Report)
    (taken_before taken_now : Option (List ℕ)) → ¬ (CountRose before now) → IsPrinted asked holds before now status written log reports
    taken_before taken_now
    → IfSome holds (λ content. (tree : SyntaxTree) (numbers : List ℤ) (limit : ℕ) → IsToRunWave asked content tree numbers limit
    → ReturnsGrid tree numbers limit status written log reports taken_before taken_now)
printed_grid asked None before now status written log reports taken_before taken_now calm printed = tt
printed_grid asked (Some content) before now status written log reports taken_before taken_now calm printed = λ tree numbers limit a. (
    let h = grid_result tree numbers limit calm a printed.outcome in
    record {
      log = h.log;
      logged = h.logged;
      text = printed.text;
      whole = printed.whole;
      taken = printed.taken;
      complete = agreed_status h.meets.agrees;
      run = h.meets.run;
      reported = h.meets.reported;
      agrees = agrees_with_grid tree numbers reports a.wave (obeys_rules tree a.program) h.meets.agrees;
      throttled = h.meets.throttled;
    })
