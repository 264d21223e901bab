-- A row that runs a program meets the headline.
use Rattle.pipe_model.specs.Language.CheckingRules.{BreaksNoRule}
use Rattle.std.proofs.Common.{◌≡◌, ◌≢◌, ◌≤◌, ◌∙◌, ◌↔◌, ◌++◌, Bool, ℕ, ℤ, List, [], Option, Some, None, IfSome, append-nil, ap, arith, refl}
use Rattle.std.proofs.Common.{subst, sym}
use Rattle.pipe_model.specs.declared.event.RunLog.{RunLog}
use Rattle.pipe_model.specs.declared.report.Report.{Report}
use Rattle.pipe_model.specs.Language.SyntaxTree.{SyntaxTree}
use Rattle.pipe_io.specs.Faults.{CountRose}
use Rattle.pipe_io.specs.Reads.{Content}
use Rattle.cilkp_words.specs.Commands.{Command}
use Rattle.command_results.proofs.Agreements.{agreed_status}
use Rattle.program_laws.proofs.Headlines.{runs_meet_the_headline}
use Rattle.pipe_model.specs.declared.trap.TrapAt.{TrapAt}
use Rattle.pipe_model.specs.Races.Reports.{AreRight}
use Rattle.pipe_model.specs.Runs.RunLogs.{accesses_after, columns_after}
use Rattle.pipe_model.specs.Texts.{output_lines, trap_lines}
use Rattle.pipe_model.specs.Language.ProgramsOfTrees.{whole_of}
use Rattle.pipe_model.specs.Runs.Throttling.{IsThrottled}
use Rattle.pipe_model.specs.Runs.WholeProgramRuns.{IsFinishedProgramRun}
use Rattle.command_results.proofs.GreaterLimits.{meets_more}
use Rattle.command_results.specs.RunTexts.{IsPrintedAs, WithRaces, ToItsEnd, WithTrap}
use Rattle.command_results.proofs.OneCommand.{one_limit, runs_no_command, runs_no_wave, runs_nothing}
use Rattle.command_results.proofs.OneContent.{one_input, one_source, refused_no_input, refused_not_accepted_file}
use Rattle.command_results.specs.PrintedResults.{IsCallResult, OfRow, SourceFault, InputFault, RecordFault, IsPrinted}
use Rattle.command_results.specs.Headline.{AgreesWithElision, IsToRun, MeetsHeadline}
use Rattle.command_results.specs.CommandFiles.{asks_record, asks_wave, program_by}
use Rattle.command_results.specs.declared.command_result.CommandResult.{CommandResult}
use Rattle.command_results.specs.declared.program_run.FinishedRun.{FinishedRun}
use Rattle.command_results.specs.RecordedRuns.{IsRecordedRun, ReturnsRun}
use Rattle.command_results.specs.RunResults.{HasRun, IsFinishedRunOf, IsPrintedRun}
use Rattle.command_results.specs.ProgramFiles.{FileContents}
use Rattle.command_results.specs.ResultTable.{ResultRow, NoCommand, SourceRefused, Formats, Benches, WaveRefused, InputRefused, Runs}
use Rattle.command_results.specs.ResultTable.{RunsSerially, ChecksRecord, Weighs}
use Rattle.command_results.specs.SerialResults.{ElisionHasNoRace, elision_output, elision_trap}

-- what is printed for the elision's output and trap, or for reports that are there exactly if the elision has a race, agrees with the
-- elision
printed_agrees : (tree : SyntaxTree) (numbers output : List ℤ) (trap : Option TrapAt) (reports : List Report) {status : ℕ} {text : List ℕ}
    → (reports ≡ []) ↔ ElisionHasNoRace tree numbers → (reports ≡ [] → output ≡ elision_output tree numbers)
    → (reports ≡ [] → trap ≡ elision_trap tree numbers)
    → IsPrintedAs tree.cells output trap reports status text → AgreesWithElision tree numbers reports status text
printed_agrees tree numbers output trap reports silent o t (WithRaces some) =
    let racy : ElisionHasNoRace tree numbers → ⊥ = λ free. some (silent.1 free) in
    record {
      silent = silent;
      racy = (λ e. racy, λ e. refl);
      races = λ e. refl;
      otherwise = λ free. absurd (racy free);
      trapped = ((λ e. absurd (omega (arith, e))), λ free. absurd (racy free.0));
      untrapped = ((λ e. absurd (omega (arith, e))), λ free. absurd (racy free.0));
    }
printed_agrees tree numbers output trap reports silent o t (ToItsEnd none ends) =
    let free = silent.0 none in
    let all = o none in
    let no_trap : elision_trap tree numbers ≡ None = sym (t none) ∙ ends in
    record {
      silent = silent;
      racy = ((λ e. absurd (omega (arith, e))), λ some. absurd (some free));
      races = λ e. absurd (omega (arith, e));
      otherwise = λ e. sym (append-nil (output_lines output)) ∙ (λ i. output_lines (all i) ++ trap_lines (sym no_trap i));
      trapped = ((λ e. absurd (omega (arith, e))), λ some. absurd (some.1 no_trap));
      untrapped = (λ e. (free, no_trap), λ e. refl);
    }
printed_agrees tree numbers output trap reports silent o t (WithTrap at none ends) =
    let free = silent.0 none in
    let all = o none in
    let is : elision_trap tree numbers ≡ Some at = sym (t none) ∙ ends in
    let some : elision_trap tree numbers ≢ None = λ none. (let d : None ≡ Some at = sym none ∙ is in cc (d)) in
    record {
      silent = silent;
      racy = ((λ e. absurd (omega (arith, e))), λ racy. absurd (racy free));
      races = λ e. absurd (omega (arith, e));
      otherwise = λ e. λ i. output_lines (all i) ++ trap_lines (sym is i);
      trapped = (λ e. (free, some), λ e. refl);
      untrapped = ((λ e. absurd (omega (arith, e))), λ none. absurd (some none.1));
    }

-- a finished run of the program, and what is printed for it, meet the headline
pub run_meets : (tree : SyntaxTree) (numbers : List ℤ) (limit : ℕ) (log : RunLog) (output : List ℤ) (trap : Option TrapAt)
    (reports : List Report) {status : ℕ} {text : List ℕ} → BreaksNoRule tree → IsFinishedProgramRun (whole_of tree numbers) limit log
    → IsThrottled limit log.events → AreRight (columns_after log.events) (accesses_after log.events) reports
    → (reports ≡ [] → output ≡ elision_output tree numbers) → (reports ≡ [] → trap ≡ elision_trap tree numbers)
    → IsPrintedAs tree.cells output trap reports status text → MeetsHeadline tree numbers limit log reports status text
run_meets tree numbers limit log output trap reports form run throttled right o t printed =
    let whole = runs_meet_the_headline tree numbers limit log reports [] form run right in
    record {
      run = run;
      reported = right;
      agrees = printed_agrees tree numbers output trap reports whole.agrees.silent o t printed;
      throttled =
          throttled;
    }

-- the result of a call that makes a finished run of the program and prints it
pub run_returned : (tree : SyntaxTree) (input : List ℤ) (throttle : ℕ) (recording : Bool) (run : FinishedRun) (a : CommandResult)
    → BreaksNoRule tree → IsFinishedRunOf tree input throttle run → IsPrintedRun tree.cells recording run a
    → HasRun tree input throttle recording run.run_log a
run_returned tree input throttle recording run a accepted h r = record {
  logged = r.logged;
  meets = record {
    outcome = r.outcome;
    text_is = r.text;
    meets = subst (λ found. MeetsHeadline tree input throttle run.run_log found a.status r.outcome) (sym r.reports)
        (run_meets tree input throttle run.run_log run.output run.trap run.reports accepted h.run h.throttled h.right h.output h.trap
        r.printed);
  };
  found = r.reports ∙ h.found;
}

-- the result describes a run of the program
record IsRunOf (recording : Bool) (tree : SyntaxTree) (numbers : List ℤ) (limit status : ℕ) (text : List ℕ) (run_log : Option RunLog)
    (reports : List Report)
    : Type 0 where
  log : RunLog
  logged : run_log ≡ Some log
  meets : IsRecordedRun recording tree numbers limit log reports status text

-- what meets the headline under a limit meets it under a greater one
recorded_more : {recording : Bool} {tree : SyntaxTree} {numbers : List ℤ} (limit more : ℕ) {log : RunLog} {reports : List Report}
    {status : ℕ} {text : List ℕ}
    → limit ≤ more → IsRecordedRun recording tree numbers limit log reports status text → IsRecordedRun recording tree numbers more log
    reports status text
recorded_more limit more le h = record { outcome = h.outcome; text_is = h.text_is; meets = meets_more limit more le h.meets }

accepted_row : {asked : Option Command} {content : Content} {held : FileContents} {status : ℕ} {text : List ℕ} {log : Option RunLog}
    {reports : List Report} (tree : SyntaxTree) (numbers : List ℤ) (limit : ℕ)
    → (a : IsToRun asked content tree numbers limit) → content a.source ≡ held.source → content a.input ≡ held.input
    → ResultRow asked held status text log reports → IsRunOf (asks_record asked) tree numbers limit status text log reports
accepted_row tree numbers limit a s i (NoCommand none) = absurd (runs_no_command none a.runs)
accepted_row tree numbers limit a s i (SourceRefused source w r) = absurd (refused_not_accepted_file tree r (rw (← s) a.program))
accepted_row tree numbers limit a s i (Formats source other w o) = absurd (runs_nothing w refl a.runs)
accepted_row tree numbers limit a s i (Benches seed size other others w g) = absurd (runs_nothing w refl a.runs)
accepted_row tree numbers limit a s i (WaveRefused source input workers throttle other w o r) = absurd (runs_nothing w refl a.runs)
accepted_row tree numbers limit a s i (InputRefused input other w o can r) = absurd (refused_no_input numbers r (rw (← i) a.read))
accepted_row {asked} {status = status} {text = text} {reports = reports} tree numbers limit a s i
    (Runs throttle log other others w o m found) =
    let same : other ≡ tree = one_source other tree o.program (rw (← s) a.program) in
    let also : others ≡ numbers = one_input others numbers o.read (rw (← i) a.read) in
    let bound : throttle ≡ a.throttle = one_limit w a.runs in
    let within = a.within in
    let plain : program_by (asks_wave asked) other ≡ tree = ap (λ wave. program_by wave other) (runs_no_wave asked a.throttle a.runs)
    ∙ same in
    let made : IsRecordedRun (asks_record asked) tree numbers throttle log reports status text =
    subst (λ t. IsRecordedRun (asks_record asked) t numbers throttle log reports status text) plain
    (subst (λ n. IsRecordedRun (asks_record asked) (program_by (asks_wave asked) other) n throttle log reports status text) also m) in
    record { log = log; logged = refl; meets = recorded_more throttle limit (omega (arith, bound, within)) made }
accepted_row tree numbers limit a s i (RunsSerially source input other others w o r) = absurd (runs_nothing w refl a.runs)
accepted_row tree numbers limit a s i (ChecksRecord source input saved throttle other others w o r) = absurd (runs_nothing w refl a.runs)
accepted_row tree numbers limit a s i (Weighs source input other others w o r) = absurd (runs_nothing w refl a.runs)

-- the result of a call that runs an accepted program, if no read failed
result_meets : {asked : Option Command} {content : Content} {before now status : ℕ} {text : List ℕ} {log : Option RunLog}
    {reports : List Report}
    (tree : SyntaxTree) (numbers : List ℤ) (limit : ℕ)
    → ¬ (CountRose before now) → IsToRun asked content tree numbers limit → IsCallResult asked
    (Some content) before now status text log reports
    → IsRunOf (asks_record asked) tree numbers limit status text log reports
result_meets tree numbers limit calm a (OfRow same row) =
    accepted_row tree numbers limit a (row.known.source a.source a.names_source) (row.known.input a.input a.names_input) row.row
result_meets tree numbers limit calm a (SourceFault s grew rose w) = absurd (calm rose)
result_meets tree numbers limit calm a (InputFault s i file other grew rose w v known of can) = absurd (calm rose)
result_meets tree numbers limit calm a (RecordFault s i r file others other ns grew rose w v u known also of read) = absurd (calm rose)

-- the headline of a call whose text was written completely
pub printed_meets : (asked : Option Command) (holds : Option Content) (before now status written : ℕ) (log : Option RunLog)
    (reports : List Report)
    (taken_before taken_now : Option (List ℕ)) → ¬ (CountRose before now) → IsPrinted asked holds before now status written log reports
    taken_before taken_now
    → IfSome holds (λ content. (tree : SyntaxTree) (numbers : List ℤ) (limit : ℕ) → IsToRun asked content tree numbers limit
    → ReturnsRun (asks_record asked) tree numbers limit status written log reports taken_before taken_now)
printed_meets asked None before now status written log reports taken_before taken_now calm printed = tt
printed_meets asked (Some content) before now status written log reports taken_before taken_now calm printed = λ tree numbers limit a. (
    let h = result_meets tree numbers limit calm a printed.outcome in
    record {
      log = h.log;
      logged = h.logged;
      text = printed.text;
      whole = printed.whole;
      taken = printed.taken;
      complete = agreed_status h.meets.meets.agrees;
      meets = h.meets;
    })
