-- What a play by the choices of a seed returns.
use Rattle.pipe_model.specs.Language.CheckingRules.{BreaksNoRule}
use Rattle.std.proofs.Common.{◌≡◌, ◌∙◌, ap₂, refl, arith, ℕ, ℤ, ◌≤◌, List, Bool, Option, Some, None, IfSome}
use Rattle.std.specs.Prelude.{◌↔◌, IsTrue}
use Rattle.pipe_gen.specs.declared.choices.TheConstants.{MOST_INDEX}
use Rattle.pipe_io.specs.Reads.{Content}
use Rattle.pipe_model.specs.declared.event.RunLog.{RunLog}
use Rattle.pipe_model.specs.declared.report.Report.{Report}
use Rattle.pipe_model.specs.Language.ProgramsOfTrees.{whole_of}
use Rattle.pipe_model.specs.Language.SyntaxTree.{SyntaxTree}
use Rattle.pipe_model.specs.Races.Reports.{AreRight}
use Rattle.pipe_model.specs.Runs.RunLogs.{accesses_after, columns_after, ended_columns_after, state_after}
use Rattle.pipe_model.specs.Runs.Throttling.{IsThrottled}
use Rattle.pipe_model.specs.Runs.WholeProgramRuns.{ProgramIsFinished, ProgramRun}
use Rattle.schedule_play.specs.declared.program_play.Played.{Played}
use Rattle.schedule_play.specs.ProgramPlays.{HasElisionResults, enough_turns, played_events}
use Rattle.schedule_play.specs.SeedChoices.{first_choices}
use Rattle.cilkp_words.specs.Commands.{Command, Play, Run, Wave}
use Rattle.command_results.proofs.HeadlineLaws.{run_returned}
use Rattle.command_results.proofs.OneCommand.{apart, one_command}
use Rattle.command_results.proofs.OneContent.{one_input, one_source}
use Rattle.command_results.specs.CommandFiles.{asks_record}
use Rattle.command_results.specs.PrintedResults.{InputFault, IsCallResult, OfRow, RecordFault, SourceFault}
use Rattle.command_results.specs.declared.command_result.CommandResult.{CommandResult}
use Rattle.command_results.specs.declared.program_run.FinishedRun.{FinishedRun}
use Rattle.command_results.specs.Headline.{IsToRun}
use Rattle.command_results.specs.ProgramFiles.{FileContents}
use Rattle.command_results.specs.RecordedRuns.{HasSeededEvents, IsFinishedLog, IsToPlay, ReturnsRun, seeded_events}
use Rattle.command_results.specs.ResultTable.{ResultRow, NoCommand, SourceRefused, Formats, Benches, WaveRefused, InputRefused, Runs}
use Rattle.command_results.specs.ResultTable.{RunsSerially, ChecksRecord, Weighs, IsLogOf, OfPlay, OfRun, OfWave}
use Rattle.command_results.specs.RunReports.{run_reports}
use Rattle.command_results.specs.RunResults.{IsPlayResult, IsPrintedRun, IsSeededPlay}

-- a play with these choices and enough turns
pub seeded_play : (tree : SyntaxTree) (input : List ℤ) (workers throttle seed : ℕ) (choices : List ℕ) (turns : ℕ) (p : Played)
    → choices ≡ first_choices seed MOST_INDEX → turns ≡ enough_turns tree
    → p.run_log.events ≡ played_events tree input workers throttle choices turns
    → ProgramRun (whole_of tree input) throttle p.run_log.events (state_after p.run_log.events)
    → p.run_log.columns ≡ ended_columns_after p.run_log.events → IsThrottled throttle p.run_log.events
    → IsTrue p.finished ↔ ProgramIsFinished (whole_of tree input) (state_after p.run_log.events) → p.reports ≡ run_reports p.run_log
    → AreRight (columns_after p.run_log.events) (accesses_after p.run_log.events) p.reports
    → (IsTrue p.finished → HasElisionResults (whole_of tree input) p) → (enough_turns tree ≤ turns → IsTrue p.finished)
    → IsSeededPlay tree input workers throttle seed
    (record { output = p.output; trap = p.trap; run_log = p.run_log; reports = p.reports })
seeded_play tree input workers throttle seed choices turns p chosen counted events run columns throttled finished found right elision
    enough =
    let over : IsTrue p.finished = enough (omega (arith, counted)) in
    record {
      events = events ∙ ap₂ (λ cs n. played_events tree input workers throttle cs n) chosen counted;
      run = record {
        run = record { run = run; finished = finished.0 over; columns = columns };
        throttled = throttled;
        found = found;
        right = right;
        output = (elision over).output;
        trap = (elision over).trap;
      };
    }

-- its result
pub play_returned : (tree : SyntaxTree) (input : List ℤ) (workers throttle seed : ℕ) (recording : Bool) (run : FinishedRun)
    (a : CommandResult) → BreaksNoRule tree → IsSeededPlay tree input workers throttle seed run → IsPrintedRun tree.cells recording run a
    → IsPlayResult tree input workers throttle seed recording a
play_returned tree input workers throttle seed recording run a accepted h r =
    record { log = run.run_log; run = run_returned tree input throttle recording run a accepted h.run r; events = h.events }

-- ---- the events of a `play` call

other_log : {asked : Option Command} {tree : SyntaxTree} {numbers : List ℤ} {limit : ℕ} {log : RunLog} (source input : List ℕ)
    (workers throttle seed : ℕ) (recording : Bool) → asked ≡ Some (Play source input workers throttle seed recording)
    → IsLogOf asked tree numbers limit log → log.events ≡ seeded_events tree numbers workers throttle seed
other_log {limit = limit} source input workers throttle seed recording w (OfRun source' input' workers' recording' v) =
    let e : Play source input workers throttle seed recording ≡ Run source' input' workers' limit recording' = one_command w v in
    absurd (cc (e))
other_log {tree = tree} {numbers = numbers} {limit = limit} source input workers throttle seed recording w
    (OfPlay source' input' workers' seed' recording' v is) =
    let e : Play source' input' workers' limit seed' recording' ≡ Play source input workers throttle seed recording = one_command v w in
    let same_workers : workers' ≡ workers = cc (e) in
    let same_limit : limit ≡ throttle = cc (e) in
    let same_seed : seed' ≡ seed = cc (e) in
    is ∙ λ i. seeded_events tree numbers (same_workers i) (same_limit i) (same_seed i)
other_log {limit = limit} source input workers throttle seed recording w (OfWave source' input' workers' v fits) =
    let e : Play source input workers throttle seed recording ≡ Wave source' input' workers' limit = one_command w v in absurd (cc (e))

-- the row of a `play` call
scheduled_row : {asked : Option Command} {content : Content} {held : FileContents} {status : ℕ} {text : List ℕ} {log : Option RunLog}
    {reports : List Report} (tree : SyntaxTree) (numbers : List ℤ) (workers throttle seed : ℕ)
    → (a : IsToPlay asked content tree numbers workers throttle seed) → content a.source ≡ held.source → content a.input ≡ held.input
    → ResultRow asked held status text log reports → HasSeededEvents tree numbers workers throttle seed log
scheduled_row tree numbers workers throttle seed a s i (Runs limit log other others w o m found) =
    let same : other ≡ tree = one_source other tree o.program (rw (← s) a.program) in
    let also : others ≡ numbers = one_input others numbers o.read (rw (← i) a.read) in
    other_log a.source a.input workers throttle seed a.recording a.command w ∙ ap₂ (λ t n. seeded_events t n workers throttle seed) same
    also
scheduled_row tree numbers workers throttle seed a s i (NoCommand none) = tt
scheduled_row tree numbers workers throttle seed a s i (SourceRefused source w r) = tt
scheduled_row tree numbers workers throttle seed a s i (Formats source other w o) = tt
scheduled_row tree numbers workers throttle seed a s i (Benches number size other others w g) = tt
scheduled_row tree numbers workers throttle seed a s i (WaveRefused source input others limit other w o r) = tt
scheduled_row tree numbers workers throttle seed a s i (InputRefused input other w o can r) = tt
scheduled_row tree numbers workers throttle seed a s i (RunsSerially source input other others w o r) = tt
scheduled_row tree numbers workers throttle seed a s i (ChecksRecord source input saved limit other others w o r) =
    absurd (apart a.command w (λ e. cc (e)))
scheduled_row tree numbers workers throttle seed a s i (Weighs source input other others w o r) = absurd (apart a.command w (λ e. cc (e)))

scheduled_result : {asked : Option Command} {content : Content} {before now status : ℕ} {text : List ℕ} {log : Option RunLog}
    {reports : List Report}
    (tree : SyntaxTree) (numbers : List ℤ) (workers throttle seed : ℕ)
    → IsToPlay asked content tree numbers workers throttle seed → IsCallResult asked (Some content) before now status text log reports
    → HasSeededEvents tree numbers workers throttle seed log
scheduled_result tree numbers workers throttle seed a (OfRow same row) =
    scheduled_row tree numbers workers throttle seed a (row.known.source a.source (rw a.command refl))
    (row.known.input a.input (rw a.command refl)) row.row
scheduled_result tree numbers workers throttle seed a (SourceFault s grew rose w) = tt
scheduled_result tree numbers workers throttle seed a (InputFault s i file other grew rose w v known of can) = tt
scheduled_result tree numbers workers throttle seed a (RecordFault s i r file others other ns grew rose w v u known also of read) = tt

-- the events of a call
pub call_is_scheduled : (asked : Option Command) (holds : Option Content) (before now status : ℕ) (text : List ℕ) (log : Option RunLog)
    (reports : List Report)
    → IsCallResult asked holds before now status text log reports
    → IfSome holds (λ content. (tree : SyntaxTree) (numbers : List ℤ) (workers throttle seed : ℕ)
    → IsToPlay asked content tree numbers workers throttle seed
    → HasSeededEvents tree numbers workers throttle seed log)
call_is_scheduled asked None before now status text log reports outcome = tt
call_is_scheduled asked (Some content) before now status text log reports outcome =
    λ tree numbers workers throttle seed a. scheduled_result tree numbers workers throttle seed a outcome

-- ---- a `play` call finishes

-- its command is one that makes a run under its throttling limit
is_to_run : {asked : Option Command} {content : Content} {tree : SyntaxTree} {numbers : List ℤ} {workers throttle seed : ℕ}
    → IsToPlay asked content tree numbers workers throttle seed → IsToRun asked content tree numbers throttle
is_to_run {throttle = throttle} a = record {
  source = a.source;
  input = a.input;
  throttle = throttle;
  names_source = rw a.command refl;
  names_input = rw a.command refl;
  runs = rw a.command refl;
  within = omega arith;
  program = a.program;
  read = a.read;
}

-- so it returns a finished run
pub plays_finish : (asked : Option Command) (holds : Option Content) (status written : ℕ) (log : Option RunLog) (reports : List Report)
    (taken_before taken_now : Option (List ℕ))
    → IfSome holds (λ content. (tree : SyntaxTree) (numbers : List ℤ) (limit : ℕ) → IsToRun asked content tree numbers limit
    → ReturnsRun (asks_record asked) tree numbers limit status written log reports taken_before taken_now)
    → IfSome holds (λ content. (tree : SyntaxTree) (numbers : List ℤ) (workers throttle seed : ℕ)
    → IsToPlay asked content tree numbers workers throttle seed → IsFinishedLog tree numbers log)
plays_finish asked None status written log reports taken_before taken_now headline = tt
plays_finish asked (Some content) status written log reports taken_before taken_now headline =
    λ tree numbers workers throttle seed a.
    let h = headline tree numbers throttle (is_to_run a) in
    record { log = h.log; logged = h.logged; finished = h.meets.meets.run.finished }
