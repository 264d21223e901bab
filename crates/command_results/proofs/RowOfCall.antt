-- Which row a call has.
use Rattle.std.proofs.Common.{◌≡◌, ◌∙◌, ℕ, ℤ, Bool, true, false, List, [], Option, Some, None, Result, Ok, Err, IfOk, IfSome, refl, ap, sym}
use Rattle.std.proofs.Common.{subst, inl, inr}
use Rattle.std.specs.Prelude.{option_and_then}
use Rattle.pipe_model.specs.declared.event.RunLog.{RunLog}
use Rattle.pipe_model.specs.declared.report.Report.{Report}
use Rattle.pipe_model.specs.declared.memory.NoMemory.{NoMemory}
use Rattle.pipe_model.specs.Language.CanonicalText.{program_text}
use Rattle.pipe_model.specs.Language.SyntaxTree.{SyntaxTree, tree_of}
use Rattle.pipe_model.specs.declared.tree.Program.{Program}
use Rattle.pipe_model.specs.Texts.{fault_read, refused_usage}
use Rattle.pipe_io.specs.Faults.{CountsFault}
use Rattle.pipe_io.specs.Reads.{Content}
use Rattle.workload_laws.proofs.AcceptedSources.{accepted}
use Rattle.workload_laws.proofs.ReadInputs.{inputs_are_read}
use Rattle.workload_laws.specs.GeneratedNumbers.{items_from}
use Rattle.workload_laws.specs.GeneratedPrograms.{generated_tree}
use Rattle.cilkp_words.specs.CommandRanges.{IsInRange}
use Rattle.cilkp_words.specs.Commands.{Command, Run, Play, Serial, Format, Bench, CheckRecord, Wave, Span}
use Rattle.command_results.specs.declared.command_result.CommandResult.{CommandResult}
use Rattle.command_results.specs.declared.load.Source.TheVariants as sources
use Rattle.command_results.specs.declared.load.Input.TheVariants as inputs
use Rattle.command_results.specs.PrintedResults.{IsCallResult, OfRow, SourceFault, InputFault, RecordFault}
use Rattle.command_results.specs.CommandFiles.{NamesInput, NamesRecord, NamesSource, asks_record, asks_wave, input_in, record_in, source_in}
use Rattle.command_results.specs.LoadedFiles.{IsInputResult, IsSourceResult}
use Rattle.command_results.specs.LoadedRecords.{IsSavedResult, Judged, Unread}
use Rattle.command_results.specs.RecordResults.{RecordResult}
use Rattle.command_results.specs.RunnablePrograms.{IsRunnableResult, IsSourceOfNoWave}
use Rattle.command_results.specs.declared.wave_loop.Runnable.TheVariants as runnables
use Rattle.command_results.specs.ProgramFiles.{AreHeldBy, FileContents, SourceRefusal}
use Rattle.command_results.specs.SerialResults.{ElisionResult}
use Rattle.command_results.specs.SpanResults.{IsSpanText}
use Rattle.command_results.specs.Benchmarks.{IsGenerated, elision_summary}
use Rattle.command_results.specs.ResultTable.{IsLogOf, OfPlay, OfRun, OfWave, NoCommand, SourceRefused, Formats, Benches, WaveRefused}
use Rattle.command_results.specs.ResultTable.{InputRefused, Runs, RunsSerially, ChecksRecord, Weighs}
use Rattle.command_results.specs.PreparedFiles.{AreReady}
use Rattle.command_results.specs.RecordedRuns.{IsRecordedRun, seeded_events}
use Rattle.command_results.specs.RunResults.{IsPlayResult, IsRunResult}
use Rattle.command_results.specs.RunReports.{run_reports}
use Rattle.command_results.proofs.OneCommand.{bench_has_no_input, bench_has_no_record, bench_has_no_source, no_input, no_record, no_source}
use Rattle.command_results.proofs.OneCommand.{wave_command}
use Rattle.command_results.proofs.Loading.{source_of_marked}
use Rattle.command_results.proofs.OneContent.{one_held}

-- ---- the content of the files, which does not change during the call

-- the content of a file that is not read, if there is one and it is known
abbrev unread : Option Content → Option (List ℕ) → Option (List ℕ)
unread None name = None
unread (Some content) None = None
unread (Some content) (Some name) = content name

-- the files of a command that reads a source and an input
abbrev with_input : (file other : Option (List ℕ)) → Option Content → Option Command → FileContents
with_input file other holds asked = record { source = file; input = other; saved = unread holds (option_and_then record_in asked) }

-- the content of the files of a command with an input, if it is known
files_known : (asked : Option Command) (holds : Option Content) (source input : List ℕ) (file other : Option (List ℕ))
    → NamesSource asked source
    → NamesInput asked input → IfSome holds (λ content. content source ≡ file) → IfSome holds (λ content. content input ≡ other)
    → IfSome holds (λ content. AreHeldBy content asked (with_input file other holds asked))
files_known asked None source input file other n m s i = tt
files_known asked (Some content) source input file other n m s i = record {
  source = λ name named. ap content (one_held (option_and_then source_in asked) name source named n) ∙ s;
  input = λ name named. ap content (one_held (option_and_then input_in asked) name input named m) ∙ i;
  saved = λ name named. rw named refl;
}

-- the content of the files of a command with a record, if it is known
all_known : (asked : Option Command) (holds : Option Content) (source input saved : List ℕ) (held : FileContents) → NamesSource asked source
    → NamesInput asked input → NamesRecord asked saved → IfSome holds (λ content. content source ≡ held.source)
    → IfSome holds (λ content. content input ≡ held.input) → IfSome holds (λ content. content saved ≡ held.saved)
    → IfSome holds (λ content. AreHeldBy content asked held)
all_known asked None source input saved held n m r s i t = tt
all_known asked (Some content) source input saved held n m r s i t = record {
  source = λ name named. ap content (one_held (option_and_then source_in asked) name source named n) ∙ s;
  input = λ name named. ap content (one_held (option_and_then input_in asked) name input named m) ∙ i;
  saved = λ name named. ap content (one_held (option_and_then record_in asked) name saved named r) ∙ t;
}

-- the files of a command that reads only a source
abbrev with_source : Option (List ℕ) → Option Content → Option Command → FileContents
with_source file holds asked = record {
  source = file;
  input = unread holds (option_and_then input_in asked);
  saved = unread holds (option_and_then record_in asked);
}

-- the content of the files of a command whose input is not read, if it is known
source_known : (asked : Option Command) (holds : Option Content) (source : List ℕ) (file : Option (List ℕ)) → NamesSource asked source
    → IfSome holds (λ content. content source ≡ file) → IfSome holds (λ content. AreHeldBy content asked (with_source file holds asked))
source_known asked None source file n s = tt
source_known asked (Some content) source file n s = record {
  source = λ name named. ap content (one_held (option_and_then source_in asked) name source named n) ∙ s;
  input = λ name named. rw named refl;
  saved = λ name named. rw named refl;
}

-- the files of words that are no command, or of a command without files
abbrev no_content : FileContents
no_content = record { source = None; input = None; saved = None }

-- ---- the result of each kind of call

-- words that are no command
pub result_no_command : (asked : Option Command) (holds : Option Content) (faults : ℕ) (text : List ℕ) → asked ≡ None → text ≡ refused_usage
    → IsCallResult asked holds faults faults 1 text None []
result_no_command asked holds faults text none t =
    rw t (OfRow refl (record { held = no_content; known = known holds; row = NoCommand none }))
  where
    known : (holds : Option Content) → IfSome holds (λ content. AreHeldBy content asked no_content)
    known None = tt
    known (Some content) = record {
      source = λ name named. absurd (no_source none named);
      input = λ name named. absurd (no_input none named);
      saved = λ name named. absurd (no_record none named);
    }

-- a source that could not be read
pub source_failed : (asked : Option Command) (holds : Option Content) (before now : ℕ) (source : List ℕ) → NamesSource asked source
    → CountsFault true before now → IsCallResult asked holds before now 4 (fault_read source) None []
source_failed asked holds before now source w rose = SourceFault source rose.0 rose.1 w

-- a source that is refused
file_refused : (holds : Option Content) (before now : ℕ) (source text : List ℕ) (file : Option (List ℕ)) → CountsFault false before now
    → IfSome holds (λ content. content source ≡ file) → SourceRefusal source file text → (asked : Option Command) → NamesSource asked source
    → IsCallResult asked holds before now 1 text None []
file_refused holds before now source text file same known r asked n = OfRow same (record {
  held = with_source file holds asked;
  known = source_known asked holds source file n known;
  row = SourceRefused source n r;
})

pub source_refused : (holds : Option Content) (before now : ℕ) (source text : List ℕ) → CountsFault false before now
    → IsSourceResult holds source (sources.Refused text) → (asked : Option Command) → NamesSource asked source
    → IsCallResult asked holds before now 1 text None []
source_refused holds before now source text same s asked n = file_refused holds before now source text s.file same s.known s.result_is
    asked n

-- a program that is refused as a wave loop
wave_refused : (holds : Option Content) (before now : ℕ) (source text : List ℕ) (file : Option (List ℕ)) → CountsFault false before now
    → IfSome holds (λ content. content source ≡ file) → IsSourceOfNoWave file text → (asked : Option Command) → NamesSource asked source
    → asks_wave asked ≡ true → IsCallResult asked holds before now 1 text None []
wave_refused holds before now source text file same known r asked n is = let w = wave_command asked is in OfRow same (record {
  held = with_source file holds asked;
  known = source_known asked holds source file n known;
  row = WaveRefused w.source w.input w.workers w.throttle r.tree w.command r.accepted r.refused;
})

-- a source that is refused before it is run
pub runnable_refused : (holds : Option Content) (before now : ℕ) (source text : List ℕ) (wave : Bool) → CountsFault false before now
    → IsRunnableResult holds source wave (runnables.Refused text) → (asked : Option Command) → NamesSource asked source
    → asks_wave asked ≡ wave
    → IsCallResult asked holds before now 1 text None []
runnable_refused holds before now source text wave same s asked n is = elim s.result_is [
  | inl r ↦ file_refused holds before now source text s.file same s.known r asked n
  | inr r ↦ wave_refused holds before now source text s.file same s.known r.1 asked n (is ∙ r.0)
]

-- a program that is printed
pub program_printed : (holds : Option Content) (before now : ℕ) (source : List ℕ) (checked : Program) (places : List ℤ)
    → CountsFault false before now
    → IsSourceResult holds source (sources.Accepted checked places)
    → IsCallResult (Some (Format source)) holds before now 0 (program_text (tree_of checked)) None []
program_printed holds before now source checked places same s = OfRow same (record {
  held = with_source s.file holds (Some (Format source));
  known = source_known (Some (Format source)) holds source s.file refl s.known;
  row = Formats source (tree_of checked) refl (source_of_marked s.result_is);
})

-- ---- the files of a command with an input

-- an input that is refused
pub input_refused : (holds later : Option Content) (before mid now : ℕ) (source input text : List ℕ) (wave : Bool) (checked : Program)
    → later ≡ holds
    → CountsFault false before mid → CountsFault false mid now → IsRunnableResult holds source wave (runnables.Program checked)
    → IsInputResult later input (inputs.Refused text) → (asked : Option Command) → NamesSource asked source → NamesInput asked input
    → asks_wave asked ≡ wave → IsCallResult asked holds before now 1 text None []
input_refused holds later before mid now source input text wave checked keeps same same' s i asked n m is = OfRow (same' ∙ same) (record {
  held = with_input s.file i.file holds asked;
  known = files_known asked holds source input s.file i.file n m s.known (rw keeps at i.known);
  row = InputRefused input s.result_is.tree m s.result_is.accepted (λ asks. s.result_is.fits (sym is ∙ asks)) i.result_is;
})

-- an input that could not be read
pub input_failed : (holds : Option Content) (before mid now : ℕ) (source input : List ℕ) (wave : Bool) (checked : Program)
    → CountsFault false before mid
    → CountsFault true mid now → IsRunnableResult holds source wave (runnables.Program checked) → (asked : Option Command)
    → NamesSource asked source
    → NamesInput asked input → asks_wave asked ≡ wave → IsCallResult asked holds before now 4 (fault_read input) None []
input_failed holds before mid now source input wave checked same rose s asked n m is =
    let at_mid : IsCallResult asked holds mid now 4 (fault_read input) None [] =
    InputFault source input s.file s.result_is.tree rose.0 rose.1 n m s.known s.result_is.accepted
    (λ asks. s.result_is.fits (sym is ∙ asks)) in
    rw (← same) at_mid

-- a program to run and the numbers of an input
pub files_ready : (holds later : Option Content) (before mid now : ℕ) (source input : List ℕ) (wave : Bool) (checked : Program)
    (numbers : List ℤ)
    → later ≡ holds → CountsFault false before mid → CountsFault false mid now → IsRunnableResult holds source wave
    (runnables.Program checked)
    → IsInputResult later input (inputs.Accepted numbers) → AreReady holds before now source input wave (tree_of checked) numbers
files_ready holds later before mid now source input wave checked numbers keeps same same' s i = record {
  source_file = s.file;
  input_file = i.file;
  tree = s.result_is.tree;
  calm = same' ∙ same;
  source_known = s.known;
  input_known = rw keeps at i.known;
  accepted = s.result_is.accepted;
  read = i.result_is;
  fits = s.result_is.fits;
  program_is = s.result_is.program_is;
}

-- ---- a program that is run

-- by `run`, `play` or `wave`, with the run log
row_of_run : (holds : Option Content) (before now : ℕ) (source input : List ℕ) (asked : Option Command) (throttle : ℕ)
    (program : SyntaxTree)
    (numbers : List ℤ) (log : RunLog) (a : CommandResult) → NamesSource asked source → NamesInput asked input
    → (ready : AreReady holds before now source input (asks_wave asked) program numbers) → IsLogOf asked ready.tree numbers throttle log
    → a.run_log ≡ Some log → IsRecordedRun (asks_record asked) program numbers throttle log a.reports a.status a.text
    → a.reports ≡ run_reports log
    → IsCallResult asked holds before now a.status a.text a.run_log a.reports
row_of_run holds before now source input asked throttle program numbers log a n m ready of logged meets found =
    rw logged (OfRow ready.calm (record {
      held = with_input ready.source_file ready.input_file holds asked;
      known = files_known asked holds source input ready.source_file ready.input_file n m ready.source_known ready.input_known;
      row = Runs throttle log ready.tree numbers of (record { program = ready.accepted; read = ready.read })
          (subst (λ t. IsRecordedRun (asks_record asked) t numbers throttle log a.reports a.status a.text) ready.program_is meets) found;
    }))

-- by `run`
pub result_of_run : (holds : Option Content) (before now : ℕ) (source input : List ℕ) (workers throttle : ℕ) (recording : Bool)
    (tree : SyntaxTree)
    (numbers : List ℤ) (r : Result CommandResult NoMemory) → AreReady holds before now source input false tree numbers
    → IfOk r (IsRunResult tree numbers throttle recording)
    → IfOk r (λ a. IsCallResult (Some (Run source input workers throttle recording)) holds before now a.status a.text a.run_log a.reports)
result_of_run holds before now source input workers throttle recording tree numbers (Ok a) ready h =
    row_of_run holds before now source input (Some (Run source input workers throttle recording)) throttle tree numbers h.0 a refl refl
    ready (OfRun source input workers recording refl) h.1.logged h.1.meets h.1.found
result_of_run holds before now source input workers throttle recording tree numbers (Err m) ready h = h

-- by `wave`
pub result_of_wave : (holds : Option Content) (before now : ℕ) (source input : List ℕ) (workers throttle : ℕ) (tree : SyntaxTree)
    (numbers : List ℤ) (r : Result CommandResult NoMemory) → AreReady holds before now source input true tree numbers
    → IfOk r (IsRunResult tree numbers throttle false)
    → IfOk r (λ a. IsCallResult (Some (Wave source input workers throttle)) holds before now a.status a.text a.run_log a.reports)
result_of_wave holds before now source input workers throttle tree numbers (Ok a) ready h =
    row_of_run holds before now source input (Some (Wave source input workers throttle)) throttle tree numbers h.0 a refl refl
    ready (OfWave source input workers refl (ready.fits refl)) h.1.logged h.1.meets h.1.found
result_of_wave holds before now source input workers throttle tree numbers (Err m) ready h = h

-- by `play`
pub result_of_play : (holds : Option Content) (before now : ℕ) (source input : List ℕ) (workers throttle seed : ℕ) (recording : Bool)
    (tree : SyntaxTree)
    (numbers : List ℤ) (r : Result CommandResult NoMemory) → AreReady holds before now source input false tree numbers
    → IfOk r (IsPlayResult tree numbers workers throttle seed recording)
    → IfOk r (λ a. IsCallResult (Some (Play source input workers throttle seed recording)) holds before now a.status a.text a.run_log
    a.reports)
result_of_play holds before now source input workers throttle seed recording tree numbers (Ok a) ready h =
    row_of_run holds before now source input (Some (Play source input workers throttle seed recording)) throttle tree numbers h.log a refl
    refl
    ready (OfPlay source input workers seed recording refl
    (h.events ∙ ap (λ t. seeded_events t numbers workers throttle seed) ready.program_is))
    h.run.logged h.run.meets h.run.found
result_of_play holds before now source input workers throttle seed recording tree numbers (Err m) ready h = h

-- by `serial`, without it
pub result_of_serial : (holds : Option Content) (before now : ℕ) (source input : List ℕ) (tree : SyntaxTree) (numbers : List ℤ)
    (r : Result CommandResult NoMemory) → AreReady holds before now source input false tree numbers
    → IfOk r (λ a. ElisionResult tree numbers a.status a.text a.reports) → IfOk r (λ a. a.run_log ≡ None)
    → IfOk r (λ a. IsCallResult (Some (Serial source input)) holds before now a.status a.text a.run_log a.reports)
result_of_serial holds before now source input tree numbers (Ok a) ready outcome log = rw log (OfRow ready.calm (record {
  held = with_input ready.source_file ready.input_file holds (Some (Serial source input));
  known = files_known _ holds source input _ _ refl refl ready.source_known ready.input_known;
  row = RunsSerially source input ready.tree numbers refl (record { program = ready.accepted; read = ready.read })
      (subst (λ t. ElisionResult t numbers a.status a.text a.reports) ready.program_is outcome);
}))
result_of_serial holds before now source input tree numbers (Err m) ready outcome log = log

-- by `span`: its elision is weighed, whatever races it has
pub result_of_span : (holds : Option Content) (before now : ℕ) (source input : List ℕ) (tree : SyntaxTree) (numbers : List ℤ)
    (text : List ℕ)
    → AreReady holds before now source input false tree numbers → IsSpanText tree numbers text
    → IsCallResult (Some (Span source input)) holds before now 0 text None []
result_of_span holds before now source input tree numbers text ready weighed = OfRow ready.calm (record {
  held = with_input ready.source_file ready.input_file holds (Some (Span source input));
  known = files_known (Some (Span source input)) holds source input ready.source_file ready.input_file refl refl ready.source_known
      ready.input_known;
  row = Weighs source input ready.tree numbers refl (record { program = ready.accepted; read = ready.read })
      (subst (λ t. IsSpanText t numbers text) ready.program_is weighed);
})

pub result_of_weighed : (holds : Option Content) (before now : ℕ) (source input : List ℕ) (tree : SyntaxTree) (numbers : List ℤ)
    (r : Result CommandResult NoMemory) → AreReady holds before now source input false tree numbers
    → IfOk r (λ a. IsSpanText tree numbers a.text)
    → IfOk r (λ a. a ≡ record { status = 0; text = a.text; run_log = None; reports = [] })
    → IfOk r (λ a. IsCallResult (Some (Span source input)) holds before now a.status a.text a.run_log a.reports)
result_of_weighed holds before now source input tree numbers (Ok a) ready weighed others =
    rw others (result_of_span holds before now source input tree numbers a.text ready weighed)
result_of_weighed holds before now source input tree numbers (Err m) ready weighed others = others

-- ---- a record that is checked

-- the result of the record, with the files of the command
row_of_check : (holds later : Option Content) (before mid now : ℕ) (source input saved : List ℕ) (throttle : ℕ) (tree : SyntaxTree)
    (numbers : List ℤ)
    {status : ℕ} {text : List ℕ} {log : Option RunLog} {reports : List Report} → later ≡ holds
    → AreReady holds before mid source input false tree numbers → IsSavedResult later mid now tree numbers throttle saved status text log
    reports
    → IsCallResult (Some (CheckRecord source input saved throttle)) holds before now status text log reports
row_of_check holds later before mid now source input saved throttle tree numbers {status} {text} {log} {reports} keeps ready
    (Judged file same known outcome) =
    OfRow (same ∙ ready.calm) (record {
      held = record { source = ready.source_file; input = ready.input_file; saved = file };
      known = all_known (Some (CheckRecord source input saved throttle)) holds source input saved
          (record { source = ready.source_file; input = ready.input_file; saved = file }) refl refl refl ready.source_known
          ready.input_known (rw keeps at known);
      row = ChecksRecord source input saved throttle ready.tree numbers refl (record { program = ready.accepted; read = ready.read })
          (subst (λ t. RecordResult t numbers throttle saved file status text log reports) ready.program_is outcome);
    })
row_of_check holds later before mid now source input saved throttle tree numbers keeps ready (Unread rose) =
    let at_mid : IsCallResult (Some (CheckRecord source input saved throttle)) holds mid now 4 (fault_read saved) None [] =
    RecordFault source input saved ready.source_file ready.input_file ready.tree numbers rose.0 rose.1 refl refl refl ready.source_known
    ready.input_known
    ready.accepted ready.read in
    rw (← ready.calm) at_mid

pub result_of_check : (holds later : Option Content) (before mid now : ℕ) (source input saved : List ℕ) (throttle : ℕ) (tree : SyntaxTree)
    (numbers : List ℤ) (r : Result CommandResult NoMemory) → later ≡ holds → AreReady holds before mid source input false tree numbers
    → IfOk r (λ a. IsSavedResult later mid now tree numbers throttle saved a.status a.text a.run_log a.reports)
    → IfOk r (λ a. IsCallResult (Some (CheckRecord source input saved throttle)) holds before now a.status a.text a.run_log a.reports)
result_of_check holds later before mid now source input saved throttle tree numbers (Ok a) keeps ready h =
    row_of_check holds later before mid now source input saved throttle tree numbers keeps ready h
result_of_check holds later before mid now source input saved throttle tree numbers (Err m) keeps ready h = h

-- ---- `bench`

-- it has no files
no_files : (asked : Option Command) (seed size : ℕ) (holds : Option Content) → asked ≡ Some (Bench seed size)
    → IfSome holds (λ content. AreHeldBy content asked no_content)
no_files asked seed size None w = tt
no_files asked seed size (Some content) w = record {
  source = λ name named. absurd (bench_has_no_source w named);
  input = λ name named. absurd (bench_has_no_input w named);
  saved = λ name named. absurd (bench_has_no_record w named);
}

-- a workload and its summary, whatever the files hold
pub result_of_bench : (seed size : ℕ) (tree : SyntaxTree) (numbers : List ℤ) (text : List ℕ) → IsGenerated seed size tree numbers
    → text ≡ elision_summary tree numbers
    → (holds : Option Content) (faults : ℕ) → IsCallResult (Some (Bench seed size)) holds faults faults 0 text None []
result_of_bench seed size tree numbers text generated t holds faults = rw t (OfRow refl (record {
  held = no_content;
  known = no_files (Some (Bench seed size)) seed size holds refl;
  row = Benches seed size tree numbers refl generated;
}))

-- a summary that is right for each generated workload of the seed and the size
pub bench_returned : (seed size : ℕ) (text : List ℕ) → IsInRange (Bench seed size)
    → ((tree : SyntaxTree) (numbers : List ℤ) → IsGenerated seed size tree numbers → text ≡ elision_summary tree numbers)
    → (holds : Option Content) (faults : ℕ) → IsCallResult (Some (Bench seed size)) holds faults faults 0 text None []
bench_returned seed size text range is =
    let generated : IsGenerated seed size (generated_tree size) (items_from seed 1 size) =
    record { program = accepted size range.1.0 range.1.1; read = inputs_are_read seed size range.1.1 } in
    result_of_bench seed size (generated_tree size) (items_from seed 1 size) text generated
    (is (generated_tree size) (items_from seed 1 size) generated)

-- a call that returns this
pub result_given : (asked : Option Command) (holds : Option Content) (before now : ℕ) (r : Result CommandResult NoMemory)
    (a : CommandResult)
    → IfOk r (λ b. b ≡ a)
    → IsCallResult asked holds before now a.status a.text a.run_log a.reports
    → IfOk r (λ b. IsCallResult asked holds before now b.status b.text b.run_log b.reports)
result_given asked holds before now (Ok b) a e h = rw e h
result_given asked holds before now (Err m) a e h = e
