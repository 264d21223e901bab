-- Work, span and heaviest path of an elision, and the result of a call that prints them.
use Rattle.std.proofs.Common.{◌≡◌, ◌∙◌, ap, refl, subst, sym, ℕ, ℤ, List, [], Option, Some, None, Result, Ok, Err, IfOk, IfSome}
use Rattle.pipe_model.specs.declared.column.Column.{Column}
use Rattle.pipe_model.specs.declared.event.RunLog.{RunLog}
use Rattle.pipe_model.specs.declared.memory.NoMemory.{NoMemory}
use Rattle.pipe_model.specs.declared.report.Report.{Report}
use Rattle.pipe_model.specs.Language.ProgramsOfTrees.{whole_of}
use Rattle.pipe_model.specs.Language.SyntaxTree.{SyntaxTree}
use Rattle.pipe_model.specs.Pipelines.WholePrograms.{program_columns}
use Rattle.pipe_model.specs.Races.Columns.{AreColumns, node_columns}
use Rattle.pipe_io.specs.Faults.{CountRose}
use Rattle.pipe_io.specs.Reads.{Content}
use Rattle.pipe_span.proofs.ChosenPaths.{columns_have_one_span}
use Rattle.pipe_span.proofs.ElisionWeights.{elision_meets}
use Rattle.pipe_span.specs.declared.heaviest.Span.{Span}
use Rattle.pipe_span.specs.WorkAndSpan.{IsWorkAndSpan}
use Rattle.serial_elision.specs.ElisionSteps.{program_steps}
use Rattle.cilkp_words.specs.Commands.{Command}
use Rattle.command_results.proofs.OneCommand.{apart, no_command, run_is_not_span}
use Rattle.command_results.proofs.OneContent.{one_input, one_source, refused_no_input, refused_not_accepted_file}
use Rattle.command_results.proofs.SerialDags.{given_columns}
use Rattle.command_results.specs.PrintedResults.{IsCallResult, OfRow, SourceFault, InputFault, RecordFault, IsPrinted}
use Rattle.command_results.specs.ProgramFiles.{FileContents, IsSourceOf}
use Rattle.command_results.specs.ResultTable.{ResultRow, NoCommand, SourceRefused, Formats, Benches, WaveRefused, InputRefused, Runs}
use Rattle.command_results.specs.ResultTable.{RunsSerially, ChecksRecord, Weighs}
use Rattle.command_results.specs.SerialResults.{elision_columns}
use Rattle.command_results.specs.SpanCalls.{IsToWeigh, ReturnsSpan}
use Rattle.command_results.specs.SpanResults.{IsSpanText, span_text}

-- ---- one text

-- an elision has at most one text of work and span
pub one_span_text : {file : Option (List ℕ)} (tree : SyntaxTree) (input : List ℤ) {text other : List ℕ} → IsSourceOf file tree
    → IsSpanText tree input text
    → IsSpanText tree input other → text ≡ other
one_span_text tree input s t o =
    let columns = given_columns tree input (program_columns (whole_of tree input)) refl in
    let full : AreColumns (elision_columns tree input) =
    subst AreColumns columns (elision_meets tree input (record { obeys = s.accepted.obeys })).columns in
    t.text_is ∙ ap (span_text (elision_columns tree input))
    (columns_have_one_span (elision_columns tree input) (program_steps tree input) t.found o.found full t.heaviest o.heaviest)
    ∙ sym o.text_is

-- the text of what was found
pub weighed_text : (tree : SyntaxTree) (input : List ℤ) (columns : List Column) (steps : List ℤ) (found : Span)
    (r : Result (List ℕ) NoMemory)
    → columns ≡ program_columns (whole_of tree input) → steps ≡ program_steps tree input → IsWorkAndSpan (node_columns columns) steps found
    → IfOk r (λ text. text ≡ span_text (node_columns columns) found) → IfOk r (IsSpanText tree input)
weighed_text tree input columns steps found (Ok text) c s h t =
    let same = given_columns tree input columns c in
    record {
      found = found;
      heaviest = subst (λ cs. IsWorkAndSpan cs (program_steps tree input) found) same
          (subst (λ ss. IsWorkAndSpan (node_columns columns) ss found) s h);
      text_is = t ∙ ap (λ cs. span_text cs found) same;
    }
weighed_text tree input columns steps found (Err m) c s h t = t

-- ---- the call

-- the result is the text of work and span, with status 0, without a log and reports
record IsWeighed (tree : SyntaxTree) (numbers : List ℤ) (status : ℕ) (text : List ℕ) (log : Option RunLog)
    (reports : List Report) : Type 0 where
  done : status ≡ 0
  weighed : IsSpanText tree numbers text
  unlogged : log ≡ None
  silent : reports ≡ []

weighed_row : {asked : Option Command} {content : Content} {held : FileContents} {status : ℕ} {text : List ℕ} {log : Option RunLog}
    {reports : List Report} (tree : SyntaxTree) (numbers : List ℤ)
    → (a : IsToWeigh asked content tree numbers) → content a.source ≡ held.source → content a.input ≡ held.input
    → ResultRow asked held status text log reports → IsWeighed tree numbers status text log reports
weighed_row tree numbers a s i (NoCommand none) = absurd (no_command none a.command)
weighed_row tree numbers a s i (SourceRefused source w r) = absurd (refused_not_accepted_file tree r (rw (← s) a.program))
weighed_row tree numbers a s i (Formats source other w o) = absurd (apart a.command w (λ e. cc (e)))
weighed_row tree numbers a s i (Benches seed size other others w g) = absurd (apart a.command w (λ e. cc (e)))
weighed_row tree numbers a s i (WaveRefused source input workers throttle other w o r) = absurd (apart a.command w (λ e. cc (e)))
weighed_row tree numbers a s i (InputRefused input other w o can r) = absurd (refused_no_input numbers r (rw (← i) a.read))
weighed_row tree numbers a s i (Runs throttle log other others w o m f) = absurd (run_is_not_span w a.command)
weighed_row tree numbers a s i (RunsSerially source input other others w o r) = absurd (apart a.command w (λ e. cc (e)))
weighed_row tree numbers a s i (ChecksRecord source input saved throttle other others w o r) = absurd (apart a.command w (λ e. cc (e)))
weighed_row {text = text} tree numbers a s i (Weighs source input other others w o r) =
    let same : other ≡ tree = one_source other tree o.program (rw (← s) a.program) in
    let also : others ≡ numbers = one_input others numbers o.read (rw (← i) a.read) in
    record {
      done = refl;
      weighed = subst (λ t. IsSpanText t numbers text) same (subst (λ n. IsSpanText other n text) also r);
      unlogged = refl;
      silent = refl;
    }

-- the result of a `span` call for an accepted program, if no read failed
result_weighed : {asked : Option Command} {content : Content} {before now status : ℕ} {text : List ℕ} {log : Option RunLog}
    {reports : List Report}
    (tree : SyntaxTree) (numbers : List ℤ)
    → ¬ (CountRose before now) → IsToWeigh asked content tree numbers → IsCallResult asked (Some content) before now status text log reports
    → IsWeighed tree numbers status text log reports
result_weighed tree numbers calm a (OfRow same row) =
    weighed_row tree numbers a (row.known.source a.source (rw a.command refl)) (row.known.input a.input (rw a.command refl)) row.row
result_weighed tree numbers calm a (SourceFault s grew rose w) = absurd (calm rose)
result_weighed tree numbers calm a (InputFault s i file other grew rose w v known of can) = absurd (calm rose)
result_weighed tree numbers calm a (RecordFault s i r file others other ns grew rose w v u known also of read) = absurd (calm rose)

-- a call whose text was written completely
pub printed_span : (asked : Option Command) (holds : Option Content) (before now status written : ℕ) (log : Option RunLog)
    (reports : List Report)
    (taken_before taken_now : Option (List ℕ)) → ¬ (CountRose before now) → IsPrinted asked holds before now status written log reports
    taken_before taken_now
    → IfSome holds (λ content. (tree : SyntaxTree) (numbers : List ℤ) → IsToWeigh asked content tree numbers
    → ReturnsSpan tree numbers status written log reports taken_before taken_now)
printed_span asked None before now status written log reports taken_before taken_now calm printed = tt
printed_span asked (Some content) before now status written log reports taken_before taken_now calm printed = λ tree numbers a. (
    let h = result_weighed tree numbers calm a printed.outcome in
    record {
      text = printed.text;
      done = h.done;
      whole = printed.whole;
      taken = printed.taken;
      weighed = h.weighed;
      unlogged = h.unlogged;
      silent = h.silent;
    })
