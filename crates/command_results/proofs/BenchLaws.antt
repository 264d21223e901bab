-- Generated texts are accepted and read, and a call that prints a summary.
use Rattle.std.proofs.Common.{◌≡◌, ◌∙◌, ◌≤◌, ℕ, ℤ, List, [], Option, None, length, Result, Ok, Err, IfOk, ap, ap₂, refl, subst}
use Rattle.grammar_laws.proofs.SourceRefusals.{one_accepted, refused_not_accepted}
use Rattle.pipe_gen.specs.Workload.{input_text, source_text}
use Rattle.pipe_gen.specs.declared.workload.TheConstants.{MOST_SIZE}
use Rattle.pipe_io.proofs.OneFault.{numbers_have_no_fault}
use Rattle.pipe_io.proofs.OneReading.{one_reading}
use Rattle.pipe_io.specs.Reads.{Content}
use Rattle.pipe_model.specs.declared.event.RunLog.{RunLog}
use Rattle.pipe_model.specs.declared.report.Report.{Report}
use Rattle.pipe_model.specs.Language.SyntaxTree.{SyntaxTree, tree_of}
use Rattle.pipe_model.specs.declared.tree.Program.{Program}
use Rattle.workload_laws.proofs.AcceptedSources.{accepted}
use Rattle.workload_laws.proofs.ReadInputs.{inputs_are_read}
use Rattle.workload_laws.specs.GeneratedPrograms.{generated_tree}
use Rattle.cilkp_words.specs.Commands.{Command}
use Rattle.command_results.proofs.OneCommand.{bench_has_no_source, bench_asks_no_run}
use Rattle.command_results.proofs.OneRow.{one_row}
use Rattle.command_results.specs.BenchCalls.{IsToBench, ReturnsSummary}
use Rattle.schedule_laws.specs.StartCounts.{instances_in}
use Rattle.pipe_model.specs.declared.memory.NoMemory.{NoMemory}
use Rattle.command_results.proofs.SerialDags.{given_columns}
use Rattle.command_results.specs.declared.bench.Measured.{Measured}
use Rattle.pipe_model.specs.declared.column.Column.{Column}
use Rattle.pipe_model.specs.Language.ProgramsOfTrees.{whole_of}
use Rattle.pipe_model.specs.Pipelines.WholePrograms.{program_columns}
use Rattle.command_results.specs.declared.program_run.TheConstants.{MOST_COUNTED_INSTANCES}
use Rattle.command_results.specs.SerialResults.{elision_columns, elision_output}
use Rattle.command_results.specs.Benchmarks.{IsGenerated, elision_summary, last_or_zero, summary_text}
use Rattle.command_results.specs.PrintedResults.{IsCallResult, OfRow, SourceFault, InputFault, RecordFault, IsPrinted}
use Rattle.command_results.specs.declared.load.Input.{Input}
use Rattle.command_results.specs.declared.load.Input.TheVariants as inputs
use Rattle.command_results.specs.declared.load.Source.{Source}
use Rattle.command_results.specs.declared.load.Source.TheVariants as sources
use Rattle.command_results.specs.LoadedFiles.{IsLoadOf, IsReadOf}
use Rattle.command_results.specs.ResultTable.{Benches}
use Rattle.command_results.specs.TakenText.{HasTaken}
use Rattle.pipe_model.specs.Races.Columns.{node_columns}

-- a generated source is loaded as a program
pub source_is_accepted : (size : ℕ) (bytes : List ℕ) (source : Source) → 1 ≤ size → size ≤ MOST_SIZE → bytes ≡ source_text size
    → IsLoadOf bytes source
    → ((checked : Program) (places : List ℤ) → source ≡ sources.Accepted checked places → ⊥) → ⊥
source_is_accepted size bytes (sources.Accepted checked places) some bounded e loaded other = other checked places refl
source_is_accepted size bytes (sources.Refused line) some bounded e loaded other =
    refused_not_accepted (generated_tree size) (rw e at loaded.refused) (accepted size some bounded)
source_is_accepted size bytes sources.Failed some bounded e loaded other = loaded

-- a generated input is loaded as its numbers
pub input_is_read : (seed size : ℕ) (bytes : List ℕ) (input : Input) → size ≤ MOST_SIZE → bytes ≡ input_text seed size
    → IsReadOf bytes input
    → ((numbers : List ℤ) → input ≡ inputs.Accepted numbers → ⊥) → ⊥
input_is_read seed size bytes (inputs.Accepted numbers) bounded e loaded other = other numbers refl
input_is_read seed size bytes (inputs.Refused line) bounded e loaded other =
    numbers_have_no_fault (rw e at loaded.faulty) (inputs_are_read seed size bounded)
input_is_read seed size bytes inputs.Failed bounded e loaded other = loaded

-- the loaded program and numbers are the generated ones
pub is_generated : (seed size : ℕ) (source input : List ℕ) (checked : Program) (places numbers : List ℤ) → source ≡ source_text size
    → input ≡ input_text seed size → IsLoadOf source (sources.Accepted checked places) → IsReadOf input (inputs.Accepted numbers)
    → IsGenerated seed size (tree_of checked) numbers
is_generated seed size source input checked places numbers e f loaded read =
    record { program = rw e at loaded.accepted; read = rw f at read }

-- a seed and a size have one program and one list of numbers
pub one_workload : (seed size : ℕ) (tree other : SyntaxTree) (numbers others : List ℤ) → IsGenerated seed size tree numbers
    → IsGenerated seed size other others → (tree ≡ other) × (numbers ≡ others)
one_workload seed size tree other numbers others g h =
    (one_accepted (source_text size) tree other g.program h.program, one_reading (input_text seed size) numbers others g.read h.read)

-- two workloads with the same seed and size have the same summary
pub same_summary : (seed size : ℕ) (tree other : SyntaxTree) (numbers others : List ℤ) (text : List ℕ) → IsGenerated seed size tree numbers
    → text ≡ elision_summary tree numbers → IsGenerated seed size other others → text ≡ elision_summary other others
same_summary seed size tree other numbers others text g e h =
    let one = one_workload seed size tree other numbers others g h in e ∙ ap₂ elision_summary one.0 one.1

-- ---- the summary that is made

-- the columns of the elision have as many instances as it has
pub counts_are_few : (tree : SyntaxTree) (numbers : List ℤ) (columns : List Column) → columns ≡ program_columns (whole_of tree numbers)
    → instances_in (elision_columns tree numbers) ≤ MOST_COUNTED_INSTANCES → instances_in (node_columns columns) ≤ MOST_COUNTED_INSTANCES
counts_are_few tree numbers columns is bounded = rw (given_columns tree numbers columns is) bounded

-- what is measured of columns and an output that are the elision's
pub measures_the_elision : (tree : SyntaxTree) (numbers : List ℤ) (columns : List Column) (workers : ℕ) (output : List ℤ) (m : Measured)
    → columns ≡ program_columns (whole_of tree numbers) → output ≡ elision_output tree numbers
    → m ≡ record { workers = workers; instances = instances_in (node_columns columns); last = last_or_zero output }
    → m ≡ record {
      workers = workers;
      instances = instances_in (elision_columns tree numbers);
      last =
          last_or_zero (elision_output tree numbers);
    }
measures_the_elision tree numbers columns workers output m is same e =
    e ∙ λ i. record { workers = workers; instances = instances_in (given_columns tree numbers columns is i); last = last_or_zero (same i) }

-- the summary of two runs, with the counts of their serial elision
pub summary_made : (tree : SyntaxTree) (numbers : List ℤ) (items : ℕ) (one eight : Measured) (made : Result (List ℕ) NoMemory)
    → items ≡ length numbers
    → one ≡ record {
      workers = 1;
      instances = instances_in (elision_columns tree numbers);
      last =
          last_or_zero (elision_output tree numbers);
    }
    → eight ≡ record {
      workers = 8;
      instances = instances_in (elision_columns tree numbers);
      last =
          last_or_zero (elision_output tree numbers);
    }
    → IfOk made (λ text. text ≡ summary_text items one.instances one.workers one.last eight.workers eight.last)
    → IfOk made (λ text. text ≡ elision_summary tree numbers)
summary_made tree numbers items one eight (Ok text) l w v is =
    is ∙ λ k. summary_text (l k) ((w k).instances) ((w k).workers) ((w k).last) ((v k).workers) ((v k).last)
summary_made tree numbers items one eight (Err m) l w v is = is

-- ---- the result of a call

-- the result is the summary of this program and input
record IsSummaryOf (tree : SyntaxTree) (numbers : List ℤ) (status : ℕ) (text : List ℕ) (log : Option RunLog)
    (reports : List Report) : Type 0 where
  done : status ≡ 0
  text_is : text ≡ elision_summary tree numbers
  unlogged : log ≡ None
  silent : reports ≡ []

-- the result of a `bench` call, whatever the files hold
summary_outcome : {asked : Option Command} {holds : Option Content} {before now status : ℕ} {text : List ℕ} {log : Option RunLog}
    {reports : List Report}
    (tree : SyntaxTree) (numbers : List ℤ) → IsToBench asked tree numbers → IsCallResult asked holds before now status text log reports
    → IsSummaryOf tree numbers status text log reports
summary_outcome tree numbers a (OfRow same row) =
    let one = one_row (bench_asks_no_run a.command) row.row (Benches a.seed a.size tree numbers a.command a.generated) in
    record { done = one.0; text_is = one.1; unlogged = one.2; silent = one.3 }
summary_outcome tree numbers a (SourceFault s grew rose w) = absurd (bench_has_no_source a.command w)
summary_outcome tree numbers a (InputFault s i file other grew rose w v known of can) = absurd (bench_has_no_source a.command w)
summary_outcome tree numbers a (RecordFault s i r file others other ns grew rose w v u known also of read) =
    absurd (bench_has_no_source a.command w)

-- a call whose text was written completely
pub printed_summary : (asked : Option Command) (holds : Option Content) (before now status written : ℕ) (log : Option RunLog)
    (reports : List Report)
    (taken_before taken_now : Option (List ℕ)) → IsPrinted asked holds before now status written log reports taken_before taken_now
    → (tree : SyntaxTree) (numbers : List ℤ) → IsToBench asked tree numbers → ReturnsSummary tree numbers status written log reports
    taken_before taken_now
printed_summary asked holds before now status written log reports taken_before taken_now printed tree numbers a =
    let h = summary_outcome tree numbers a printed.outcome in
    record {
      done = h.done;
      whole = printed.whole ∙ ap length h.text_is;
      taken = subst (λ t. HasTaken written t taken_before taken_now) h.text_is printed.taken;
      unlogged = h.unlogged;
      silent = h.silent;
    }
