-- The result of a call that prints the canonical text of an accepted program.
use Rattle.std.proofs.Common.{◌≡◌, ◌∙◌, ℕ, List, [], Option, Some, None, IfSome, length, ap, refl, subst}
use Rattle.pipe_model.specs.declared.event.RunLog.{RunLog}
use Rattle.pipe_model.specs.declared.report.Report.{Report}
use Rattle.pipe_model.specs.Language.CanonicalText.{program_text}
use Rattle.pipe_model.specs.Language.SyntaxTree.{SyntaxTree}
use Rattle.command_results.specs.TakenText.{HasTaken}
use Rattle.command_results.specs.PrintedResults.{IsCallResult, OfRow, SourceFault, InputFault, RecordFault, IsPrinted}
use Rattle.pipe_io.specs.Faults.{CountRose}
use Rattle.cilkp_program.specs.Formatting.{ReturnsText, IsToFormat}
use Rattle.pipe_io.specs.Reads.{Content}
use Rattle.command_results.specs.ProgramFiles.{FileContents, IsSourceOf}
use Rattle.command_results.specs.ResultTable.{ResultRow, Formats}
use Rattle.cilkp_words.specs.Commands.{Command, Format}
use Rattle.command_results.proofs.OneCommand.{format_asks_no_run}
use Rattle.command_results.proofs.OneRow.{one_row}

-- the result is the program's canonical text
record IsTextOf (tree : SyntaxTree) (status : ℕ) (text : List ℕ) (log : Option RunLog) (reports : List Report) : Type 0 where
  done : status ≡ 0
  text_is : text ≡ program_text tree
  not_run : log ≡ None
  silent : reports ≡ []

-- the row of such a call
text_row : {asked : Option Command} {held : FileContents} {status : ℕ} {text : List ℕ} {log : Option RunLog} {reports : List Report}
    (tree : SyntaxTree) (source : List ℕ)
    → asked ≡ Some (Format source) → IsSourceOf held.source tree → ResultRow asked held status text log reports
    → IsTextOf tree status text log reports
text_row tree source w s row =
    let one = one_row (format_asks_no_run w) row (Formats source tree w s) in
    record { done = one.0; text_is = one.1; not_run = one.2; silent = one.3 }

-- the result of a call that prints an accepted program, if no read failed
text_outcome : {asked : Option Command} {content : Content} {before now status : ℕ} {text : List ℕ} {log : Option RunLog}
    {reports : List Report}
    (tree : SyntaxTree)
    → ¬ (CountRose before now) → IsToFormat asked content tree → IsCallResult asked (Some content) before now status text log reports
    → IsTextOf tree status text log reports
text_outcome tree calm a (OfRow same row) =
    text_row tree a.source a.command (rw (row.known.source a.source (rw a.command refl)) at a.program) row.row
text_outcome tree calm a (SourceFault s grew rose w) = absurd (calm rose)
text_outcome tree calm a (InputFault s i file other grew rose w v known of can) = absurd (calm rose)
text_outcome tree calm a (RecordFault s i r file others other ns grew rose w v u known also of read) = absurd (calm rose)

-- a call whose text was written completely
pub text_printed : (asked : Option Command) (holds : Option Content) (before now status written : ℕ) (log : Option RunLog)
    (reports : List Report)
    (taken_before taken_now : Option (List ℕ)) → ¬ (CountRose before now) → IsPrinted asked holds before now status written log reports
    taken_before taken_now
    → IfSome holds (λ content. (tree : SyntaxTree) → IsToFormat asked content tree → ReturnsText tree status written log reports
    taken_before taken_now)
text_printed asked None before now status written log reports taken_before taken_now calm printed = tt
text_printed asked (Some content) before now status written log reports taken_before taken_now calm printed = λ tree a. (
    let h = text_outcome tree calm a printed.outcome in
    record {
      done = h.done;
      whole = printed.whole ∙ ap length h.text_is;
      taken = subst (λ t. HasTaken written t taken_before taken_now) h.text_is printed.taken;
      not_run = h.not_run;
      silent = h.silent;
    })
