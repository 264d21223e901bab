-- The content of a sink after a text was written, completely or in part.
use Rattle.std.proofs.Common.{◌≡◌, ◌≢◌, ◌≤◌, ◌↔◌, ℕ, List, length, Option, inr, arith}
use Rattle.pipe_model.specs.declared.event.RunLog.{RunLog}
use Rattle.pipe_model.specs.declared.report.Report.{Report}
use Rattle.command_results.specs.PrintedResults.{IsCallResult, IsCutShort, IsGivenUp, IsPrinted}
use Rattle.command_results.specs.TakenText.{HasTaken}
use Rattle.cilkp_words.specs.Commands.{Command}
use Rattle.pipe_io.specs.Reads.{Content}
use Rattle.pipe_io.specs.declared.whole.WriteEnd.{WriteEnd}
use Rattle.pipe_io.specs.declared.whole.WriteEnd.TheVariants as ends

-- a text that was written completely was printed
pub text_whole : (asked : Option Command) (holds : Option Content) (before now status written : ℕ) (text : List ℕ) (log : Option RunLog)
    (reports : List Report)
    (taken_before taken_now : Option (List ℕ)) → IsCallResult asked holds before now status text log reports → written ≡ length text
    → HasTaken written text taken_before taken_now
    → IsPrinted asked holds before now status written log reports taken_before taken_now
text_whole asked holds before now status written text log reports taken_before taken_now outcome whole taken =
    record { text = text; outcome = outcome; whole = whole; taken = taken }

-- a text that was not written completely was cut short
pub text_cut_short : (asked : Option Command) (holds : Option Content) (before now status written : ℕ) (text : List ℕ) (log : Option RunLog)
    (reports : List Report)
    (taken_before taken_now : Option (List ℕ)) (end : WriteEnd) → IsCallResult asked holds before now status text log reports
    → written ≤ length text → ((end ≡ ends.Whole) ↔ (written ≡ length text)) → end ≢ ends.Whole
    → HasTaken written text taken_before taken_now
    → IsCutShort asked holds before now written log reports taken_before taken_now
text_cut_short asked holds before now status written text log reports taken_before taken_now end outcome within whole cut taken = record {
  status = status;
  text = text;
  outcome = outcome;
  short = (let apart : written ≢ length text = λ e. cut (whole.1 e) in omega arith);
  taken = taken;
}

-- a call whose text is cut short by out of memory
pub given_up_writing : (asked : Option Command) (holds : Option Content) (before now written : ℕ) (log : Option RunLog)
    (reports : List Report)
    (taken_before taken_now : Option (List ℕ)) → IsCutShort asked holds before now written log reports taken_before taken_now
    → IsGivenUp asked holds before now taken_before taken_now
given_up_writing asked holds before now written log reports taken_before taken_now cut = inr (written, log, reports, cut)
