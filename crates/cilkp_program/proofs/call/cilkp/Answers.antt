use Rattle.std.proofs.Common.{◌∙◌, sym, arith, inl, inr}
use Rattle.cilkp_program.proofs.ResultStatus.{counts_do_not_fall, grown_count_has_status, result_has_cause, result_keeps_count}
use Rattle.cilkp_program.proofs.ResultStatus.{result_is_logged, result_is_small, no_write_fault}
use Rattle.cilkp_program.proofs.GivenUp.{text_cut_short, text_whole, given_up_writing}
use Rattle.cilkp_program.proofs.FormatLaws.{text_printed}
use Rattle.command_results.proofs.BenchLaws.{printed_summary}
use Rattle.command_results.proofs.HeadlineLaws.{printed_meets}
use Rattle.command_results.proofs.SeededPlays.{call_is_scheduled, plays_finish}
use Rattle.cilkp_program.proofs.SerialCallLaws.{printed_elision}
use Rattle.cilkp_program.proofs.RecordCallLaws.{printed_check}
use Rattle.cilkp_program.proofs.GridCalls.{printed_grid}
use Rattle.command_results.proofs.SpanLaws.{printed_span}
use Rattle.cilkp_program.proofs.call.cilkp.Goals.{in-Whole, in-Failed}
use Rattle.cilkp_program.proofs.call.cilkp.Goals as goal

pub returns-in-NoMemory-clause-given_up : goal.returns-in-NoMemory-clause-given_up
returns-in-NoMemory-clause-given_up g c =
    let w = c.write_text-written.ensures in
    given_up_writing _ _ _ _ _ _ _ _ _ (text_cut_short _ _ _ _ _ _ _ _ _ _ _ _ c.in_ok-outcome.ensures.outcome
    (rw c.as_slice.ensures at w.count)
    (rw c.as_slice.ensures at w.whole)
    (λ e. let f = c.in-NoMemory.is in cc (e, f)) (rw c.as_slice.ensures at w.taken))

pub returns-clause-cut_short : goal.returns-clause-cut_short
returns-clause-cut_short g c = λ five.
    let w = c.write_text-written.ensures in
    elim c.match-written.branch [
      | in-Whole b ↦ absurd (no_write_fault c.in_ok-outcome.ensures.outcome (sym b.status-is ∙ five))
      | in-Failed b ↦ text_cut_short _ _ _ _ _ _ _ _ _ _ _ _ c.in_ok-outcome.ensures.outcome (rw c.as_slice.ensures at w.count)
          (rw c.as_slice.ensures at w.whole)
          (λ e. let f = b.in-Failed.is in cc (e, f)) (rw c.as_slice.ensures at w.taken)
    ]

pub returns-clause-headline : goal.returns-clause-headline
returns-clause-headline g c = λ calm_files calm_out.
    let w = c.write_text-written.ensures in
    elim c.match-written.branch [
      | in-Whole b ↦ rw b.status-is (printed_meets _ _ _ _ _ _ _ _ _ _ calm_files
          (text_whole _ _ _ _ _ _ _ _ _ _ _ c.in_ok-outcome.ensures.outcome
          ((rw c.as_slice.ensures at w.whole).0 b.in-Whole.is) (rw c.as_slice.ensures at w.taken)))
      | in-Failed b ↦ (let cause = rw b.in-Failed.is at w.cause in absurd (calm_out cause.1))
    ]

pub returns-clause-scheduled : goal.returns-clause-scheduled
returns-clause-scheduled g c = λ calm_files calm_out. call_is_scheduled _ _ _ _ _ _ _ _ c.in_ok-outcome.ensures.outcome

pub returns-clause-finishes : goal.returns-clause-finishes
returns-clause-finishes g c = λ calm_files calm_out. plays_finish _ _ _ _ _ _ _ _ (returns-clause-headline g c calm_files calm_out)

pub returns-clause-serial : goal.returns-clause-serial
returns-clause-serial g c = λ calm_files calm_out.
    let w = c.write_text-written.ensures in
    elim c.match-written.branch [
      | in-Whole b ↦ rw b.status-is (printed_elision _ _ _ _ _ _ _ _ _ _ calm_files
          (text_whole _ _ _ _ _ _ _ _ _ _ _ c.in_ok-outcome.ensures.outcome
          ((rw c.as_slice.ensures at w.whole).0 b.in-Whole.is) (rw c.as_slice.ensures at w.taken)))
      | in-Failed b ↦ (let cause = rw b.in-Failed.is at w.cause in absurd (calm_out cause.1))
    ]

pub returns-clause-checked : goal.returns-clause-checked
returns-clause-checked g c = λ calm_files calm_out.
    let w = c.write_text-written.ensures in
    elim c.match-written.branch [
      | in-Whole b ↦ rw b.status-is (printed_check _ _ _ _ _ _ _ _ _ _ calm_files
          (text_whole _ _ _ _ _ _ _ _ _ _ _ c.in_ok-outcome.ensures.outcome
          ((rw c.as_slice.ensures at w.whole).0 b.in-Whole.is) (rw c.as_slice.ensures at w.taken)))
      | in-Failed b ↦ (let cause = rw b.in-Failed.is at w.cause in absurd (calm_out cause.1))
    ]

pub returns-clause-grid : goal.returns-clause-grid
returns-clause-grid g c = λ calm_files calm_out.
    let w = c.write_text-written.ensures in
    elim c.match-written.branch [
      | in-Whole b ↦ rw b.status-is (printed_grid _ _ _ _ _ _ _ _ _ _ calm_files
          (text_whole _ _ _ _ _ _ _ _ _ _ _ c.in_ok-outcome.ensures.outcome
          ((rw c.as_slice.ensures at w.whole).0 b.in-Whole.is) (rw c.as_slice.ensures at w.taken)))
      | in-Failed b ↦ (let cause = rw b.in-Failed.is at w.cause in absurd (calm_out cause.1))
    ]

pub returns-clause-weighed : goal.returns-clause-weighed
returns-clause-weighed g c = λ calm_files calm_out.
    let w = c.write_text-written.ensures in
    elim c.match-written.branch [
      | in-Whole b ↦ rw b.status-is (printed_span _ _ _ _ _ _ _ _ _ _ calm_files
          (text_whole _ _ _ _ _ _ _ _ _ _ _ c.in_ok-outcome.ensures.outcome
          ((rw c.as_slice.ensures at w.whole).0 b.in-Whole.is) (rw c.as_slice.ensures at w.taken)))
      | in-Failed b ↦ (let cause = rw b.in-Failed.is at w.cause in absurd (calm_out cause.1))
    ]

pub returns-clause-formatted : goal.returns-clause-formatted
returns-clause-formatted g c = λ calm_files calm_out.
    let w = c.write_text-written.ensures in
    elim c.match-written.branch [
      | in-Whole b ↦ rw b.status-is (text_printed _ _ _ _ _ _ _ _ _ _ calm_files
          (text_whole _ _ _ _ _ _ _ _ _ _ _ c.in_ok-outcome.ensures.outcome
          ((rw c.as_slice.ensures at w.whole).0 b.in-Whole.is) (rw c.as_slice.ensures at w.taken)))
      | in-Failed b ↦ (let cause = rw b.in-Failed.is at w.cause in absurd (calm_out cause.1))
    ]

pub returns-clause-benched : goal.returns-clause-benched
returns-clause-benched g c = λ calm_out.
    let w = c.write_text-written.ensures in
    elim c.match-written.branch [
      | in-Whole b ↦ rw b.status-is (printed_summary _ _ _ _ _ _ _ _ _ _ (text_whole _ _ _ _ _ _ _ _ _ _ _ c.in_ok-outcome.ensures.outcome
          ((rw c.as_slice.ensures at w.whole).0 b.in-Whole.is) (rw c.as_slice.ensures at w.taken)))
      | in-Failed b ↦ (let cause = rw b.in-Failed.is at w.cause in absurd (calm_out cause.1))
    ]

pub returns-clause-logged : goal.returns-clause-logged
returns-clause-logged g c = λ other.
    elim c.match-written.branch [
      | in-Whole b ↦ rw b.status-is (result_is_logged c.in_ok-outcome.ensures.outcome)
      | in-Failed b ↦ absurd (other b.status-is)
    ]

pub returns-clause-read_fault : goal.returns-clause-read_fault
returns-clause-read_fault g c = λ four.
    elim c.match-written.branch [
      | in-Whole b ↦ result_has_cause c.in_ok-outcome.ensures.outcome (sym b.status-is ∙ four)
      | in-Failed b ↦ (let five = b.status-is in absurd (omega (arith, five, four)))
    ]

pub returns-clause-write_fault : goal.returns-clause-write_fault
returns-clause-write_fault g c = λ five.
    elim c.match-written.branch [
      | in-Whole b ↦ absurd (no_write_fault c.in_ok-outcome.ensures.outcome (sym b.status-is ∙ five))
      | in-Failed b ↦ (let cause = rw b.in-Failed.is at c.write_text-written.ensures.cause in cause.1)
    ]

pub returns-clause-statuses : goal.returns-clause-statuses
returns-clause-statuses g c =
    elim c.match-written.branch [
      | in-Whole b ↦ (let same = b.status-is in let small = result_is_small c.in_ok-outcome.ensures.outcome in omega (arith, same, small))
      | in-Failed b ↦ (let five = b.status-is in omega (arith, five))
    ]

pub returns-in-NoMemory-clause-counts : goal.returns-in-NoMemory-clause-counts
returns-in-NoMemory-clause-counts g c =
    (result_keeps_count c.in_ok-outcome.ensures.outcome, counts_do_not_fall _ c.write_text-written.ensures.cause)

pub returns-clause-counts : goal.returns-clause-counts
returns-clause-counts g c = (result_keeps_count c.in_ok-outcome.ensures.outcome, counts_do_not_fall _ c.write_text-written.ensures.cause)

pub returns-clause-files_grew : goal.returns-clause-files_grew
returns-clause-files_grew g c = λ grew.
    elim c.match-written.branch [
      | in-Whole b ↦ inl (b.status-is ∙ grown_count_has_status c.in_ok-outcome.ensures.outcome grew)
      | in-Failed b ↦ inr b.status-is
    ]
