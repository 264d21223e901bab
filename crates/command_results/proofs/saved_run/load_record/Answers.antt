use Rattle.record_parser.specs.declared.bounds.TheConstants.{LONGEST_RECORD}
use Rattle.command_results.proofs.Loading.{of_file}
use Rattle.command_results.proofs.SavedRuns.{record_is_missing, record_is_too_long, record_outcome}
use Rattle.command_results.proofs.saved_run.load_record.Goals as goal

pub returns-in-Missing-clause-outcome : goal.returns-in-Missing-clause-outcome
returns-in-Missing-clause-outcome g c =
    record_is_missing _ _ _ _ (rw c.in-Missing.is at (of_file (g.F.Files.holds c.args.files.now) c.args.name.now LONGEST_RECORD
    c.in_ok-read_whole.field-0
    c.in_ok-read_whole.ensures.limit c.in_ok-read_whole.ensures.known)) c.in_ok-named_line-in-Missing.ensures

pub returns-in-Failed-clause-outcome : goal.returns-in-Failed-clause-outcome
returns-in-Failed-clause-outcome g c =
    let whole = of_file (g.F.Files.holds c.args.files.now) c.args.name.now LONGEST_RECORD c.in_ok-read_whole.field-0
    c.in_ok-read_whole.ensures.limit
    c.in_ok-read_whole.ensures.known in record { file = whole.file; known = whole.known; result_is = tt }

pub returns-in-TooLong-clause-outcome : goal.returns-in-TooLong-clause-outcome
returns-in-TooLong-clause-outcome g c =
    record_is_too_long _ _ _ _ _ (rw c.in-TooLong.is at (of_file (g.F.Files.holds c.args.files.now) c.args.name.now LONGEST_RECORD
    c.in_ok-read_whole.field-0 c.in_ok-read_whole.ensures.limit c.in_ok-read_whole.ensures.known)) c.in_ok-line-in-TooLong.ensures

pub returns-clause-outcome : goal.returns-clause-outcome
returns-clause-outcome g c =
    record_outcome _ _ _ _ _ (rw c.in-Bytes.is at (of_file (g.F.Files.holds c.args.files.now) c.args.name.now LONGEST_RECORD
    c.in_ok-read_whole.field-0
    c.in_ok-read_whole.ensures.limit c.in_ok-read_whole.ensures.known)) (rw c.in-Bytes.is at c.in_ok-read_whole.ensures.limit)
    (rw c.as_slice.ensures at c.record_of.ensures)
