use Rattle.pipe_io.specs.declared.bounds.TheConstants.{LONGEST_INPUT}
use Rattle.command_results.proofs.Loading.{input_is_missing, input_is_too_long, input_outcome, of_file}
use Rattle.command_results.proofs.load.load_input.Goals as goal

pub returns-in-Missing-clause-outcome : goal.returns-in-Missing-clause-outcome
returns-in-Missing-clause-outcome g c =
    let whole = rw c.in-Missing.is at (of_file (g.F.Files.holds c.args.files.now) c.args.name.now LONGEST_INPUT c.in_ok-read_whole.field-0
    c.in_ok-read_whole.ensures.limit c.in_ok-read_whole.ensures.known) in
    record {
      file = whole.file;
      known = whole.known;
      result_is = input_is_missing _ _ _ LONGEST_INPUT c.in_ok-named_line-in-Missing.ensures
          whole.is;
    }

pub returns-in-Failed-clause-outcome : goal.returns-in-Failed-clause-outcome
returns-in-Failed-clause-outcome g c =
    let whole = of_file (g.F.Files.holds c.args.files.now) c.args.name.now LONGEST_INPUT c.in_ok-read_whole.field-0
    c.in_ok-read_whole.ensures.limit
    c.in_ok-read_whole.ensures.known in record { file = whole.file; known = whole.known; result_is = tt }

pub returns-in-TooLong-clause-outcome : goal.returns-in-TooLong-clause-outcome
returns-in-TooLong-clause-outcome g c =
    let whole = rw c.in-TooLong.is at (of_file (g.F.Files.holds c.args.files.now) c.args.name.now LONGEST_INPUT c.in_ok-read_whole.field-0
    c.in_ok-read_whole.ensures.limit c.in_ok-read_whole.ensures.known) in
    record { file = whole.file; known = whole.known; result_is = input_is_too_long _ _ _ _ c.in_ok-input_line-in-TooLong.ensures whole.is }

pub returns-clause-outcome : goal.returns-clause-outcome
returns-clause-outcome g c =
    let whole = rw c.in-Bytes.is at (of_file (g.F.Files.holds c.args.files.now) c.args.name.now LONGEST_INPUT c.in_ok-read_whole.field-0
    c.in_ok-read_whole.ensures.limit c.in_ok-read_whole.ensures.known) in
    input_outcome _ _ LONGEST_INPUT _ _ whole (rw c.as_slice.ensures at c.input_of.ensures)
