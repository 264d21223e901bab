use Rattle.command_results.proofs.Loading.{long_source_outcome, of_file, source_outcome, source_is_missing}
use Rattle.command_results.proofs.load.load_source.Goals as goal

pub returns-in_ok-named_line-in-Missing-clause-outcome : goal.returns-in_ok-named_line-in-Missing-clause-outcome
returns-in_ok-named_line-in-Missing-clause-outcome g c =
    let whole = rw c.in-Missing.is at (of_file (g.F.Files.holds c.args.files.now) c.args.name.now 1048576 c.in_ok-read_whole.field-0
    c.in_ok-read_whole.ensures.limit c.in_ok-read_whole.ensures.known) in
    record {
      file = whole.file;
      known = whole.known;
      result_is = source_is_missing _ _ _ 1048576 c.in_ok-named_line-in-Missing.ensures
          whole.is;
    }

pub returns-in-Failed-clause-outcome : goal.returns-in-Failed-clause-outcome
returns-in-Failed-clause-outcome g c =
    let whole = of_file (g.F.Files.holds c.args.files.now) c.args.name.now 1048576 c.in_ok-read_whole.field-0
    c.in_ok-read_whole.ensures.limit
    c.in_ok-read_whole.ensures.known in record { file = whole.file; known = whole.known; result_is = tt }

pub returns-in-TooLong-clause-outcome : goal.returns-in-TooLong-clause-outcome
returns-in-TooLong-clause-outcome g c =
    let whole = rw c.in-TooLong.is at (of_file (g.F.Files.holds c.args.files.now) c.args.name.now 1048576 c.in_ok-read_whole.field-0
    c.in_ok-read_whole.ensures.limit c.in_ok-read_whole.ensures.known) in
    long_source_outcome _ _ _ _ whole (rw c.as_slice.ensures at c.source_of.ensures)

pub returns-in-Bytes-clause-outcome : goal.returns-in-Bytes-clause-outcome
returns-in-Bytes-clause-outcome g c =
    let whole = rw c.in-Bytes.is at (of_file (g.F.Files.holds c.args.files.now) c.args.name.now 1048576 c.in_ok-read_whole.field-0
    c.in_ok-read_whole.ensures.limit c.in_ok-read_whole.ensures.known) in
    source_outcome _ _ 1048576 _ _ whole (rw c.as_slice-in-Bytes.ensures at c.source_of-in-Bytes.ensures)
