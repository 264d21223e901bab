use Rattle.record_parser.proofs.ReadBack.{logs_have_no_bad_line}
use Rattle.record_parser.proofs.law.logs_have_no_bad_line.Goals as goal

pub returns : goal.returns
returns c = logs_have_no_bad_line
