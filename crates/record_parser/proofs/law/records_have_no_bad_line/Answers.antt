use Rattle.record_parser.proofs.OneReading.{records_have_no_bad_line}
use Rattle.record_parser.proofs.law.records_have_no_bad_line.Goals as goal

pub returns : goal.returns
returns c = records_have_no_bad_line
