use Rattle.record_parser.proofs.ReadBack.{records_have_one_reading}
use Rattle.record_parser.proofs.law.records_have_one_reading.Goals as goal

pub returns : goal.returns
returns c = records_have_one_reading
