use Rattle.record_parser.proofs.OneReading.{texts_have_one_bad_line}
use Rattle.record_parser.proofs.law.texts_have_one_bad_line.Goals as goal

pub returns : goal.returns
returns c = texts_have_one_bad_line
