use Rattle.record_parser.specs.RecordLines.{IsTooLong}
use Rattle.record_parser.proofs.parse.parse_record.Goals as goal

pub returns-then-bytes-gt-LONGEST_RECORD-clause-fault : goal.returns-then-bytes-gt-LONGEST_RECORD-clause-fault
returns-then-bytes-gt-LONGEST_RECORD-clause-fault c = IsTooLong c.if-bytes-gt-LONGEST_RECORD.true
