use Rattle.record_parser.proofs.ReadBack.{logs_are_read_as_their_events}
use Rattle.record_parser.proofs.law.logs_are_read_as_their_events.Goals as goal

pub returns : goal.returns
returns c = logs_are_read_as_their_events
