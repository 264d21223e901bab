use Rattle.source_laws.proofs.AcceptedOrRefused.{accepted_or_refused}
use Rattle.source_laws.proofs.refusals.sources_are_accepted_or_refused.Goals as goal

pub returns : goal.returns
returns c = accepted_or_refused
