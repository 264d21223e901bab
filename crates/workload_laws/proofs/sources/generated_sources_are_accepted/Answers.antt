use Rattle.workload_laws.proofs.AcceptedSources.{accepted}
use Rattle.workload_laws.proofs.sources.generated_sources_are_accepted.Goals as goal

pub returns : goal.returns
returns c = accepted
