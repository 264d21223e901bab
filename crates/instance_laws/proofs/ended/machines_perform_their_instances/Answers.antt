use Rattle.instance_laws.proofs.InstanceEnds.{has_ended}
use Rattle.instance_laws.proofs.ended.machines_perform_their_instances.Goals as goal

pub returns : goal.returns
returns c = has_ended
