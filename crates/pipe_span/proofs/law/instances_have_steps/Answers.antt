use Rattle.pipe_span.proofs.ElisionWeights.{instances_have_steps}
use Rattle.pipe_span.proofs.law.instances_have_steps.Goals as goal

pub returns : goal.returns
returns c = instances_have_steps
