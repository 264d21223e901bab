use Rattle.workload_laws.proofs.ReadInputs.{inputs_are_read}
use Rattle.workload_laws.proofs.inputs.generated_inputs_are_read.Goals as goal

pub returns : goal.returns
returns c = inputs_are_read
