use Rattle.std.proofs.Common.{refl}
use Rattle.op_table.specs.declared.operators.TheConstants.{OPS}
use Rattle.op_table.proofs.TableRules.{obeys}
use Rattle.op_table.proofs.rules.operators_obey_the_rules.Goals as goal

pub returns : goal.returns
returns c = obeys OPS.rows refl
