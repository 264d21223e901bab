use Rattle.std.proofs.Common.{take}
use Rattle.dag_build.specs.ClearAccesses.{AreClear}
use Rattle.dag_build.proofs.dag.Dag.are_clear.Given as goal

abbrev pub invariant-loop-access : goal.invariant-loop-access
invariant-loop-access l = AreClear l.self (take l.access-index l.accesses) l.fronts.items
