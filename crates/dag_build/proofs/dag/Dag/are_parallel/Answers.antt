use Rattle.dag_build.proofs.Paths.{not_parallel_in_column}
use Rattle.dag_build.proofs.dag.Dag.are_parallel.Goals as goal

pub returns-then-a-b-clause-no : goal.returns-then-a-b-clause-no
returns-then-a-b-clause-no c =
    not_parallel_in_column _ _ _ c.if-a-b.true c.requires.a_in.1 c.requires.b_in.1
