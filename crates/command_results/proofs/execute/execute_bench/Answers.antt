use Rattle.command_results.proofs.RowOfCall.{bench_returned}
use Rattle.command_results.proofs.execute.execute_bench.Goals as goal

pub returns : goal.returns
returns g c = λ holds faults. rw c.new.ensures (bench_returned _ _ _ c.requires c.in_ok-bench.ensures holds faults)
