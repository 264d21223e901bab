use Rattle.std.proofs.Common.{◌≡◌, take}
use Rattle.schedule_laws.specs.StartCounts.{instances_in}
use Rattle.command_results.proofs.program_run.instance_count.Given as goal
use Rattle.pipe_model.specs.Races.Columns.{node_columns}

abbrev pub invariant-loop-column : goal.invariant-loop-column
invariant-loop-column l = l.count ≡ instances_in (node_columns (take l.column-index l.columns))
