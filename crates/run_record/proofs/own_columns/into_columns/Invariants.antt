use Rattle.std.proofs.Common.{◌≡◌, map}
use Rattle.pipe_model.specs.Runs.RunLogs.{column_of_frame}
use Rattle.run_record.specs.OwnColumns.{frame_of}
use Rattle.run_record.proofs.own_columns.into_columns.Given as goal

abbrev pub invariant-loop-iteration : goal.invariant-loop-iteration
invariant-loop-iteration l = l.columns.items ≡ map (λ it. column_of_frame (frame_of it)) l.yielded
