-- Runs of a program's loop.
use Rattle.std.specs.Prelude.{◌≡◌, ◌++◌}
use Rattle.cell_store.specs.ShardState.{IsStateAfter}
use Rattle.pipe_model.specs.Pipelines.ElisionResults.{serial_ended_columns, serial_trap}
use Rattle.pipe_model.specs.Pipelines.Pipeline.{Pipeline}
use Rattle.pipe_model.specs.Pipelines.SerialElision.{serial_accesses}
use Rattle.pipe_model.specs.Runs.State.{accesses_of}
use Rattle.serial_elision.specs.declared.iterations.LoopRun.{LoopRun}

-- the iterations ran as in the serial elision of the pipeline
pub record LoopRan (p : Pipeline) (r : LoopRun) : Type 0 where
  pub columns_are : r.columns ≡ serial_ended_columns p
  pub trap_is : r.trap ≡ serial_trap p
  pub accesses_are : r.log.accesses ≡ serial_accesses p
  pub cells : IsStateAfter p.store (p.preamble ++ accesses_of r.log.accesses) r.log.cells
