-- Runs of whole programs.
use Rattle.std.specs.Prelude.{◌≡◌}
use Rattle.pipe_model.specs.Pipelines.WholePrograms.{WholeProgram, loop_accesses, program_columns, program_output, program_trap}
use Rattle.serial_elision.specs.declared.elision.SerialRun.{SerialRun}

-- the program ran as its serial elision
pub record IsElision (w : WholeProgram) (r : SerialRun) : Type 0 where
  pub output_is : r.output ≡ program_output w
  pub trap_is : r.trap ≡ program_trap w
  pub columns_are : r.columns ≡ program_columns w
  pub accesses_are : r.accesses ≡ loop_accesses w
