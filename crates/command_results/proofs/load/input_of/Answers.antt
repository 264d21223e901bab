use Rattle.command_results.proofs.Loading.{input_faulty}
use Rattle.command_results.proofs.load.input_of.Goals as goal

pub returns-in_ok-input_line-in-Err : goal.returns-in_ok-input_line-in-Err
returns-in_ok-input_line-in-Err c = input_faulty _ _ _ c.in-Err.ensures.fault c.in_ok-input_line-in-Err.ensures
