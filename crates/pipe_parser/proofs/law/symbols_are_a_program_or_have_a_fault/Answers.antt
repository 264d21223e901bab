use Rattle.pipe_parser.proofs.EachProgram.{program_or_fault}
use Rattle.pipe_parser.proofs.law.symbols_are_a_program_or_have_a_fault.Goals as goal

pub returns : goal.returns
returns c = program_or_fault
