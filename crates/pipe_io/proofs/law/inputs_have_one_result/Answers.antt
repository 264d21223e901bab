use Rattle.pipe_io.proofs.EachInput.{numbers_or_fault}
use Rattle.pipe_io.proofs.OneFault.{numbers_have_no_fault, one_fault}
use Rattle.pipe_io.proofs.OneReading.{one_reading}
use Rattle.pipe_io.proofs.law.inputs_have_one_result.Goals as goal

pub returns-clause-one_list : goal.returns-clause-one_list
returns-clause-one_list c = one_reading

pub returns-clause-one_fault : goal.returns-clause-one_fault
returns-clause-one_fault c = λ bytes fault other h g. one_fault h g

pub returns-clause-not_both : goal.returns-clause-not_both
returns-clause-not_both c = λ bytes fault numbers h a. numbers_have_no_fault h a

pub returns-clause-one_of_them : goal.returns-clause-one_of_them
returns-clause-one_of_them c = numbers_or_fault
