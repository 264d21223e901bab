use Rattle.grammar_laws.proofs.FaultRules.{one_fault, spelled_without_fault}
use Rattle.grammar_laws.proofs.spelling.symbols_have_one_first_fault.Goals as goal

pub returns-clause-one : goal.returns-clause-one
returns-clause-one c = λ symbols rule other k m f g. one_fault f g

pub returns-clause-none : goal.returns-clause-none
returns-clause-none c = λ symbols tree rule k s f. spelled_without_fault f s
