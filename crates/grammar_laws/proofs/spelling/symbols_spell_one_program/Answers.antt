use Rattle.grammar_laws.proofs.FaultRules.{one_spelled}
use Rattle.grammar_laws.proofs.spelling.symbols_spell_one_program.Goals as goal

pub returns : goal.returns
returns c = λ symbols tree other s t. one_spelled s t
