use Rattle.grammar_laws.proofs.TokenLaws.{one_fault}
use Rattle.grammar_laws.proofs.tokens.sources_have_one_fault.Goals as goal

pub returns : goal.returns
returns c = one_fault
