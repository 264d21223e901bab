use Rattle.grammar_laws.proofs.TokenLaws.{no_fault}
use Rattle.grammar_laws.proofs.tokens.sources_with_tokens_have_no_fault.Goals as goal

pub returns : goal.returns
returns c = no_fault
