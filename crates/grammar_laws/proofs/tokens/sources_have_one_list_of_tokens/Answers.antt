use Rattle.grammar_laws.proofs.TokenLaws.{one_list}
use Rattle.grammar_laws.proofs.tokens.sources_have_one_list_of_tokens.Goals as goal

pub returns : goal.returns
returns c = one_list
