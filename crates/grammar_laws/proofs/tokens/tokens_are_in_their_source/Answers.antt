use Rattle.grammar_laws.proofs.TokenLaws.{tokens_in_source}
use Rattle.grammar_laws.proofs.tokens.tokens_are_in_their_source.Goals as goal

pub returns : goal.returns
returns c = tokens_in_source
