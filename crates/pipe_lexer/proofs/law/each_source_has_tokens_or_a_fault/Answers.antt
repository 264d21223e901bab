use Rattle.pipe_lexer.proofs.EachSource.{lexed_or_fault}
use Rattle.pipe_lexer.proofs.law.each_source_has_tokens_or_a_fault.Goals as goal

pub returns : goal.returns
returns c = lexed_or_fault
