use Rattle.grammar_laws.proofs.OneSourceSpelling.{one_source_spelling}
use Rattle.grammar_laws.proofs.spelling.sources_spell_one_program.Goals as goal

pub returns : goal.returns
returns c = one_source_spelling
