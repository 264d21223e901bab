use Rattle.grammar_laws.proofs.CanonicalSpelling.{same_text}
use Rattle.pipe_format.proofs.law.readings_have_the_same_text.Goals as goal

pub returns : goal.returns
returns c = same_text
