use Rattle.grammar_laws.proofs.SourceRefusals.{one_accepted}
use Rattle.source_laws.proofs.refusals.sources_are_accepted_as_one_program.Goals as goal

pub returns : goal.returns
returns c = one_accepted
