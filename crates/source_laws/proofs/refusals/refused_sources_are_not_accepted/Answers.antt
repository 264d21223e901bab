use Rattle.grammar_laws.proofs.SourceRefusals.{refused_not_accepted}
use Rattle.source_laws.proofs.refusals.refused_sources_are_not_accepted.Goals as goal

pub returns : goal.returns
returns c = λ source refusal tree r a. refused_not_accepted tree r a
