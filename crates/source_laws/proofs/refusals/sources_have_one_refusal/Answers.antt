use Rattle.grammar_laws.proofs.SourceRefusals.{one_refusal}
use Rattle.source_laws.proofs.refusals.sources_have_one_refusal.Goals as goal

pub returns : goal.returns
returns c = λ source refusal other r s. one_refusal r s
