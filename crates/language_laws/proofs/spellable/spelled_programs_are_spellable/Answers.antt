use Rattle.language_laws.proofs.SpellablePrograms.{spelled_is_spellable}
use Rattle.language_laws.proofs.spellable.spelled_programs_are_spellable.Goals as goal

pub returns : goal.returns
returns c = spelled_is_spellable
