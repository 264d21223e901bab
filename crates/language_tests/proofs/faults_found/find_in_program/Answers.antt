use Rattle.language_tests.proofs.SpelledSources.{parsed_is_spellable}
use Rattle.language_tests.proofs.faults_found.find_in_program.Goals as goal

pub check-requires : goal.check-requires
check-requires c = record { spellable = parsed_is_spellable _ _ _ c.requires c.in-Ok.ensures.program }
