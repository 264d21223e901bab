use Rattle.language_laws.proofs.SpellablePrograms.{spelled_is_spellable}
use Rattle.language_tests.proofs.sources.accepted.Goals as goal

pub check-requires : goal.check-requires
check-requires c =
    record {
      spellable = spelled_is_spellable _ _ (record {
        tokens = _;
        lexed = c.in-Ok.ensures.tokens;
        spelled =
            c.in-Ok-parse.ensures.program;
      });
    }
