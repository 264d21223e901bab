use Rattle.language_laws.proofs.SpellablePrograms.{spelled_is_spellable}
use Rattle.command_results.proofs.SourceFaults.{fault_has_place, program_accepted, program_refused}
use Rattle.command_results.proofs.SourceFaults.{spelled_by, text_refused, tokens_refused}
use Rattle.command_results.proofs.load.source_of.Goals as goal

pub returns-in-Err : goal.returns-in-Err
returns-in-Err c = text_refused _ _ _ c.in-Err.ensures.fault c.in_ok-lexical_line-in-Err.ensures

pub returns-in-Err-parse : goal.returns-in-Err-parse
returns-in-Err-parse c = tokens_refused _ _ _ _ c.in-Ok.ensures.tokens c.in-Err-parse.ensures.fault c.in_ok-syntax_line-in-Err-parse.ensures

pub check-requires : goal.check-requires
check-requires c = record { spellable = spelled_is_spellable _ _ (spelled_by _ _ _ c.in-Ok.ensures.tokens c.in-Ok-parse.ensures.program) }

pub returns-in-Ok-check : goal.returns-in-Ok-check
returns-in-Ok-check c =
    rw c.in-Ok-check.ensures.program (program_accepted _ _ _ (spelled_by _ _ _ c.in-Ok.ensures.tokens c.in-Ok-parse.ensures.program)
    c.in-Ok-check.ensures.ok
    c.in-Ok-parse.ensures.places)

pub check_line-requires : goal.check_line-requires
check_line-requires c =
    rw (c.as_slice.ensures, c.in-Ok-parse.ensures.places)
    (fault_has_place _ _ (spelled_by _ _ _ c.in-Ok.ensures.tokens c.in-Ok-parse.ensures.program) _ c.in-Err-check.ensures.err)

pub returns : goal.returns
returns c =
    program_refused _ _ (spelled_by _ _ _ c.in-Ok.ensures.tokens c.in-Ok-parse.ensures.program) _ _ c.in-Err-check.ensures.err
    (rw (c.as_slice.ensures, c.in-Ok-parse.ensures.places) at c.in_ok-check_line-in-Err-check.ensures)
