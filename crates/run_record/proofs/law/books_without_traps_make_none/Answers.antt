use Rattle.run_record.proofs.TrappedEvents as trapped
use Rattle.run_record.proofs.law.books_without_traps_make_none.Goals as goal

pub returns : goal.returns
returns c = trapped.books_without_traps_make_none
