use Rattle.book_laws.proofs.PlannedPrograms.{accepted_programs_are_planned}
use Rattle.book_laws.proofs.books.accepted_programs_are_planned.Goals as goal

pub returns : goal.returns
returns c = accepted_programs_are_planned
