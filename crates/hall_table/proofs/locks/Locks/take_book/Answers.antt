use Rattle.hall_table.proofs.Seating.{taken_book}
use Rattle.hall_table.proofs.locks.Locks.take_book.Goals as goal

pub returns-clause-taken : goal.returns-clause-taken
returns-clause-taken g c =
    let t = c.take.ensures.taken in
    taken_book g.row.M.Denot c.args.seat.now.me _ t.0 t.1 t.2
