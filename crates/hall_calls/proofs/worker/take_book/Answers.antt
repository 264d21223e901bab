-- The seat was idle.
use Rattle.std.proofs.Common.{refl, None}
use Rattle.hall_calls.proofs.TakenBooks.{has_taken}
use Rattle.hall_calls.proofs.worker.take_book.Goals as goal

pub returns-clause-taken : goal.returns-clause-taken
returns-clause-taken g c =
    let m = c.args.seat.now.me in
    let t = c.take_book.ensures.taken in
    let i = c.requires.idle in
    (t.0, has_taken g.row.M.Denot m m c.take_book.new.seat.me t.0 None i refl refl refl refl i.run refl t.1 t.2)
