use Rattle.std.proofs.Common.{arith, ap}
use Rattle.hall_table.proofs.Steps.{may_return_book}
use Rattle.hall_table.specs.Openings.{start_in}
use Rattle.hall_table.proofs.locks.Locks.return_book.Goals as goal

pub store-requires : goal.store-requires
store-requires g c =
    let w = c.args.self.now.sized.0 in
    let m = c.args.seat.now.me in
    let r = c.requires.call in (
      c.requires.own,
      omega (arith, w),
      may_return_book g.row.M.Denot (start_in c.args.self.now.table.shared.key) _ _ m m.0 r.0 r.1 r.2
          (ap (λ cs. (m.0, cs)) r.3.slots) r.3.held r.3.run r.4,
    )
