use Rattle.std.proofs.Common.{arith, subst, sym, eqb}
use mathlib.Core.Option.{some}
use prog.Atomic.{either}
use Rattle.atomic_table.specs.Table.{Allows, step}
use Rattle.hall_table.specs.HallRule.{IsHall}
use Rattle.hall_table.specs.Steps.{returns_book_and_token}
use Rattle.hall_table.specs.declared.slot.Slot.{Slot}
use Rattle.hall_table.proofs.Steps.{may_return_book_and_token}
use Rattle.hall_table.specs.Openings.{start_in}
use Rattle.hall_table.proofs.locks.Locks.return_beside.Goals as goal

pub compare_exchange_with-requires : goal.compare_exchange_with-requires
compare_exchange_with-requires g c =
    let w = c.args.self.now.sized.0 in
    let r = c.requires.call in
    let key = (start_in c.args.self.now.table.shared.key) in
    let n = c.args.self.now.table.shared.table_id.slots in
    let id = c.args.seat.now.id in
    let m = c.args.seat.now.me in (
      c.requires.own,
      omega (arith, w),
      subst (λ (x : Slot g.row.M.Denot). Allows (IsHall {M = g.row.M.Denot} key) n id m 0 (λ k. either (eqb k 1) 0 k)
          (returns_book_and_token (step n 0 1 0 (some x)) m)) (sym r.5)
          (may_return_book_and_token g.row.M.Denot key n id m r.2 r.3 r.1 r.4 r.0 r.6 r.7 r.8 r.9),
    )
