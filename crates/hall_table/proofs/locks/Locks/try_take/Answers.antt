use Rattle.std.proofs.Common.{arith, refl}
use Rattle.hall_table.proofs.Steps.{may_take}
use Rattle.hall_table.specs.Openings.{start_in}
use Rattle.hall_table.proofs.locks.Locks.try_take.Goals as goal

pub swap-requires : goal.swap-requires
swap-requires g c = let w = c.args.self.now.sized.0 in let l = c.requires.lock in (
  c.requires.own,
  omega (arith, l, w),
  may_take g.row.M.Denot (start_in c.args.self.now.table.shared.key) _ _ c.args.seat.now.me
      c.args.lock l,
)

pub returns-then-swap-ne0-clause-none : goal.returns-then-swap-ne0-clause-none
returns-then-swap-ne0-clause-none g c = λ _. (c.swap.ensures.2 c.args.lock refl).1 c.if-swap-ne0.true

pub returns-clause-taken : goal.returns-clause-taken
returns-clause-taken g c = λ _. (c.swap.ensures.2 c.args.lock refl).0 c.if-swap-ne0.false
