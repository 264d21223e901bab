use Rattle.std.proofs.Common.{◌≡◌, ◌+◌, suc, arith, ap}
use Rattle.hall_table.proofs.Steps.{may_return_shard_at}
use Rattle.hall_table.specs.Openings.{start_in}
use Rattle.hall_table.proofs.locks.Locks.return_shard.Goals as goal

pub store-requires : goal.store-requires
store-requires g c =
    let w = c.args.self.now.sized.0 in
    let r = c.requires.made in
    let l = c.requires.there in
    let m = c.args.seat.now.me in
    let s : 1 + c.args.number ≡ suc c.args.number = omega arith in (
      c.requires.own,
      omega (arith, w, l),
      may_return_shard_at g.row.M.Denot (start_in c.args.self.now.table.shared.key) _ _ (1 + c.args.number) c.args.number
          m m.0 r.0 r.1 s (ap (λ cs. (m.0, cs)) r.2) r.3 r.4,
    )

pub returns-clause-given : goal.returns-clause-given
returns-clause-given g c = λ x y held slot. c.store.ensures.2 (1 + c.args.number) x y held slot
