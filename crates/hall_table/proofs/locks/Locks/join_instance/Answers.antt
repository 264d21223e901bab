use Rattle.std.proofs.Common.{◌∙◌, arith, sym, ap}
use Rattle.hall_table.proofs.Steps.{joins_instance}
use Rattle.hall_table.specs.InstanceSeats.{badge_view}
use Rattle.hall_table.proofs.Seating.{instance_badge}
use Rattle.hall_table.specs.Openings.{start_in}
use Rattle.hall_table.proofs.locks.Locks.join_instance.Goals as goal

pub join_seat-requires : goal.join_seat-requires
join_seat-requires g c =
    let w = c.args.self.now.sized.0 in
    let e = c.into_seat-other.ensures in
    let b = instance_badge c.args.run.badge.views c.args.run.of_instance in (
      c.requires.own.0,
      e.0 ∙ c.requires.own.1,
      e.3,
      omega (arith, w),
      joins_instance g.row.M.Denot
          (start_in c.args.self.now.table.shared.key) _ _ _ _ b.run c.requires.free
          (ap (λ vs. (badge_view vs).run) (sym e.2) ∙ (ap (λ vs. (badge_view vs).run) b.is ∙ b.run_is)),
    )
