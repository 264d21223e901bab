use Rattle.std.proofs.Common.{◌≡◌, ap, arith, length, subst, sym, vec_len}
use Rattle.std.proofs.lemmas.List.{length-map}
use Rattle.work_deques.specs.WorkerEnds.{AreAllEnds}
use Rattle.worker_threads.specs.Lanes.{ends_in, seat_in}
use Rattle.worker_threads.proofs.LaneLists.{all_seats}
use Rattle.worker_threads.proofs.LaneTokens.{left_out}
use Rattle.worker_tasks.specs.Tasks.{IsOver}
use Rattle.worker_threads.proofs.drive.drive_hall.Goals as goal

pub returns-clause-named : goal.returns-clause-named
returns-clause-named g c =
    all_seats (λ seat. g.H.Hall.named seat ≡ g.J.DrivenHall.named) c.disband-seats.result.0.items c.work.new.lanes.items
    c.disband-seats.ensures.seats c.work.ensures.named

pub returns-clause-over : goal.returns-clause-over
returns-clause-over g c =
    all_seats (λ seat. IsOver (g.H.Hall.seen seat)) c.disband-seats.result.0.items c.work.new.lanes.items c.disband-seats.ensures.seats
    c.work.ensures.over

pub returns-clause-tokens : goal.returns-clause-tokens
returns-clause-tokens g c =
    let made = c.in_ok-ends.ensures in
    let placed = c.in_ok-lanes.ensures in
    let disbanded = c.disband-seats.ensures in
    left_out g.H.Hall.tokens _ c.args.capacity c.args.seats.items c.disband-seats.result.0.items c.in_ok-ends.ends.items
    c.in_ok-lanes.lanes.items c.work.new.lanes.items disbanded.account.0 c.disband-seats.result.1
    made.fresh placed.ends placed.seats c.work.ensures.tokens disbanded.seats disbanded.account.1 disbanded.account.2

pub work-requires : goal.work-requires
work-requires g c =
    let bounds = c.type_bounds in
    let placed = c.in_ok-lanes.ensures in (
      bounds.send-J,
      (
        bounds.send-M,
        (
          bounds.send-H,
          (
            bounds.sync-R,
            (
              bounds.sync-G,
              (
                omega (
                  arith,
                  length-map c.in_ok-lanes.lanes.items ends_in,
                  ap length placed.ends,
                  c.in_ok-ends.ensures.length,
                  c.in_ok-lanes.lanes.ok.0,
                  c.len-workers.ensures,
                  c.requires.nonempty,
                ),
                (placed.named, (c.requires.drives, subst AreAllEnds (sym placed.ends) c.in_ok-ends.ensures.all)),
              ),
            ),
          ),
        ),
      ),
    )

pub disband-seats-requires : goal.disband-seats-requires
disband-seats-requires g c =
    let seats = c.in_ok-room_for_seats.ensures in
    let ends = c.in_ok-room_for_ends.ensures in
    let count : vec_len c.work.new.lanes ≡ c.len-workers.result =
    omega (
      arith,
      c.work.ensures.length,
      length-map c.in_ok-lanes.lanes.items ends_in,
      ap length c.in_ok-lanes.ensures.ends,
      c.in_ok-ends.ensures.length,
      c.in_ok-lanes.lanes.ok.0,
    ) in
    record {
      seats = (seats.items, omega (arith, count, seats.capacity));
      ends = (ends.items, omega (arith, count, ends.capacity));
      all = c.work.ensures.all;
    }

pub returns-clause-length : goal.returns-clause-length
returns-clause-length g c =
    omega (
      arith,
      ap length c.disband-seats.ensures.seats,
      length-map c.work.new.lanes.items seat_in,
      c.work.ensures.length,
      length-map c.in_ok-lanes.lanes.items ends_in,
      ap length c.in_ok-lanes.ensures.ends,
      c.in_ok-ends.ensures.length,
      c.len-workers.ensures,
      c.in_ok-lanes.lanes.ok.0,
      c.work.new.lanes.ok.0,
      c.disband-seats.result.0.ok.0,
    )
