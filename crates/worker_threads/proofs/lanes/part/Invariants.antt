use Rattle.std.proofs.Common.{◌≡◌, map}
use Rattle.std.specs.Prelude.{vec_capacity}
use Rattle.worker_threads.specs.Lanes.{ends_in, seat_in}
use Rattle.worker_threads.proofs.lanes.part.Given as goal

abbrev pub invariant-loop-lane : goal.invariant-loop-lane
invariant-loop-lane g l = record {
  seats : l.seats.items ≡ map seat_in l.yielded;
  ends : l.ends.items ≡ map ends_in l.yielded;
  room_of_seats : vec_capacity l.seats ≡ vec_capacity l.fn.seats;
  room_of_ends : vec_capacity l.ends ≡ vec_capacity l.fn.ends;
}
