use Rattle.std.proofs.Common.{◌≡◌, ◌+◌, ◌≤◌, All, vec_len}
use Rattle.hall_table.specs.WorkerSeats.{hall_name}
use Rattle.pipe_engine.proofs.workers.further_seats.Given as goal

abbrev pub invariant-loop : goal.invariant-loop
invariant-loop g l = record {
  made : vec_len l.seats + 1 ≡ l.counter;
  some : l.counter ≤ l.workers;
  unchanged : l.first ≡ l.fn.first;
  named : All (λ seat. hall_name seat.hall ≡ hall_name l.fn.first.hall) l.seats.items;
}
