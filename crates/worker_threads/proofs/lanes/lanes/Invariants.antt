use Rattle.std.proofs.Common.{◌≡◌, ◌+◌, ℕ, All, length, map, sum_by, vec_len}
use Rattle.worker_threads.specs.Lanes.{AreNumbered, ends_in, seat_in}
use Rattle.worker_threads.proofs.lanes.lanes.Given as goal

abbrev pub invariant-loop-ends : goal.invariant-loop-ends
invariant-loop-ends g l = record {
  made : map ends_in l.lanes.items ≡ l.yielded;
  seats : vec_len l.seats + length l.yielded ≡ vec_len l.fn.seats;
  left : All (λ seat. g.H.Hall.named seat ≡ g.J.DrivenHall.named) l.seats.items;
  named : All (λ lane. g.H.Hall.named (seat_in lane) ≡ g.J.DrivenHall.named) l.lanes.items;
  numbers : AreNumbered l.lanes.items;
  sums : (f : g.row.H.Denot → ℕ) → sum_by (λ lane. f (seat_in lane)) l.lanes.items + sum_by f l.seats.items ≡ sum_by f l.fn.seats.items;
}
