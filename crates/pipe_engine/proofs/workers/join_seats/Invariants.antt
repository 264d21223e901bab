use Rattle.std.proofs.Common.{◌≡◌}
use Rattle.pipe_frame.specs.HallViews.{BeginsWith}
use Rattle.pipe_engine.proofs.workers.join_seats.Given as goal

abbrev pub invariant-loop-seat : goal.invariant-loop-seat
invariant-loop-seat g l = record {
  hall : l.joined.hall ≡ l.fn.first.hall;
  seen : BeginsWith l.joined.seen l.fn.first.seen;
}
