-- The place that is taken has the seat.
use Rattle.std.proofs.Common.{◌∙◌}
use Rattle.hall_calls.proofs.worker.take_seat_of.Goals as goal

pub into_seat-requires : goal.into_seat-requires
into_seat-requires g c = record { there = (c.requires.there.0, c.take_seat.ensures.seat ∙ c.requires.there.1) }
