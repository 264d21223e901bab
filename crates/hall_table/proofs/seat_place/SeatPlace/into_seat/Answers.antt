-- The badge of the place is the seat.
use Rattle.std.proofs.Common.{sym, ◌∙◌}
use Rattle.hall_table.proofs.SeatPlaces.{seat_is}
use Rattle.hall_table.proofs.seat_place.SeatPlace.into_seat.Goals as goal

pub returns : goal.returns
returns c = sym c.self.view_is ∙ seat_is c.self.inside.badge _
