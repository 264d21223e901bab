use Rattle.hall_table.proofs.SeatPlaces.{seat_is}
use Rattle.hall_table.proofs.seat_place.SeatPlace.put.Goals as goal

pub returns : goal.returns
returns c = seat_is c.args.run.badge c.args.run.of_instance
