-- The seat in a place.
use Rattle.std.proofs.Common.{◌≡◌, Some, Bool, true, false, refl, ap}
use Rattle.std.proofs.Math.Bool.{Bool-set}
use Rattle.atomic_table.specs.declared.badge.Badge.{Badge}
use Rattle.hall_table.specs.InstanceSeats.{is_instance_badge}
use Rattle.hall_table.specs.SeatPlaces.{seat_if, seat_of_badge}
use Rattle.hall_table.specs.declared.run_seat.RunSeat.{RunSeat}
use Rattle.hall_table.specs.declared.view.View.{View}

-- by cases on the test
seat_by : (b : Badge View) (t : Bool) (h : is_instance_badge b.views ≡ t) (e : is_instance_badge b.views ≡ true)
    → seat_if b t h ≡ Some (record { badge = b; of_instance = e })
seat_by b true h e = ap (λ q. Some (record { badge = b; of_instance = q })) (Bool-set _ _ h e)
seat_by b false h e = absurd (cc)

-- the badge of a running instance's seat has that seat
pub seat_is : (b : Badge View) (e : is_instance_badge b.views ≡ true) → seat_of_badge b ≡ Some (record { badge = b; of_instance = e })
seat_is b e = seat_by b (is_instance_badge b.views) refl e
