-- The seat that a place has, by its badge.
use Rattle.std.specs.Prelude.{◌≡◌, refl, Option, Some, None, Bool, true, false}
use Rattle.atomic_table.specs.declared.badge.Badge.{Badge}
use Rattle.hall_table.specs.InstanceSeats.{is_instance_badge}
use Rattle.hall_table.specs.declared.run_seat.RunSeat.{RunSeat}
use Rattle.hall_table.specs.declared.view.View.{View}

-- by whether the badge is the seat of an instance
abbrev pub seat_if : (b : Badge View) (t : Bool) → is_instance_badge b.views ≡ t → Option RunSeat
seat_if b true e = Some (record { badge = b; of_instance = e })
seat_if b false e = None

-- a badge that is the seat of an instance, and of no other
abbrev pub seat_of_badge : Badge View → Option RunSeat
seat_of_badge b = seat_if b (is_instance_badge b.views) refl
