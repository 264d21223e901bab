-- The seats of running instances, which are in the payloads of their tokens.
use Rattle.std.specs.Prelude.{ℕ, List, [], ◌∷◌, Option, Some, None, Bool, true, false}
use Rattle.atomic_table.specs.Seated.{TableId}
use Rattle.pipe_frame.specs.Ties.{InstanceSeat}
use Rattle.hall_table.specs.SeatViews.{HallConstants, InstanceData, SeatView, SlotValue, nothing_known}
use Rattle.hall_table.specs.WorkerSeats.{name_of}
use Rattle.hall_table.specs.declared.view.View.{View}

-- the view of a badge that is a seat
abbrev pub badge_view : List View → SeatView
badge_view [] = nothing_known
badge_view (v ∷ vs) = v.it

-- it is the seat of an instance, and holds nothing
abbrev pub is_instance_view : Option HallConstants → Option InstanceData → List (ℕ × SlotValue) → Bool
is_instance_view None run held = false
is_instance_view (Some a) None held = false
is_instance_view (Some a) (Some d) [] = true
is_instance_view (Some a) (Some d) (x ∷ xs) = false

abbrev pub is_instance_badge : List View → Bool
is_instance_badge [] = false
is_instance_badge (v ∷ []) = is_instance_view v.it.constants v.it.run v.it.held
is_instance_badge (v ∷ (w ∷ vs)) = false

-- the seat as a tie names it
abbrev pub seat_of : TableId → ℕ → Option HallConstants → Option InstanceData → Option InstanceSeat
seat_of z id constants None = None
seat_of z id constants (Some d) =
    Some (record { hall = name_of z constants; seat = id; fields = d.fields; replies = d.replies; entries = d.entries })
