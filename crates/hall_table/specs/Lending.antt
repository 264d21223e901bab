-- What a payload lends to the hall.
use Rattle.std.specs.Prelude.{Option, Some, None}
use Rattle.std.specs.Borrow.{Lends, MutBor, Fml}
use denote.RattleType.{RattleType}
use Rattle.pipe_frame.specs.Ties.{Tie, SeenLists, InstanceSeat}
use Rattle.hall_table.specs.InstanceSeats.{badge_view, seat_of}
use Rattle.hall_table.specs.declared.run_seat.RunSeat.{RunSeat}
use Rattle.order_2d.specs.contracts.two_passes.TwoPasses as passes

abbrev pub LendsPasses : (R : RattleType) → (R.Denot → SeenLists → R.Denot) → MutBor R.Denot → MutBor SeenLists → Fml
LendsPasses R with s r = Lends R passes.the_row s r (with s.now)

-- the seat of an instance, as its tie names it
abbrev pub seat_in : Option RunSeat → Option InstanceSeat
seat_in None = None
seat_in (Some r) = seat_of r.badge.table_id r.badge.id (badge_view r.badge.views).constants (badge_view r.badge.views).run

abbrev pub tie_of : SeenLists → Option RunSeat → Tie
tie_of lists seat = record { lists = Some lists; seat = seat_in seat }
