-- Workers of a hall, and the tokens that they hold.
use Rattle.std.specs.Prelude.{◌≡◌, Option}
use Rattle.std.specs.Prelude.{IfSome}
use Rattle.hall_tests.specs.GivenTokens.{IsGivenIn}
use Rattle.program_hall.specs.declared.carried.Carried.{Carried}
use Rattle.pipe_frame.specs.Ties.{HallName}
use Rattle.pipe_frame.specs.declared.token.FrameToken.{FrameToken}
use Rattle.hall_table.specs.WorkerSeats.{WorkerSeat, hall_name}
use Rattle.stage_code.specs.FlatCode.{FlatCode}

-- the seat is one of the hall with this name, and a token beside it is one of that hall
pub record IsWorkerOf {B : Type 0} (code : FlatCode) (h : HallName) (seat : WorkerSeat) (token : Option (FrameToken (Carried B))) : Type 0
  where
    pub hall_is : hall_name seat.hall ≡ h
    pub given : IfSome token (IsGivenIn code h)
