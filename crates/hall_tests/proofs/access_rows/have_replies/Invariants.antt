use Rattle.std.proofs.Common.{◌≡◌}
use Rattle.hall_tests.specs.GivenTokens.{IsOutWith, token_tie}
use Rattle.pipe_frame.specs.TokenFields.{fields_of}
use Rattle.hall_table.specs.WorkerSeats.{hall_name}
use Rattle.hall_tests.proofs.access_rows.have_replies.Given as goal

abbrev pub invariant-loop-one : goal.invariant-loop-one
invariant-loop-one g l = record {
  hall : hall_name l.seat.hall ≡ hall_name l.fn.seat.hall;
  out : IsOutWith (hall_name l.seat.hall) (fields_of l.token) (token_tie l.token) l.trace;
}
