use Rattle.hall_tests.specs.Workers.{IsWorkerOf}
use Rattle.hall_table.specs.WorkerSeats.{hall_name}
use Rattle.hall_tests.proofs.worker.work.Given as goal

abbrev pub invariant-loop : goal.invariant-loop
invariant-loop g l = IsWorkerOf g.B.RunCode.code (hall_name l.fn.seat.hall) l.worker.seat l.worker.token
