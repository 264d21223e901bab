use Rattle.hall_tests.specs.Workers.{IsWorkerOf}
use Rattle.hall_table.specs.WorkerSeats.{hall_name}
use Rattle.hall_tests.proofs.call_rows.play_rows.Given as goal

abbrev pub invariant-loop-index : goal.invariant-loop-index
invariant-loop-index g l =
    let h = hall_name l.fn.first.seat.hall in
    IsWorkerOf g.B.RunCode.code h l.first.seat l.first.token × IsWorkerOf g.B.RunCode.code h l.second.seat l.second.token
