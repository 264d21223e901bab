use Rattle.hall_table.specs.WorkerSeats.{hall_name}
use Rattle.hall_tests.proofs.worker_rows.work_at_hall.Given as goal

abbrev pub ghosts-work_alone : goal.ghosts-work_alone
ghosts-work_alone g a = record { named = hall_name a.hall.hall }
