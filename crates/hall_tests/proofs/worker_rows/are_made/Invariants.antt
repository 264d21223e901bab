use Rattle.hall_tests.proofs.worker_rows.are_made.Given as goal

abbrev pub ghosts-work_at_hall : goal.ghosts-work_at_hall
ghosts-work_at_hall g a = record { code = a.prepared.now.code }
