use Rattle.hall_tests.proofs.run_rows.runs_right.Given as goal

abbrev pub ghosts-is_right : goal.ghosts-is_right
ghosts-is_right g a = record { code = a.prepared.now.code }
