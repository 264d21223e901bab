use Rattle.hall_tests.proofs.access_rows.are_made_after.Given as goal

abbrev pub ghosts-first_accesses : goal.ghosts-first_accesses
ghosts-first_accesses g a = record { code = a.prepared.now.code }
