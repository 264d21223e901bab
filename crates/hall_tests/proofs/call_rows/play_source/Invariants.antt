use Rattle.hall_tests.proofs.call_rows.play_source.Given as goal

abbrev pub ghosts-play : goal.ghosts-play
ghosts-play g a = record { code = a.prepared.now.code }
