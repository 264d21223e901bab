use Rattle.pipe_engine.proofs.run.run.Given as goal

abbrev pub ghosts-run_coded : goal.ghosts-run_coded
ghosts-run_coded g a = record { code = a.prepared.now.code.now }
