use Rattle.serial_elision.proofs.instance.run_instance.Given as goal

abbrev pub ghosts-run_from : goal.ghosts-run_from
ghosts-run_from a = record { log = a.log; node = a.node }
