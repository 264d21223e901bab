use Rattle.worker_threads.proofs.drive.drive.Given as goal

abbrev pub ghosts-drive_first : goal.ghosts-drive_first
ghosts-drive_first g a = record { named = g.H.Hall.named a.first }
