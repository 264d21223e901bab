use Rattle.schedule_play.proofs.instance.make_access.Given as goal

abbrev pub ghosts-next_access : goal.ghosts-next_access
ghosts-next_access a = record { cells = a.cells.now }
