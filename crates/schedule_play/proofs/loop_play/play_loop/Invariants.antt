use Rattle.schedule_play.proofs.loop_play.play_loop.Given as goal

abbrev pub ghosts-play_coded : goal.ghosts-play_coded
ghosts-play_coded a = record { code = a.code.now; cells = a.cells.shard.cells }
