use Rattle.pipe_frame.specs.SeatedTokens.{seated_replies}
use Rattle.pipe_worker.proofs.advance.run_and_advance.Given as goal

abbrev pub ghosts-run_instance : goal.ghosts-run_instance
ghosts-run_instance g a = record {
  reference = a.lent.hall.ghost_name;
  named = g.H.Hall.named a.lent.hall.now;
  counts = g.H.Hall.tokens a.lent.hall.now;
  iteration = a.token.iteration;
  replies = seated_replies (g.M.Stands.tie a.token.payload);
}
