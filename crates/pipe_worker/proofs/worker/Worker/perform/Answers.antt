use Rattle.std.proofs.Common.{subst}
use Rattle.pipe_frame.specs.SeatedTokens.{IsGivenToken}
use Rattle.worker_tasks.specs.Tasks.{IsTask}
use Rattle.pipe_worker.proofs.worker.Worker.perform.Goals as goal

pub run-requires-clause-given : goal.run-requires-clause-given
run-requires-clause-given g c =
    subst (IsTask (IsGivenToken g.M.Stands.ready_at g.M.Stands.tie g.Q.WorkTest.named)) c.in-Resume.is
    (g.met.Q.WorkTest.takes c.args.task c.requires.task)
