use Rattle.work_deques.proofs.DequeSteps.{merges}
use Rattle.work_deques.proofs.ends.Ends.absorb.Goals as goal

pub absorb-requires-clause-rule : goal.absorb-requires-clause-rule
absorb-requires-clause-rule g c = merges g.Q.TaskTest.meets g.Q.TaskTest.tag _ _ _ _ c.args.self.now.part
