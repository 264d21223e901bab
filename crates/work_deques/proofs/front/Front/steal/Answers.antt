use Rattle.work_deques.proofs.DequeSteps.{takes}
use Rattle.work_deques.proofs.front.Front.steal.Goals as goal

pub steal_as-requires-clause-takes : goal.steal_as-requires-clause-takes
steal_as-requires-clause-takes g c = takes g.Q.TaskTest.meets g.Q.TaskTest.tag _ _ c.loop.self.part
