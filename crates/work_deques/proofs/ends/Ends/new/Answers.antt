use Rattle.work_deques.proofs.DequeSteps.{begins}
use Rattle.work_deques.proofs.ends.Ends.new.Goals as goal

pub lifo_as-requires : goal.lifo_as-requires
lifo_as-requires g c = begins g.Q.TaskTest.meets g.Q.TaskTest.tag
