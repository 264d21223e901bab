use Rattle.work_deques.proofs.DequeSteps.{forks}
use Rattle.work_deques.proofs.front.Front.of.Goals as goal

pub another-pass-requires : goal.another-pass-requires
another-pass-requires g c = forks g.Q.TaskTest.meets g.Q.TaskTest.tag _ _ c.requires.parts
