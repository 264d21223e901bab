-- Ends of deques before and after calls.
use Rattle.std.proofs.Common.{◌∙◌}
use Rattle.work_deques.specs.WorkerEnds.{SameDeques}
use Rattle.work_deques.specs.declared.ends.Ends.{Ends}
use Rattle.worker_tasks.specs.OwnedEnds.{OfSameWorker, owned_ends}
use Rattle.worker_tasks.specs.declared.tasks.WorkerTasks.{WorkerTasks}

pub then_same : {T Q : Type 0} (u v w : Ends T Q) → SameDeques u v → SameDeques v w → SameDeques u w
then_same u v w h k = record {
  own = k.own ∙ h.own;
  fronts = k.fronts ∙ h.fronts;
  own_parts = k.own_parts ∙ h.own_parts;
  front_parts = k.front_parts ∙ h.front_parts;
}

pub same_then : {M Q : Type 0} (u v w : WorkerTasks M Q) → OfSameWorker u v → OfSameWorker v w → OfSameWorker u w
same_then u v w h k = record {
  number = k.number ∙ h.number;
  deques = then_same (owned_ends u) (owned_ends v) (owned_ends w) h.deques k.deques;
}
