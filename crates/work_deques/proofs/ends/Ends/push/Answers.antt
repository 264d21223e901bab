use Rattle.std.proofs.Common.{◌≡◌, ap, refl}
use Rattle.work_deques.proofs.DequeSteps.{pushes}
use Rattle.work_deques.proofs.EndCalls.{either_result}
use Rattle.work_deques.specs.WorkerEnds.{own_tally}
use Rattle.work_deques.specs.declared.tally.Tally.{Tally}
use Rattle.crossbeam_deque.specs.Handles.{worker_view}
use Rattle.work_deques.proofs.ends.Ends.push.Goals as goal

pub push_as-requires-clause-pushes : goal.push_as-requires-clause-pushes
push_as-requires-clause-pushes g c = pushes g.Q.TaskTest.meets g.Q.TaskTest.tag _ _ c.args.task c.args.self.now.part c.requires.test

pub returns-clause-deques : goal.returns-clause-deques
returns-clause-deques g c = record {
  own = c.push_as.ensures.same.0;
  fronts = refl;
  own_parts = either_result c.push_as.result _ _ c.push_as.ensures.rule
      ((worker_view c.push_as.new.self).parts ≡ (own_tally c.args.self.now).parts)
      (λ _ h. ap (λ (v : Tally). v.parts) h.0) (λ _ h. ap (λ (v : Tally). v.parts) h.1);
  front_parts = refl;
}
