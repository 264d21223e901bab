use Rattle.std.proofs.Common.{◌≡◌, ap, refl}
use Rattle.work_deques.proofs.DequeSteps.{takes, pops}
use Rattle.work_deques.proofs.EndCalls.{either_option, taken_meets}
use Rattle.work_deques.specs.WorkerEnds.{own_tally}
use Rattle.work_deques.specs.declared.tally.Tally.{Tally}
use Rattle.crossbeam_deque.specs.Handles.{worker_view}
use Rattle.work_deques.proofs.ends.Ends.pop.Goals as goal

pub pop_as-requires-clause-fifo : goal.pop_as-requires-clause-fifo
pop_as-requires-clause-fifo g c = λ _. takes g.Q.TaskTest.meets g.Q.TaskTest.tag _ _ c.args.self.now.part

pub pop_as-requires-clause-lifo : goal.pop_as-requires-clause-lifo
pop_as-requires-clause-lifo g c = λ _. pops g.Q.TaskTest.meets g.Q.TaskTest.tag _ _ c.args.self.now.part

pub returns-clause-test : goal.returns-clause-test
returns-clause-test g c = taken_meets g.Q.TaskTest.meets c.pop_as.result _ _ c.pop_as.ensures.rule

pub returns-clause-deques : goal.returns-clause-deques
returns-clause-deques g c = record {
  own = c.pop_as.ensures.same.0.0;
  fronts = refl;
  own_parts = either_option c.pop_as.result _ _ c.pop_as.ensures.rule
      ((worker_view c.pop_as.new.self).parts ≡ (own_tally c.args.self.now).parts)
      (λ h. ap (λ (v : Tally). v.parts) h.0) (λ _ h. ap (λ (v : Tally). v.parts) h.1);
  front_parts = refl;
}
