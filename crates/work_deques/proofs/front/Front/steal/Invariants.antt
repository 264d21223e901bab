use Rattle.std.proofs.Common.{◌≡◌}
use Rattle.crossbeam_deque.specs.Handles.{stealer_deque, view}
use Rattle.work_deques.proofs.front.Front.steal.Given as goal

abbrev pub invariant-loop : goal.invariant-loop
invariant-loop g l = record {
  view_is : view l.self.pass ≡ view l.fn.self.pass;
  deque : stealer_deque l.self.stealer ≡ stealer_deque l.fn.self.stealer;
}
