use Rattle.std.proofs.Common.{◌≡◌, All, length}
use Rattle.work_deques.specs.FrontsSoFar.{AreUnused, IsWhole}
use Rattle.work_deques.proofs.deques.without_fronts.Given as goal

abbrev pub invariant-loop : goal.invariant-loop
invariant-loop g l = record {
  counted : length l.ends.items ≡ l.counter;
  unused : All (AreUnused l.capacity) l.ends.items;
  none : All IsWhole l.ends.items;
}
