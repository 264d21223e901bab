use Rattle.std.proofs.Common.{◌≡◌, ℕ, get_or, length}
use Rattle.dag_build.specs.ClearAccesses.{no_fronts}
use Rattle.dag_build.proofs.clear.extend.Given as goal

abbrev pub invariant-loop : goal.invariant-loop
invariant-loop l = record {
  count : length l.fronts.items ≡ l.counter;
  fronts : (c : ℕ) → get_or l.fronts.items c no_fronts ≡ get_or l.initial.fronts.items c no_fronts;
}
