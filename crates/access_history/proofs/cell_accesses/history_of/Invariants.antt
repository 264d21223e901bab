-- The history of the accesses so far.
use Rattle.std.proofs.Common.{◌≡◌}
use Rattle.access_history.proofs.NotedAccesses.{IsNoting}
use Rattle.access_history.proofs.cell_accesses.history_of.Given as goal

abbrev pub invariant-loop-access : goal.invariant-loop-access
invariant-loop-access g l = record {
  so_far : IsNoting (g.O.Orders.down_first l.initial.orders) (g.O.Orders.right_first l.initial.orders)
      (g.O.Orders.down_first l.orders) (g.O.Orders.right_first l.orders) l.accesses l.access-index l.history;
  unchanged : g.O.Orders.identity l.orders ≡ g.O.Orders.identity l.initial.orders;
}
