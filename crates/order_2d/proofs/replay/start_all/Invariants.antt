-- The first m instances have started.
use Rattle.std.proofs.Common.{◌≡◌, take}
use Rattle.order_2d.specs.ReplayedOrders.{marks_of_starts}
use Rattle.order_2d.specs.StartedNodes.{HasLists, HasStarted}
use Rattle.order_2d.proofs.replay.start_all.Given as goal
use Rattle.pipe_model.specs.Races.Columns.{node_columns}

abbrev pub invariant-loop-m : goal.invariant-loop-m
invariant-loop-m g l = record {
  rows : HasStarted (node_columns l.columns) l.starts l.m l.rows.items;
  marks : l.marks.items ≡ marks_of_starts (node_columns l.columns) l.starts (take l.m l.starts);
  lists : HasLists (node_columns l.columns) l.starts l.m l.orders;
}
