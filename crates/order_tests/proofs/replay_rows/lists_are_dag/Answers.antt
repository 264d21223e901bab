-- The columns of a run rise.
use Rattle.std.proofs.Common.{sym, subst}
use Rattle.order_2d.proofs.OwnLogs.{own_rising}
use Rattle.dag_build.specs.NodeColumns.{AreRising}
use Rattle.order_tests.proofs.replay_rows.lists_are_dag.Goals as goal

pub of-requires : goal.of-requires
of-requires c = subst AreRising (sym c.requires.own.columns) (record { each = own_rising c.args.log.now.events c.requires.own.control })
