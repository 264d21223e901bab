-- The end of a column changes no instance.
use Rattle.std.proofs.Common.{ap, Some}
use Rattle.std.proofs.Math.Seq.{map-set_same}
use Rattle.pipe_model.specs.declared.column.Column.{Column}
use Rattle.order_tests.proofs.plays.set_end.Goals as goal

pub returns-clause-nodes : goal.returns-clause-nodes
returns-clause-nodes c
    = map-set_same (λ (x : Column). x.nodes) c.args.columns.now.items c.args.i
    (record { nodes = c.index_mut.result.now.nodes; end = Some c.args.end }) c.index_mut.result.now
    (ap (λ (x : Column). x.nodes) c.index_mut.ensures.value)
