-- One column is longer.
use Rattle.std.proofs.Common.{◌∙◌, ◌++◌, ◌∷◌, [], sym, ap, set}
use Rattle.std.proofs.lemmas.List.{map-set}
use Rattle.pipe_model.specs.declared.column.Column.{Column}
use Rattle.order_tests.proofs.PlayedEvents.{column_nodes}
use Rattle.order_tests.proofs.plays.push_node.Goals as goal
use Rattle.pipe_model.specs.Races.Columns.{node_columns}

pub returns-clause-nodes : goal.returns-clause-nodes
returns-clause-nodes c =
    let columns = c.args.columns.now.items in
    map-set (λ (x : Column). x.nodes) columns c.args.i (record { nodes = c.push.new.self; end = c.index_mut-column.result.now.end })
    ∙ ap (λ x. set (node_columns columns) c.args.i x) (c.in_ok-push.ensures.ok
    ∙ ap (λ x. x ++ c.args.node ∷ []) (sym (column_nodes columns c.args.i c.index_mut-column.result.now c.requires
    c.index_mut-column.ensures.value)))
