use Rattle.std.proofs.Common.{◌≡◌, ◌<◌, ◌∙◌, [], ap, arith, below_more, length, sym}
use Rattle.std.proofs.lemmas.List.{get_or-map}
use Rattle.pipe_model.specs.declared.column.Column.{Column}
use Rattle.pipe_model.specs.Races.Columns.{nodes_at, node_columns}
use Rattle.order_tests.proofs.dag_rows.are_rising.Goals as goal

pub loop-column-preserved : goal.loop-column-preserved
loop-column-preserved c =
    let within : c.loop-column.column-index < length c.args.columns.now = omega arith in
    let nodes : nodes_at (node_columns c.args.columns.now) c.loop-column.column-index ≡ c.as_slice.result.now =
    get_or-map (λ (x : Column). x.nodes) c.args.columns.now c.loop-column.column-index c.column-item.result [] within
    ∙ (ap (λ (x : Column). x.nodes) (sym c.column-item.is) ∙ sym c.as_slice.ensures) in
    below_more _ _ c.loop-column.invariant (rw nodes c.if-not-is_rising.ensures)
