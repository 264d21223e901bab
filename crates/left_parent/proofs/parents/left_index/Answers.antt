-- The left column is that before the instance's own.
use Rattle.std.proofs.Common.{◌∙◌, ◌-◌, ap, arith, length, slice_index_or}
use Rattle.std.proofs.lemmas.List.{length-map}
use Rattle.left_parent.specs.Parents.{parent_by}
use Rattle.left_parent.proofs.LeftParentSearch.{left_parent_is, nodes_read, numbers_at}
use Rattle.left_parent.proofs.parents.left_index.Goals as goal
use Rattle.pipe_model.specs.declared.node.Node.{Node}
use Rattle.pipe_model.specs.Orders.LeftParent.{last_up_to}
use Rattle.pipe_model.specs.Races.Columns.{no_node, nodes_at, node_columns}

pub parent_below-requires-clause-rising : goal.parent_below-requires-clause-rising
parent_below-requires-clause-rising c =
    let inside = c.requires.node.0 in (
      nodes_at (node_columns c.args.columns.now) (c.args.x.iteration - 1),
      c.as_slice-left.ensures ∙ numbers_at (node_columns c.args.columns.now) c.args.numbers.now c.requires.numbers
          (c.args.x.iteration - 1)
          c.index-numbers-x.result c.index-numbers-x.is (omega (arith, inside)),
      c.requires.rising (c.args.x.iteration - 1),
    )

pub parent_below-requires-clause-bounded : goal.parent_below-requires-clause-bounded
parent_below-requires-clause-bounded c =
    let inside = c.requires.node.0 in
    let numbers = c.as_slice-left.ensures ∙ numbers_at (node_columns c.args.columns.now) c.args.numbers.now c.requires.numbers
    (c.args.x.iteration - 1)
    c.index-numbers-x.result c.index-numbers-x.is (omega (arith, inside)) in
    let long = ap length numbers ∙ length-map (nodes_at (node_columns c.args.columns.now) (c.args.x.iteration - 1))
    (λ (n : Node). n.number) in
    let bounded = c.requires.bounded (c.args.x.iteration - 1) in
    omega (arith, long, bounded)

pub returns-in-Some : goal.returns-in-Some
returns-in-Some c =
    let inside = c.requires.node.0 in
    let columns = node_columns c.args.columns.now in
    let left = nodes_at columns (c.args.x.iteration - 1) in
    let numbers = c.as_slice-left.ensures ∙ numbers_at columns c.args.numbers.now c.requires.numbers (c.args.x.iteration - 1)
    c.index-numbers-x.result c.index-numbers-x.is (omega (arith, inside)) in
    let wide = length-map c.args.columns.now (λ d. d.nodes) in
    let nodes = c.as_slice.ensures ∙ nodes_read c.args.columns.now c.args.x.iteration c.index-columns-x.result
    (omega (arith, inside, wide)) in
    c.parent_below.ensures left numbers
    ∙ (ap (λ ns. parent_by (slice_index_or ns c.args.x.index no_node).kind c.in-Some.above.joined
    (last_up_to left (slice_index_or ns c.args.x.index no_node).number)) nodes
    ∙ left_parent_is columns c.args.x.iteration c.args.x.index c.args.above c.in-Some.above c.if-x-eq0.false c.requires.above c.in-Some.is)
