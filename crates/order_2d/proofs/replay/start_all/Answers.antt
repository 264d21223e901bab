-- Start after start.
use Rattle.std.proofs.Common.{◌∙◌, ◌++◌, ◌∷◌, [], ap, slice_set}
use Rattle.left_parent.specs.declared.started.StartedNode.{StartedNode}
use Rattle.order_2d.specs.StartedNodes.{row_at}
use Rattle.order_2d.proofs.ListsSoFar.{marks_more}
use Rattle.order_2d.proofs.RowsSoFar.{none_started, one_more_started}
use Rattle.order_2d.proofs.replay.start_all.Goals as goal
use Rattle.pipe_model.specs.Orders.Starts.{start_at}
use Rattle.pipe_model.specs.Races.Columns.{node_columns}

pub loop-m-init : goal.loop-m-init
loop-m-init g c = record {
  rows = none_started c.args.columns.now c.args.starts.now c.in_ok-rows.rows.items c.in_ok-rows.ensures;
  marks = c.in_ok-marks.ensures.items;
  lists = c.requires.lists;
}

pub loop-m-preserved : goal.loop-m-preserved
loop-m-preserved g c =
    let columns = node_columns c.args.columns.now in
    let starts = c.args.starts.now in
    let x = start_at starts c.loop-m.m in
    let rows = c.loop-m.rows.items in
    let within = c.loop-m-test.true in
    record {
      rows = one_more_started columns starts c.requires.run.columns_ok c.requires.run.starts_ok c.loop-m.m rows
          c.loop-m.invariant.rows within x.iteration x.index (c.requires.run.starts_ok.once c.loop-m.m within)
          c.push_started.new.rows.items
          (c.in_ok-push_started.ensures ∙ ap (λ n. slice_set rows x.iteration (row_at rows x.iteration ++ n ∷ []))
          c.start_next-node.ensures.node);
      marks = c.in_ok-push.ensures.items ∙ marks_more columns starts c.loop-m.m c.loop-m.marks.items c.start_next-node.result.marks within
          c.loop-m.invariant.marks (ap (λ (n : StartedNode). n.marks) c.start_next-node.ensures.node);
      lists = c.start_next-node.ensures.lists;
    }
