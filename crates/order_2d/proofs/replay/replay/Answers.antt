-- The starts of the log, in its columns.
use Rattle.std.proofs.Common.{◌∙◌, sym, ap, ap₂, arith, length}
use mathlib.Core.Path.{subst₂}
use Rattle.std.proofs.lemmas.List.{take_all}
use Rattle.order_2d.specs.LogStarts.{log_starts}
use Rattle.order_2d.proofs.OwnLogs.{can_replay, replayed_orders, same_columns, starts_are_instances}
use Rattle.order_2d.proofs.PlacedMarks.{replayed_marks}
use Rattle.order_2d.proofs.replay.replay.Goals as goal
use Rattle.order_2d.specs.ReplayedOrders.{marks_of_starts}
use Rattle.order_2d.specs.StartedNodes.{HasStarted}
use Rattle.pipe_model.specs.Orders.Starts.{start_number}
use Rattle.pipe_model.specs.Orders.TwoOrders.{down_first_log, down_first_taken, log_entries, right_first_log, right_first_taken}
use Rattle.pipe_model.specs.Races.Columns.{node_columns}

pub start_all-requires-clause-run : goal.start_all-requires-clause-run
start_all-requires-clause-run g c =
    can_replay c.args.run_log.now c.requires.own c.requires.bounded c.as_slice-columns.result.now c.as_slice-columns.ensures
    c.as_slice-3.result.now (c.as_slice-3.ensures ∙ (c.in_ok-starts.ensures ∙ ap log_starts c.as_slice.ensures))
    c.as_slice-2.result.now (c.as_slice-2.ensures ∙ c.in_ok-numbers.ensures)

pub returns-clause-instances : goal.returns-clause-instances
returns-clause-instances g c =
    starts_are_instances c.args.run_log.now c.requires.own c.in_ok-starts.starts (c.in_ok-starts.ensures ∙ ap log_starts c.as_slice.ensures)

pub returns-clause-orders : goal.returns-clause-orders
returns-clause-orders g c =
    let run = can_replay c.args.run_log.now c.requires.own c.requires.bounded c.as_slice-columns.result.now c.as_slice-columns.ensures
    c.as_slice-3.result.now (c.as_slice-3.ensures ∙ (c.in_ok-starts.ensures ∙ ap log_starts c.as_slice.ensures))
    c.as_slice-2.result.now (c.as_slice-2.ensures ∙ c.in_ok-numbers.ensures) in
    replayed_orders c.args.run_log.now c.requires.own c.as_slice-columns.result.now c.as_slice-columns.ensures
    c.as_slice-3.result.now c.as_slice-2.result.now run c.in_ok-starts.starts (sym c.as_slice-3.ensures)
    c.in_ok-marks.marks.items c.in_ok-marks.ensures.marks c.start_all.new.orders c.in_ok-marks.ensures.lists

pub returns-clause-placed : goal.returns-clause-placed
returns-clause-placed g c =
    let starts_same = c.as_slice-3.ensures ∙ (c.in_ok-starts.ensures ∙ ap log_starts c.as_slice.ensures) in
    let run = can_replay c.args.run_log.now c.requires.own c.requires.bounded c.as_slice-columns.result.now c.as_slice-columns.ensures
    c.as_slice-3.result.now starts_same
    c.as_slice-2.result.now (c.as_slice-2.ensures ∙ c.in_ok-numbers.ensures) in
    replayed_marks c.args.run_log.now c.requires.own c.as_slice-columns.result.now c.as_slice-columns.ensures
    c.as_slice-3.result.now starts_same c.as_slice-2.result.now run c.in_ok-marks.marks.items c.in_ok-marks.ensures.marks
    c.start_all.new.orders c.in_ok-marks.ensures.lists

pub start_all-requires-clause-lists : goal.start_all-requires-clause-lists
start_all-requires-clause-lists g c =
    let long = ap length c.as_slice-3.ensures in
    let down = c.in_ok-orders.ensures.down.1 in
    let right = c.in_ok-orders.ensures.right.1 in
    record {
      down = c.in_ok-orders.ensures.down.0;
      right = c.in_ok-orders.ensures.right.0;
      down_room = omega (arith, down, long, c.len.ensures);
      right_room = omega (arith, right, long, c.len.ensures);
    }

pub returns-clause-nodes : goal.returns-clause-nodes
returns-clause-nodes g c = c.in_ok-starts.ensures ∙ ap log_starts c.as_slice.ensures

pub returns-clause-down : goal.returns-clause-down
returns-clause-down g c =
    let starts = c.as_slice-3.result.now in
    let all = take_all (length starts) starts (omega arith) in
    let same = c.as_slice-3.ensures ∙ (c.in_ok-starts.ensures ∙ ap log_starts c.as_slice.ensures) in
    c.in_ok-marks.ensures.lists.down
    ∙ (ap (log_entries (down_first_taken (start_number starts)) 0) all ∙ ap down_first_log same)

pub returns-clause-right : goal.returns-clause-right
returns-clause-right g c =
    let starts = c.as_slice-3.result.now in
    let all = take_all (length starts) starts (omega arith) in
    let same = c.as_slice-3.ensures ∙ (c.in_ok-starts.ensures ∙ ap log_starts c.as_slice.ensures) in
    let columns = same_columns c.args.run_log.now c.requires.own c.as_slice-columns.result.now c.as_slice-columns.ensures in
    c.in_ok-marks.ensures.lists.right
    ∙ (ap (log_entries (right_first_taken (node_columns c.as_slice-columns.result.now) (start_number starts)) 0) all
    ∙ ap₂ right_first_log columns same)

pub returns-clause-marks : goal.returns-clause-marks
returns-clause-marks g c =
    let same = c.as_slice-3.ensures ∙ (c.in_ok-starts.ensures ∙ ap log_starts c.as_slice.ensures) in
    let columns = same_columns c.args.run_log.now c.requires.own c.as_slice-columns.result.now c.as_slice-columns.ensures in
    c.in_ok-marks.ensures.marks ∙ ap₂ (λ cs ss. marks_of_starts cs ss ss) columns same

pub returns-clause-rows : goal.returns-clause-rows
returns-clause-rows g c =
    let same = c.as_slice-3.ensures ∙ (c.in_ok-starts.ensures ∙ ap log_starts c.as_slice.ensures) in
    let columns = same_columns c.args.run_log.now c.requires.own c.as_slice-columns.result.now c.as_slice-columns.ensures in
    subst₂ (λ cs ss. HasStarted cs ss (length ss) c.in_ok-marks.rows.items) columns same c.in_ok-marks.ensures.rows
