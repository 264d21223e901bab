-- The next instance takes the placeholders of its parents.
use Rattle.std.proofs.Common.{◌∙◌, ◌+◌, sym, ap₂, subst, arith, length}
use mathlib.Core.Path.{subst₂}
use Rattle.left_parent.specs.declared.started.StartedNode.{StartedNode}
use Rattle.order_2d.specs.OrderPairs.{AreInserted, down_taken, right_taken}
use Rattle.left_parent.specs.Parents.{IsAbove, joined_from}
use Rattle.order_2d.specs.StartedNodes.{HasLists}
use Rattle.left_parent.proofs.LeftParentSearch.{joined_is}
use Rattle.order_2d.proofs.ListsSoFar.{has_room, lists_more, log_long, marks_are}
use Rattle.order_2d.proofs.ParentMarks.{above_is, above_node, above_there, inserted, is_above, left_there, parents_are, taken_down}
use Rattle.order_2d.proofs.ParentMarks.{taken_right}
use Rattle.order_2d.proofs.replay.start_next.Goals as goal
use Rattle.pipe_model.specs.Orders.Starts.{start_at, start_number}
use Rattle.pipe_model.specs.Orders.TwoOrders.{down_first_taken}
use Rattle.pipe_model.specs.Races.Columns.{node_columns}

pub above-above-requires-clause-started : goal.above-above-requires-clause-started
above-above-requires-clause-started g c =
    let x = start_at c.args.starts.now c.args.m in
    above_there (node_columns c.args.columns.now) c.args.starts.now c.requires.run.columns_ok c.requires.run.starts_ok
    c.args.m c.args.rows.now c.requires.rows c.requires.next x.iteration x.index (c.requires.run.starts_ok.once c.args.m c.requires.next)

pub left_index-left-requires-clause-above : goal.left_index-left-requires-clause-above
left_index-left-requires-clause-above g c =
    let columns = node_columns c.args.columns.now in
    let x = start_at c.args.starts.now c.args.m in
    let above = above_is columns c.args.starts.now c.requires.run.columns_ok c.requires.run.starts_ok
    c.args.m c.args.rows.now c.requires.rows c.requires.next x.iteration x.index (c.requires.run.starts_ok.once c.args.m c.requires.next)
    c.above-above.result c.above-above.ensures.none c.above-above.ensures.some in
    subst (IsAbove columns x.iteration x.index) (sym above) (is_above columns c.args.starts.now x.iteration x.index)

pub left_marks-requires-clause-started : goal.left_marks-requires-clause-started
left_marks-requires-clause-started g c =
    let x = start_at c.args.starts.now c.args.m in
    λ j e. left_there (node_columns c.args.columns.now) c.args.starts.now c.requires.run.columns_ok c.requires.run.starts_ok
    c.args.m c.args.rows.now c.requires.rows c.requires.next x.iteration x.index (c.requires.run.starts_ok.once c.args.m c.requires.next)
    j (sym c.left_index-left.ensures ∙ e)

pub start_with-marks-requires-clause-inserted : goal.start_with-marks-requires-clause-inserted
start_with-marks-requires-clause-inserted g c =
    let columns = node_columns c.args.columns.now in
    let starts = c.args.starts.now in
    let x = start_at starts c.args.m in
    let number = c.requires.run.starts_ok.once c.args.m c.requires.next in
    let both = parents_are columns starts c.requires.run.columns_ok c.requires.run.starts_ok
    c.args.m c.args.rows.now c.requires.rows c.requires.next x.iteration x.index number
    c.above-above.result c.above-above.ensures.none c.above-above.ensures.some c.marks_of.result c.marks_of.ensures
    c.left_index-left.result c.left_marks.result c.left_index-left.ensures c.left_marks.ensures.none c.left_marks.ensures.some in
    let long = log_long (down_first_taken (start_number starts)) starts c.args.m c.args.orders.now.down.log
    (omega (arith, c.requires.next)) c.requires.lists.down in
    subst₂ (AreInserted (length c.args.orders.now.down.log)) (sym both.0) (sym both.1)
    (inserted columns starts c.requires.run.columns_ok c.requires.run.starts_ok
    c.args.m c.args.rows.now c.requires.rows c.requires.next x.iteration x.index number (length c.args.orders.now.down.log) long)

pub start_with-marks-requires-clause-room : goal.start_with-marks-requires-clause-room
start_with-marks-requires-clause-room g c =
    has_room (node_columns c.args.columns.now) c.args.starts.now c.args.m c.args.orders.now c.requires.lists c.requires.next

pub returns-clause-node : goal.returns-clause-node
returns-clause-node g c =
    let columns = node_columns c.args.columns.now in
    let starts = c.args.starts.now in
    let x = start_at starts c.args.m in
    let number = c.requires.run.starts_ok.once c.args.m c.requires.next in
    let above = above_is columns starts c.requires.run.columns_ok c.requires.run.starts_ok
    c.args.m c.args.rows.now c.requires.rows c.requires.next x.iteration x.index number
    c.above-above.result c.above-above.ensures.none c.above-above.ensures.some in
    let both = parents_are columns starts c.requires.run.columns_ok c.requires.run.starts_ok
    c.args.m c.args.rows.now c.requires.rows c.requires.next x.iteration x.index number
    c.above-above.result c.above-above.ensures.none c.above-above.ensures.some c.marks_of.result c.marks_of.ensures
    c.left_index-left.result c.left_marks.result c.left_index-left.ensures c.left_marks.ensures.none c.left_marks.ensures.some in
    let long = log_long (down_first_taken (start_number starts)) starts c.args.m c.args.orders.now.down.log
    (omega (arith, c.requires.next)) c.requires.lists.down in
    let marks = c.start_with-marks.ensures.marks
    ∙ marks_are columns starts c.args.m (length c.args.orders.now.down.log) x.iteration x.index
    (down_taken c.marks_of.result c.left_marks.result) (right_taken c.marks_of.result c.left_marks.result) long number
    (ap₂ down_taken both.0 both.1 ∙ taken_down columns starts x.iteration x.index)
    (ap₂ right_taken both.0 both.1 ∙ taken_right columns starts x.iteration x.index) in
    let joined = c.joined_index.ensures ∙ (ap₂ joined_from c.left_index-left.ensures above
    ∙ joined_is columns x.iteration x.index (above_node columns starts x.iteration x.index) (is_above columns starts x.iteration x.index))
    in
    ap₂ (λ a b. let n : StartedNode = record { marks = a; joined = b } in n) marks joined

pub returns-clause-lists : goal.returns-clause-lists
returns-clause-lists g c =
    let columns = node_columns c.args.columns.now in
    let starts = c.args.starts.now in
    let x = start_at starts c.args.m in
    let number = c.requires.run.starts_ok.once c.args.m c.requires.next in
    let both = parents_are columns starts c.requires.run.columns_ok c.requires.run.starts_ok
    c.args.m c.args.rows.now c.requires.rows c.requires.next x.iteration x.index number
    c.above-above.result c.above-above.ensures.none c.above-above.ensures.some c.marks_of.result c.marks_of.ensures
    c.left_index-left.result c.left_marks.result c.left_index-left.ensures c.left_marks.ensures.none c.left_marks.ensures.some in
    subst (HasLists columns starts (c.args.m + 1)) (sym c.start_with-marks.ensures.lists)
    (lists_more columns starts c.args.m c.args.orders.now
    (down_taken c.marks_of.result c.left_marks.result) (right_taken c.marks_of.result c.left_marks.result)
    c.requires.lists c.requires.next
    (ap₂ down_taken both.0 both.1 ∙ taken_down columns starts x.iteration x.index)
    (ap₂ right_taken both.0 both.1 ∙ taken_right columns starts x.iteration x.index))
