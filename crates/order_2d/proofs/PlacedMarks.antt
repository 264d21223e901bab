-- The elements of all instances are in the two lists.
use Rattle.std.proofs.Common.{◌≡◌, ◌∙◌, sym, ap, subst, ℕ, ℤ, ◌+◌, ◌*◌, ◌<◌, List, length, arith, true}
use Rattle.std.specs.List.{All}
use Rattle.std.proofs.lemmas.List.{get_or_default, take_all}
use Rattle.std.proofs.lemmas.List.Elements.{All-map}
use Rattle.order_2d.specs.LogStarts.{IsOwnLog, log_starts}
use Rattle.order_2d.specs.OrderPairs.{OrderPair}
use Rattle.order_2d.specs.ReplayedOrders.{marks_of_starts}
use Rattle.order_2d.specs.StartedNodes.{CanReplay, HasLists}
use Rattle.order_2d.proofs.OwnLogs.{same_columns}
use Rattle.pipe_model.specs.declared.column.Column.{Column}
use Rattle.pipe_model.specs.declared.event.RunLog.{RunLog}
use Rattle.pipe_model.specs.declared.marks.Marks.{Marks}
use Rattle.pipe_model.specs.declared.node.Node.{Node}
use Rattle.pipe_model.specs.declared.node.NodeId.{NodeId}
use Rattle.pipe_model.specs.Orders.GrowingLists.{AreIn}
use Rattle.pipe_model.specs.Orders.OrderList.{IsLog, has, list_of_log}
use Rattle.pipe_model.specs.Orders.OrderMarks.{instance_marks}
use Rattle.pipe_model.specs.Orders.Starts.{AreStarts, start_at, start_number}
use Rattle.pipe_model.specs.Orders.TwoOrders.{down_element, down_first_log, down_first_taken, log_entries, right_element, right_first_log}
use Rattle.pipe_model.specs.Orders.TwoOrders.{right_first_taken}
use Rattle.pipe_model.specs.Races.Columns.{AreColumns, at, node_columns}
use Rattle.pipe_model.specs.Runs.ControlParts.{control_after, without_accesses}
use Rattle.run_laws.proofs.ListOrders.InsertionLists.{list_has_below}
use Rattle.run_laws.proofs.ListOrders.LongerLogs.{logs_name_earlier_elements}
use Rattle.run_laws.proofs.ListOrders.StartNumbers.{counted_down, counted_right}
use Rattle.order_2d.proofs.ListsSoFar.{length-log_entries}

module _ (columns : List (List Node)) (starts : List NodeId) (ok : AreColumns columns) (ord : AreStarts columns starts)
    (down_log : IsLog 1 (down_first_log starts)) (right_log : IsLog 1 (right_first_log columns starts)) where
  -- an element of an earlier start is in the list of all starts
  in_list : (taken : ℕ → ℕ → ℕ) → IsLog 1 (log_entries taken 0 starts) → (x : ℕ) → x < 1 + 2 * length starts
      → has x (list_of_log (log_entries taken 0 starts)) ≡ true
  in_list taken is_log x l =
      let long = length-log_entries taken 0 starts in
      (list_has_below (log_entries taken 0 starts) is_log).each x (omega (arith, l, long))

  start_is_in : (m : ℕ) (d : NodeId) → m < length starts
      → AreIn (list_of_log (down_first_log starts)) (list_of_log (right_first_log columns starts))
      (instance_marks columns starts (start_at starts m).iteration (start_at starts m).index)
  start_is_in m d l =
      let x : NodeId = start_at starts m in
      let once = ord.once m l in
      let started : start_number starts x.iteration x.index < length starts = omega (arith, once, l) in
      let down = (counted_down columns starts ok ord).below x.iteration x.index started in
      let right = (counted_right columns starts ok ord).below x.iteration x.index started in
      record {
        down = in_list (down_first_taken (start_number starts)) down_log (down_element starts x) (omega (arith, once, l, down));
        right = in_list (right_first_taken columns (start_number starts)) right_log (right_element columns starts x)
            (omega (arith, once, l, right));
      }

  pub starts_are_in : All (AreIn (list_of_log (down_first_log starts)) (list_of_log (right_first_log columns starts)))
      (marks_of_starts columns starts starts)
  starts_are_in =
      All-map (AreIn (list_of_log (down_first_log starts)) (list_of_log (right_first_log columns starts)))
      (λ (x : NodeId). instance_marks columns starts x.iteration x.index) starts
      (λ m d l. subst (λ (x : NodeId). AreIn (list_of_log (down_first_log starts)) (list_of_log (right_first_log columns starts))
      (instance_marks columns starts x.iteration x.index)) (get_or_default starts m (at 0 0) d l) (start_is_in m d l))

-- the marks of a replayed run
pub replayed_marks : (log : RunLog) → IsOwnLog log → (columns : List Column) → columns ≡ log.columns
    → (starts : List NodeId) → starts ≡ log_starts log.events
    → (numbers : List (List ℤ)) → CanReplay (node_columns columns) starts numbers
    → (marks : List Marks) → marks ≡ marks_of_starts (node_columns columns) starts starts
    → (o : OrderPair) → HasLists (node_columns columns) starts (length starts) o
    → All (AreIn (list_of_log o.down.log) (list_of_log o.right.log)) marks
replayed_marks log own columns same starts starts_same numbers run marks marks_same o lists =
    let cs : List (List Node) = node_columns columns in
    let made = same_columns log own columns same in
    let laws = logs_name_earlier_elements.control_runs own.control.limit (without_accesses log.events)
    (control_after log.events) own.control.run in
    let logs : IsLog 1 (down_first_log starts) × IsLog 1 (right_first_log cs starts) =
    subst (λ (ss : List NodeId). IsLog 1 (down_first_log ss) × IsLog 1 (right_first_log cs ss)) (sym starts_same)
    (subst (λ (c : List (List Node)). IsLog 1 (down_first_log (log_starts log.events)) × IsLog 1
    (right_first_log c (log_starts log.events))) (sym made) laws) in
    let all = take_all (length starts) starts (omega arith) in
    let down : o.down.log ≡ down_first_log starts = lists.down ∙ ap (log_entries (down_first_taken (start_number starts)) 0) all in
    let right : o.right.log ≡ right_first_log cs starts = lists.right ∙ ap (log_entries (right_first_taken cs (start_number starts)) 0) all
    in
    subst (λ (ms : List Marks). All (AreIn (list_of_log o.down.log) (list_of_log o.right.log)) ms) (sym marks_same)
    (subst (λ (d : List ℕ). All (AreIn (list_of_log d) (list_of_log o.right.log)) (marks_of_starts cs starts starts)) (sym down)
    (subst (λ (r : List ℕ). All (AreIn (list_of_log (down_first_log starts)) (list_of_log r)) (marks_of_starts cs starts starts))
    (sym right)
    (starts_are_in cs starts run.columns_ok run.starts_ok logs.0 logs.1)))
