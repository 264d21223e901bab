-- What a run log says of its columns and starts.
use Rattle.std.proofs.Common.{◌≡◌, ◌∙◌, sym, ap, subst, ℕ, ℤ, ◌-◌, ◌<◌, ◌≤◌, ◌^◌, ◌↔◌, List, length, arith, inl, inr}
use Rattle.std.proofs.lemmas.Bool.{cases_lt}
use Rattle.std.proofs.lemmas.List.{take_all}
use Rattle.order_2d.specs.declared.starts.TheConstants.{MOST_STARTS}
use Rattle.order_2d.specs.LogStarts.{IsControlLog, IsOwnLog, log_columns, log_starts}
use Rattle.order_2d.specs.OrderPairs.{OrderPair}
use Rattle.order_2d.specs.ReplayedOrders.{OrdersArePrecedes, marks_of_starts}
use Rattle.left_parent.specs.Parents.{numbers_of}
use Rattle.order_2d.specs.StartedNodes.{CanReplay, HasLists}
use Rattle.order_2d.proofs.ListsSoFar.{orders_are_precedes}
use Rattle.order_2d.proofs.RowsSoFar.{column_short}
use Rattle.pipe_model.specs.declared.column.Column.{Column}
use Rattle.pipe_model.specs.declared.event.Event.{Event}
use Rattle.pipe_model.specs.declared.event.RunLog.{RunLog}
use Rattle.pipe_model.specs.declared.marks.Marks.{Marks}
use Rattle.pipe_model.specs.declared.node.Node.{Node}
use Rattle.pipe_model.specs.declared.node.NodeId.{NodeId}
use Rattle.pipe_model.specs.Orders.Starts.{IsStarted, start_number}
use Rattle.pipe_model.specs.Orders.TwoOrders.{down_first_taken, log_entries, right_first_taken}
use Rattle.pipe_model.specs.Races.Columns.{IsNodeOf, IsRising, nodes_at, node_columns}
use Rattle.pipe_model.specs.Runs.ControlParts.{control_after, without_accesses}
use Rattle.pipe_model.specs.Runs.State.{Frame}
use Rattle.run_laws.proofs.ListOrders.RunOrders.{started_nodes_are_own_nodes}
use Rattle.run_laws.proofs.ListOrders.SoundStarts.{control_starts_sound}
use Rattle.run_laws.proofs.RunStates.Frames.{frame_at_exists, nodes_at_frame, nodes_at_past}
use Rattle.run_laws.specs.OrderLaws.{HasStarts}

-- its starts are the instances of its columns
pub own_starts : (events : List Event) → IsControlLog events → HasStarts (without_accesses events) (control_after events)
own_starts events h = started_nodes_are_own_nodes.control_runs h.limit (without_accesses events) (control_after events) h.run

no_nodes_rise : (nodes : List Node) → length nodes ≡ 0 → IsRising nodes
no_nodes_rise nodes none = record { rises = λ j k l w. absurd (omega (arith, none, w)) }

-- the stage numbers of each column rise
pub own_rising : (events : List Event) → IsControlLog events → (i : ℕ) → IsRising (nodes_at (log_columns events) i)
own_rising events h i =
    let frames : List Frame = (control_after events).frames in
    elim (cases_lt i (length frames)) [
      | inl inside ↦ (
          let f = frame_at_exists frames i inside in
          subst IsRising (sym (nodes_at_frame frames i f.0 f.1)) ((control_starts_sound h.run).sound.well i f.0 f.1).rising)
      | inr past ↦ no_nodes_rise (nodes_at (log_columns events) i) (ap length (nodes_at_past frames i (omega (arith, past))))
    ]

-- no column is longer than a bound on the starts
own_short : (events : List Event) → IsControlLog events → length (log_starts events) ≤ MOST_STARTS → (i : ℕ)
    → length (nodes_at (log_columns events) i) < 2 ^ 32
own_short events h bounded i =
    let own = own_starts events h in
    elim (cases_lt 0 (length (nodes_at (log_columns events) i))) [
      | inl some ↦ (
          let started = (control_starts_sound h.run).all i (length (nodes_at (log_columns events) i) - 1) (omega (arith, some)) in
          let short = column_short (log_columns events) (log_starts events) own.columns own.ordered i
          (length (nodes_at (log_columns events) i) - 1) started in
          omega (arith, short, bounded))
      | inr none ↦ omega (arith, none)
    ]

pub same_columns : (log : RunLog) → IsOwnLog log → (columns : List Column) → columns ≡ log.columns
    → node_columns columns ≡ log_columns log.events
same_columns log own columns same = ap node_columns same ∙ own.columns

-- it can be replayed
pub can_replay : (log : RunLog) → IsOwnLog log → length (log_starts log.events) ≤ MOST_STARTS
    → (columns : List Column) → columns ≡ log.columns → (starts : List NodeId) → starts ≡ log_starts log.events
    → (numbers : List (List ℤ)) → numbers ≡ numbers_of (node_columns columns)
    → CanReplay (node_columns columns) starts numbers
can_replay log own bounded columns same starts starts_same numbers numbers_same =
    let made = same_columns log own columns same in
    let of = own_starts log.events own.control in
    subst (λ cs. CanReplay cs starts numbers) (sym made)
    (subst (λ ss. CanReplay (log_columns log.events) ss numbers) (sym starts_same) (record {
      columns_ok = of.columns;
      starts_ok = of.ordered;
      numbers_ok = numbers_same ∙ ap numbers_of made;
      rising = own_rising log.events own.control;
      bounded = own_short log.events own.control bounded;
    }))

-- the starts are its instances
pub starts_are_instances : (log : RunLog) → IsOwnLog log → (starts : List NodeId) → starts ≡ log_starts log.events
    → (x : NodeId) → IsStarted starts x ↔ IsNodeOf (log_columns log.events) x
starts_are_instances log own starts same x =
    subst (λ ss. IsStarted ss x ↔ IsNodeOf (log_columns log.events) x) (sym same) ((own_starts log.events own.control).nodes x)

-- the lists of all starts order its instances as its dag does
pub replayed_orders : (log : RunLog) → IsOwnLog log → (columns : List Column) → columns ≡ log.columns
    → (starts : List NodeId) (numbers : List (List ℤ)) → CanReplay (node_columns columns) starts numbers
    → (nodes : List NodeId) → nodes ≡ starts → (marks : List Marks) → marks ≡ marks_of_starts (node_columns columns) starts starts
    → (o : OrderPair) → HasLists (node_columns columns) starts (length starts) o
    → OrdersArePrecedes (log_columns log.events) nodes marks o
replayed_orders log own columns same starts numbers run nodes nodes_same marks marks_same o lists =
    let all = take_all (length starts) starts (omega arith) in
    subst (λ cs. OrdersArePrecedes cs nodes marks o) (same_columns log own columns same)
    (orders_are_precedes (node_columns columns) starts run.columns_ok run.starts_ok nodes nodes_same marks marks_same o
    (lists.down ∙ ap (log_entries (down_first_taken (start_number starts)) 0) all)
    (lists.right ∙ ap (log_entries (right_first_taken (node_columns columns) (start_number starts)) 0) all))
