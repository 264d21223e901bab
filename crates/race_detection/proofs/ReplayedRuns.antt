-- What a replay gives of a run: its lists, and the marks of its instances.
use Rattle.std.proofs.Common.{◌≡◌, ◌∙◌, ◌↔◌, ◌<◌, ◌==◌, ◌&&◌, ℕ, suc, Bool, true, false, All, List, [], ◌∷◌, get_or, if◌then◌else◌, refl}
use Rattle.std.proofs.Common.{length, ap, ap₂, sym, subst, arith}
use Rattle.std.proofs.lemmas.Bool.Decides.{nat_tests}
use Rattle.std.proofs.lemmas.List.{get_or-map, length-map}
use Rattle.order_2d.specs.declared.replay.Replayed.{Replayed}
use Rattle.order_2d.specs.LogStarts.{IsOwnLog, log_columns, log_starts}
use Rattle.order_2d.specs.OrderPairs.{OrderLogs}
use Rattle.order_2d.specs.ReplayedOrders.{marks_of_starts}
use Rattle.order_2d.specs.StartedNodes.{HasStarted}
use Rattle.pipe_model.specs.declared.event.RunLog.{RunLog}
use Rattle.pipe_model.specs.declared.marks.Marks.{Marks}
use Rattle.pipe_model.specs.declared.node.Node.{Node}
use Rattle.pipe_model.specs.declared.node.NodeId.{NodeId}
use Rattle.pipe_model.specs.Orders.GrowingLists.{AreIn}
use Rattle.pipe_model.specs.Orders.OrderList.{list_of_log}
use Rattle.pipe_model.specs.Orders.OrderMarks.{instance_marks}
use Rattle.order_2d.proofs.OwnLogs.{own_starts}
use Rattle.pipe_model.specs.Orders.Starts.{AreStarts, IsStarted, start_at, start_number}
use Rattle.pipe_model.specs.Orders.TwoOrders.{down_first_log, right_first_log}
use Rattle.pipe_model.specs.Races.Columns.{IsNodeOf, at, node_columns}
use Rattle.race_detection.specs.NotedRuns.{AreListsOf, IsReplayOf}

-- the start with the number of an instance is that instance
start_by : (y : NodeId) (ys : List NodeId) (x : NodeId) (b : Bool) → ((y.iteration == x.iteration) && (y.index == x.index)) ≡ b
    → (if b then 0 else suc (start_number ys x.iteration x.index)) < suc (length ys)
    → (start_number ys x.iteration x.index < length ys → start_at ys (start_number ys x.iteration x.index) ≡ x)
    → start_at (y ∷ ys) (if b then 0 else suc (start_number ys x.iteration x.index)) ≡ x
start_by y ys x true e w later =
    let i : y.iteration ≡ x.iteration = grind (arith, nat_tests) in
    let k : y.index ≡ x.index = grind (arith, nat_tests) in
    λ j. record { iteration = i j; index = k j }
start_by y ys x false e w later = later (omega (arith, w))

start_found : (starts : List NodeId) (x : NodeId) → IsStarted starts x → start_at starts (start_number starts x.iteration x.index) ≡ x
start_found [] x started = absurd (omega (arith, started))
start_found (y ∷ ys) x started = start_by y ys x ((y.iteration == x.iteration) && (y.index == x.index)) refl started (start_found ys x)

-- the marks of the starts are in order
marks_at_start : (columns : List (List Node)) (starts nodes : List NodeId) (m : ℕ) (d : Marks) → m < length nodes
    → get_or (marks_of_starts columns starts nodes) m d ≡ instance_marks columns starts (start_at nodes m).iteration
    (start_at nodes m).index
marks_at_start columns starts nodes m d w = get_or-map (λ (x : NodeId). instance_marks columns starts x.iteration x.index) nodes m
    (at 0 0) d w

-- the elements of each instance are in the lists
placed_instance : (columns : List (List Node)) (starts : List NodeId) (marks : List Marks) (down right : List ℕ)
    → marks ≡ marks_of_starts columns starts starts → All (AreIn down right) marks → (x : NodeId) → IsStarted starts x
    → AreIn down right (instance_marks columns starts x.iteration x.index)
placed_instance columns starts marks down right same all x started =
    let m = start_number starts x.iteration x.index in
    let found : start_at starts m ≡ x = start_found starts x started in
    let d = instance_marks columns starts 0 0 in
    let count : length (marks_of_starts columns starts starts) ≡ length starts = length-map starts
    (λ (y : NodeId). instance_marks columns starts y.iteration y.index) in
    let here = subst (All (AreIn down right)) same all m d (omega (arith, started, count)) in
    subst (λ (y : NodeId). AreIn down right (instance_marks columns starts y.iteration y.index)) found
    (subst (AreIn down right) (marks_at_start columns starts starts m d started) here)

module _ {L : Type 0} (log : RunLog) (r : Replayed L) (own : IsOwnLog log) (nodes : r.nodes ≡ log_starts log.events)
    (down : r.orders.down.log ≡ down_first_log (log_starts log.events))
    (right : r.orders.right.log ≡ right_first_log (log_columns log.events) (log_starts log.events)) where
  own_lists : AreListsOf (log_columns log.events) r.nodes r.orders
  own_lists = record {
    down = down ∙ ap down_first_log (sym nodes);
    right = right ∙ ap (right_first_log (log_columns log.events)) (sym nodes);
  }

  pub are_lists : AreListsOf (node_columns log.columns) r.nodes r.orders
  are_lists = subst (λ cs. AreListsOf cs r.nodes r.orders) (sym own.columns) own_lists

  pub is_replay : r.marks.items ≡ marks_of_starts (log_columns log.events) (log_starts log.events) (log_starts log.events)
      → HasStarted (log_columns log.events) (log_starts log.events) (length (log_starts log.events)) r.rows.items
      → All (AreIn (list_of_log r.orders.down.log) (list_of_log r.orders.right.log)) r.marks.items
      → ((x : NodeId) → IsStarted r.nodes x ↔ IsNodeOf (log_columns log.events) x)
      → IsReplayOf (node_columns log.columns) r.nodes r.rows.items
  is_replay marks rows placed instances =
      let columns = log_columns log.events in
      let made : IsReplayOf columns r.nodes r.rows.items = record {
        started = λ x inside. (instances x).1 inside;
        columns_ok = (own_starts log.events own.control).columns;
        starts_ok = subst (AreStarts columns) (sym nodes) (own_starts log.events own.control).ordered;
        by_columns = subst (λ ss. HasStarted columns ss (length ss) r.rows.items) (sym nodes) rows;
        placed = λ x inside. subst (λ (o : OrderLogs). AreIn (list_of_log o.down) (list_of_log o.right)
            (instance_marks columns r.nodes x.iteration x.index))
            (ap₂ (λ d e. record { down = d; right = e }) own_lists.down own_lists.right)
            (placed_instance columns r.nodes r.marks.items _ _
            (subst (λ ss. r.marks.items ≡ marks_of_starts columns ss ss) (sym nodes) marks) placed x ((instances x).1 inside));
      } in
      subst (λ cs. IsReplayOf cs r.nodes r.rows.items) (sym own.columns) made
