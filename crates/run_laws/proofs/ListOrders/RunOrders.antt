-- The two orders of a run.
use Rattle.std.proofs.Common.{ap₂, ℕ, List, ◌≡◌, [], ◌∷◌, ◌++◌, append-nil, ◌∙◌, ap, sym, length, refl}
use Rattle.pipe_model.specs.Runs.Allowed.{ControlAllows}
use Rattle.pipe_model.specs.Pipelines.Behaviour.{Accessed, Staged, Ended}
use Rattle.pipe_model.specs.Races.Columns.{at, nodes_at}
use Rattle.pipe_model.specs.Orders.Starts.{starts_of, started_by, start_number, AreStarts}
use Rattle.pipe_model.specs.declared.status.Status.TheVariants.{Running, Pending, Completed}
use Rattle.pipe_model.specs.Runs.State.{own_columns, State, next_state}
use Rattle.pipe_model.specs.Orders.TwoOrders.{down_first_log, log_entries, down_first_taken, right_first_log, right_first_taken}
use Rattle.pipe_model.specs.declared.event.Event.{Event}
use Rattle.pipe_model.specs.declared.event.Event.TheVariants.{Begin, Enter, Access, Advance, Finish, Stop}
use Rattle.pipe_model.specs.declared.node.NodeId.{NodeId}
use Rattle.run_laws.proofs.ListOrders.BothOrders.{both_is_precedes}
use Rattle.run_laws.proofs.ListOrders.LeftParentEdges.{left_parent_means}
use Rattle.run_laws.proofs.ListOrders.LogGrowth.{down_log_grows, right_log_grows}
use Rattle.run_laws.proofs.ListOrders.StartNumbers.{counted_down, counted_right}
use Rattle.run_laws.proofs.ListOrders.SoundStarts.{HasSoundStarts, of_each_run, starts_after}
use Rattle.run_laws.proofs.ListOrders.StartsOfRuns.{are_columns, Grew, grew_begin, grew_enter}
use Rattle.run_laws.specs.OrderLaws.{StartedNodesAreOwnNodes, BothOrdersOfStarts, BothOrdersArePrecedes, PlaceholdersAreTakenOnce}
use Rattle.run_laws.specs.OrderLaws.{LeftParentsAreSources, AddsEntries, LogsGrowAtTheirEnd}
use Rattle.run_laws.proofs.RunStates.GrowingColumns.{columns-action}

-- the starts of a run are the instances of its columns
pub started_nodes_are_own_nodes : StartedNodesAreOwnNodes
started_nodes_are_own_nodes = of_each_run (λ limit events s r. let h = r.sound in record {
  columns = are_columns s.frames (starts_of events) h;
  ordered = h.ordered;
  nodes = λ x. ((λ l. h.ordered.inside x l), (λ l. h.all x.iteration x.index l.1));
})

-- both orders of any starts
pub both_orders_of_starts : BothOrdersOfStarts
both_orders_of_starts columns starts ok ord x y w v = both_is_precedes columns starts ok ord x y w v

-- both orders of a run
pub both_orders_are_precedes : BothOrdersArePrecedes
both_orders_are_precedes = of_each_run (λ limit events s r x y w v.
    let h = r.sound in
    both_is_precedes (own_columns s) (starts_of events) (are_columns s.frames (starts_of events) h) h.ordered x y
    (h.all x.iteration x.index w.1) (h.all y.iteration y.index v.1))

-- the placeholders of a run
pub placeholders_are_taken_once : PlaceholdersAreTakenOnce
placeholders_are_taken_once = of_each_run (λ limit events s r. let h = r.sound in record {
  down = λ x y w v e. (
      let q = (counted_down (own_columns s) (starts_of events) (are_columns s.frames (starts_of events) h)
      h.ordered).once x.iteration x.index y.iteration y.index w v e in
      ap₂ at q.0 q.1);
  right = λ x y w v e. (
      let q = (counted_right (own_columns s) (starts_of events) (are_columns s.frames (starts_of events) h)
      h.ordered).once x.iteration x.index y.iteration y.index w v e in
      ap₂ at q.0 q.1);
})

-- the left parents of a run
pub left_parents_are_sources : LeftParentsAreSources
left_parents_are_sources = of_each_run (λ limit events s r i j k l w.
    left_parent_means (own_columns s) (are_columns s.frames (starts_of events) r.sound) i k l w j)

-- an event that starts nothing adds nothing to the logs
adds_none : (events : List Event) (s : State) (e : Event) → starts_of (events ++ e ∷ []) ≡ starts_of events ++ []
    → started_by s e ≡ [] → own_columns (next_state s e) ≡ own_columns s → AddsEntries events s e
adds_none events s e starts none columns =
    let same : starts_of (events ++ e ∷ []) ≡ starts_of events = starts ∙ append-nil (starts_of events) in
    record {
      down = ap down_first_log same ∙ (sym (append-nil (down_first_log (starts_of events)))
          ∙ ap (λ l. down_first_log (starts_of events)
          ++ log_entries (down_first_taken (start_number (starts_of events))) (length (starts_of events)) l)
          (sym none));
      right = ap₂ right_first_log columns same
          ∙ (sym (append-nil (right_first_log (own_columns s) (starts_of events)))
          ∙ ap (λ l. right_first_log (own_columns s) (starts_of events)
          ++ log_entries (right_first_taken (own_columns (next_state s e)) (start_number (starts_of events)))
          (length (starts_of events)) l) (sym none));
    }

-- an event that starts an instance adds its entries
adds_one : (events : List Event) (s : State) (e : Event) (x : NodeId) → started_by s e ≡ x ∷ []
    → starts_of (events ++ e ∷ []) ≡ starts_of events ++ started_by s e → AreStarts (own_columns s) (starts_of events)
    → Grew s.frames (next_state s e).frames (starts_of events) x → AddsEntries events s e
adds_one events s e x one starts ordered g =
    let ok = are_columns (next_state s e).frames (starts_of events ++ x ∷ []) g.sound in
    let same : starts_of (events ++ e ∷ []) ≡ starts_of events ++ x ∷ [] =
    starts ∙ ap (λ l. starts_of events ++ l) one in
    record {
      down = ap down_first_log same ∙ (down_log_grows (own_columns s) (own_columns (next_state s e))
          (starts_of events) x ok ordered g.by g.lefts
          ∙ ap (λ l. down_first_log (starts_of events)
          ++ log_entries (down_first_taken (start_number (starts_of events))) (length (starts_of events)) l)
          (sym one));
      right = ap (right_first_log (own_columns (next_state s e))) same
          ∙ (right_log_grows (own_columns s) (own_columns (next_state s e)) (starts_of events) x ok ordered g.by
          g.lefts
          ∙ ap (λ l. right_first_log (own_columns s) (starts_of events)
          ++ log_entries (right_first_taken (own_columns (next_state s e)) (start_number (starts_of events)))
          (length (starts_of events)) l) (sym one));
    }

-- what an event of the control part adds
added_by : (limit : ℕ) (events : List Event) (s : State) → HasSoundStarts events s → (e : Event) → ControlAllows limit s e
    → AddsEntries events s e
added_by limit events s r (Begin i) h =
    adds_one events s (Begin i) (at i 0) refl (starts_after events s r.state (Begin i)) r.sound.ordered
    (grew_begin limit s i (starts_of events) h r.sound)
added_by limit events s r (Enter i) h =
    adds_one events s (Enter i) (at i (length (nodes_at (own_columns s) i))) refl (starts_after events s r.state (Enter i))
    r.sound.ordered (grew_enter s i (starts_of events) h r.sound)
added_by limit events s r (Access i a) h =
    adds_none events s (Access i a) (starts_after events s r.state (Access i a)) refl
    (columns-action s.frames i (Accessed a) Running)
added_by limit events s r (Advance i k n) h =
    adds_none events s (Advance i k n) (starts_after events s r.state (Advance i k n)) refl
    (columns-action s.frames i (Staged k n) (Pending k n))
added_by limit events s r (Finish i e) h =
    adds_none events s (Finish i e) (starts_after events s r.state (Finish i e)) refl
    (columns-action s.frames i (Ended e) (Completed e))
added_by limit events s r Stop h = adds_none events s Stop (starts_after events s r.state Stop) refl refl

-- the logs of a run
pub logs_grow_at_their_end : LogsGrowAtTheirEnd
logs_grow_at_their_end = of_each_run added_by
