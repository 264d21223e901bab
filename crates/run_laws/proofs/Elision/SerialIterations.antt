-- Each iteration of the serial elision runs to its end.
use Rattle.std.proofs.Common.{ℕ, List, ◌≡◌, ◌++◌, length, ◌-◌, subst, [], ◌∷◌, append_assoc, ◌∙◌, ℤ, ◌<◌, arith, ◌+◌, ap, sym, Bool, true}
use Rattle.std.proofs.Common.{refl, false, append-nil}
use Rattle.std.proofs.lemmas.Bool.{false≢true}
use Rattle.std.proofs.lemmas.List.{length_push, map-append}
use Rattle.pipe_model.specs.Pipelines.Behaviour.{Action, nodes_in, Accessed, Staged, node_of, Behaviour, behaviour_after_all, Reading}
use Rattle.pipe_model.specs.Pipelines.Behaviour.{read_access}
use Rattle.pipe_model.specs.Pipelines.Behaviour.{Offers, behaviour_after, Writing, write_access, Staging, Ending, Ended}
use Rattle.pipe_model.specs.Races.Columns.{at}
use Rattle.pipe_model.specs.Pipelines.Pipeline.{Pipeline, HasLegalStages}
use Rattle.pipe_model.specs.Runs.Run.{Run}
use Rattle.pipe_model.specs.Pipelines.SerialElision.{trace_events, located, serial_trace}
use Rattle.pipe_model.specs.declared.status.Status.TheVariants.{Completed, Running, Pending}
use Rattle.pipe_model.specs.Runs.State.{Frame, with_action, accesses_of}
use Rattle.pipe_model.specs.Pipelines.Store.{value_after}
use Rattle.pipe_model.specs.declared.access.Access.{Access as Cell_access}
use Rattle.pipe_model.specs.declared.access.NodeAccess.{NodeAccess}
use Rattle.pipe_model.specs.declared.column.ColumnEnd.{ColumnEnd}
use Rattle.pipe_model.specs.declared.event.Event.{Event}
use Rattle.pipe_model.specs.declared.event.Event.TheVariants.{Access, Advance, Enter}
use Rattle.pipe_model.specs.declared.node.Kind.{Kind}
use Rattle.run_laws.proofs.Elision.SerialSteps.{state_with_last, then_access, then_advance, then_enter, then_finish}
use Rattle.run_laws.proofs.Iterations.PerformedActions.{behaviour_after_all-push}
use Rattle.run_laws.proofs.Iterations.TraceParts.{EndsWith}
use Rattle.run_laws.proofs.RunStates.Completed.{AllCompleted}
use Rattle.run_laws.proofs.RunStates.FrameMoves.{entered_frame, last_node, last_node-push}

-- the last iteration has run to its end, with these actions
pub record HasRunOn (p : Pipeline) (limit : ℕ) (events : List Event) (fs : List Frame) (f : Frame)
    (accesses : List NodeAccess) (actions : List Action) : Type 0 where
  pub frame : Frame
  pub end : ColumnEnd
  pub over : frame.status ≡ Completed end
  pub trace : frame.trace ≡ f.trace ++ actions
  pub nodes : frame.nodes ≡ f.nodes ++ nodes_in actions
  pub ended : EndsWith actions end
  pub run : Run p limit (events ++ trace_events (length fs) actions)
      (state_with_last fs frame (accesses ++ located (length fs) (length f.nodes - 1) actions))

-- a run with equal events and accesses
pub run_as : {p : Pipeline} {limit : ℕ} (events more : List Event) (fs : List Frame) (f : Frame)
    (accesses others : List NodeAccess)
    → events ≡ more → accesses ≡ others → Run p limit events (state_with_last fs f accesses)
    → Run p limit more (state_with_last fs f others)
run_as {p} {limit} events more fs f accesses others e a r =
    subst (λ l. Run p limit l (state_with_last fs f others)) e
    (subst (λ l. Run p limit events (state_with_last fs f l)) a r)

-- one access, and then the rest
accessed_first : (p : Pipeline) (limit : ℕ) (events : List Event) (fs : List Frame) (f : Frame)
    (accesses : List NodeAccess) (a : Cell_access) (actions : List Action)
    → HasRunOn p limit (events ++ Access (length fs) a ∷ []) fs (with_action (Accessed a) Running f)
    (accesses ++ record { node = at (length fs) (length f.nodes - 1); access = a } ∷ []) actions
    → HasRunOn p limit events fs f accesses (Accessed a ∷ actions)
accessed_first p limit events fs f accesses a actions w = record {
  frame = w.frame;
  end = w.end;
  over = w.over;
  trace = w.trace ∙ append_assoc f.trace (Accessed a ∷ []) actions;
  nodes = w.nodes;
  ended = w.ended;
  run = run_as _ _ fs w.frame _ _ (append_assoc events (Access (length fs) a ∷ []) (trace_events (length fs) actions))
      (append_assoc accesses _ (located (length fs) (length f.nodes - 1) actions)) w.run;
}

-- a next stage that is named and entered, and then the rest
staged_first : (p : Pipeline) (limit : ℕ) (events : List Event) (fs : List Frame) (f : Frame)
    (accesses : List NodeAccess) (k : Kind) (n : ℤ) (actions : List Action)
    → 0 < length f.nodes
    → HasRunOn p limit ((events ++ Advance (length fs) k n ∷ []) ++ Enter (length fs) ∷ []) fs
    (entered_frame k n (with_action (Staged k n) (Pending k n) f)) accesses actions
    → HasRunOn p limit events fs f accesses (Staged k n ∷ actions)
staged_first p limit events fs f accesses k n actions l w =
    let index : length (f.nodes ++ node_of k n ∷ []) - 1 ≡ length f.nodes - 1 + 1 = (
    let wide = length_push f.nodes (node_of k n) in
    omega (arith, wide, l)) in
    record {
      frame = w.frame;
      end = w.end;
      over = w.over;
      trace = w.trace ∙ append_assoc f.trace (Staged k n ∷ []) actions;
      nodes = w.nodes ∙ append_assoc f.nodes (node_of k n ∷ []) (nodes_in actions);
      ended = w.ended;
      run = run_as _ _ fs w.frame _ _
          (append_assoc (events ++ Advance (length fs) k n ∷ []) (Enter (length fs) ∷ [])
          (trace_events (length fs) actions) ∙ append_assoc events (Advance (length fs) k n ∷ [])
          (Enter (length fs) ∷ trace_events (length fs) actions))
          (ap (λ m. accesses ++ located (length fs) m actions) index) w.run;
    }

-- the accesses after one more access
memory-push : (before : List Cell_access) (accesses : List NodeAccess) (x : NodeAccess)
    → before ++ accesses_of (accesses ++ x ∷ []) ≡ (before ++ accesses_of accesses) ++ x.access ∷ []
memory-push before accesses x =
    ap (λ l. before ++ l) (map-append (λ (n : NodeAccess). n.access) accesses (x ∷ []))
    ∙ sym (append_assoc before (accesses_of accesses) (x.access ∷ []))

-- an iteration runs to its end, with its serial trace
pub run_iteration : {p : Pipeline} {limit : ℕ} (d : Behaviour) (events : List Event) (fs : List Frame) (f : Frame)
    (accesses : List NodeAccess) (first : Bool)
    → Run p limit events (state_with_last fs f accesses) → AllCompleted fs → f.status ≡ Running
    → behaviour_after_all (p.behaviour (length fs)) f.trace ≡ d → HasLegalStages first (last_node f.nodes).number d
    → (first ≡ true → length f.nodes ≡ 1) → 0 < length f.nodes
    → HasRunOn p limit events fs f accesses (serial_trace p.store d (p.preamble ++ accesses_of accesses))
run_iteration {p} {limit} (Reading c go) events fs f accesses first r all runs rest legal one filled =
    let v = value_after p.store (p.preamble ++ accesses_of accesses) c in
    let a = read_access c v in
    let x : NodeAccess = record { node = at (length fs) (length f.nodes - 1); access = a } in
    let o : Offers (behaviour_after_all (p.behaviour (length fs)) f.trace) (Accessed a) = rw rest (v, refl) in
    let r' = then_access fs f accesses a r runs o (λ e. refl) in
    let h = run_iteration (go v) (events ++ Access (length fs) a ∷ []) fs (with_action (Accessed a) Running f)
    (accesses ++ x ∷ []) first r' all refl
    (behaviour_after_all-push (p.behaviour (length fs)) f.trace (Accessed a)
    ∙ ap (λ e. behaviour_after e (Accessed a)) rest) (legal v) one filled in
    accessed_first p limit events fs f accesses a _
    (subst (λ m. HasRunOn p limit (events ++ Access (length fs) a ∷ []) fs (with_action (Accessed a) Running f)
    (accesses ++ x ∷ []) (serial_trace p.store (go v) m)) (memory-push p.preamble accesses x) h)
run_iteration {p} {limit} (Writing c v d) events fs f accesses first r all runs rest legal one filled =
    let a = write_access c v in
    let x : NodeAccess = record { node = at (length fs) (length f.nodes - 1); access = a } in
    let o : Offers (behaviour_after_all (p.behaviour (length fs)) f.trace) (Accessed a) = rw rest refl in
    let r' = then_access fs f accesses a r runs o (λ e. absurd (cc)) in
    let h = run_iteration d (events ++ Access (length fs) a ∷ []) fs (with_action (Accessed a) Running f)
    (accesses ++ x ∷ []) first r' all refl
    (behaviour_after_all-push (p.behaviour (length fs)) f.trace (Accessed a)
    ∙ ap (λ e. behaviour_after e (Accessed a)) rest) legal one filled in
    accessed_first p limit events fs f accesses a _
    (subst (λ m. HasRunOn p limit (events ++ Access (length fs) a ∷ []) fs (with_action (Accessed a) Running f)
    (accesses ++ x ∷ []) (serial_trace p.store d m)) (memory-push p.preamble accesses x) h)
run_iteration {p} {limit} (Staging k n d) events fs f accesses first r all runs rest legal one filled =
    let o : Offers (behaviour_after_all (p.behaviour (length fs)) f.trace) (Staged k n) = rw rest refl in
    let named = then_advance fs f accesses k n r runs o legal.0 legal.1.0 in
    let r' = then_enter fs (with_action (Staged k n) (Pending k n) f) accesses k n named all refl in
    let h = run_iteration d ((events ++ Advance (length fs) k n ∷ []) ++ Enter (length fs) ∷ []) fs
    (entered_frame k n (with_action (Staged k n) (Pending k n) f)) accesses false r' all refl
    (behaviour_after_all-push (p.behaviour (length fs)) f.trace (Staged k n)
    ∙ ap (λ e. behaviour_after e (Staged k n)) rest) (rw (last_node-push f.nodes (node_of k n)) legal.1.1)
    (λ e. absurd (false≢true e)) (
    let wide = length_push f.nodes (node_of k n) in
    omega (arith, wide)) in
    staged_first p limit events fs f accesses k n _ filled h
run_iteration {p} {limit} (Ending e) events fs f accesses first r all runs rest legal one filled =
    let o : Offers (behaviour_after_all (p.behaviour (length fs)) f.trace) (Ended e) = rw rest refl in
    record {
      frame = with_action (Ended e) (Completed e) f;
      end = e;
      over = refl;
      trace = refl;
      nodes = sym (append-nil f.nodes);
      ended = (refl, refl);
      run = run_as _ _ fs (with_action (Ended e) (Completed e) f) _ _ refl (sym (append-nil accesses))
          (then_finish fs f accesses e r runs o (λ c. one (legal c)));
    }
