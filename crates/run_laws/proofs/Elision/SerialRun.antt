-- The serial elision is a finished run.
use Rattle.std.proofs.Common.{ℕ, List, length, ◌++◌, map, ◌≡◌, Some, true, [], ◌∷◌, inl, sym, ◌∙◌, inr, append_assoc, ap, append-nil, subst}
use Rattle.std.proofs.Common.{◌+◌, false, arith, Bool, ◌<◌, suc, zero, refl}
use Rattle.std.proofs.lemmas.Bool.{false≢true, cases_Bool}
use Rattle.std.proofs.lemmas.List.{map-append, length_push}
use Rattle.pipe_model.specs.Runs.Allowed.{ClosesLoop, ContinuesLoop, IsClosed}
use Rattle.pipe_model.specs.Pipelines.Behaviour.{Action, column_of, closes_loop, nodes_in, closes_at_once, accesses_in, trace_end}
use Rattle.pipe_model.specs.Pipelines.ElisionResults.{ended_column}
use Rattle.pipe_model.specs.Pipelines.Pipeline.{Pipeline, IsWellFormed, AlwaysClosesLoop}
use Rattle.pipe_model.specs.Runs.Run.{Run, EmptyRun}
use Rattle.pipe_model.specs.Runs.RunLogs.{column_of_frame}
use Rattle.pipe_model.specs.Pipelines.SerialElision.{trace_events_from, located_from, trace_events, located, unless, serial_traces_from}
use Rattle.pipe_model.specs.Pipelines.SerialElision.{serial_trace}
use Rattle.pipe_model.specs.Pipelines.SerialElision.{serial_traces, serial_accesses}
use Rattle.pipe_model.specs.Runs.State.{Frame, frame_at, fresh_frame, accesses_of, end_of_status}
use Rattle.pipe_model.specs.declared.access.Access.{Access as Cell_access}
use Rattle.pipe_model.specs.declared.access.NodeAccess.{NodeAccess}
use Rattle.pipe_model.specs.declared.event.Event.{Event}
use Rattle.pipe_model.specs.declared.event.Event.TheVariants.{Begin}
use Rattle.pipe_model.specs.declared.node.Node.{Node}
use Rattle.run_laws.proofs.Elision.SerialIterations.{HasRunOn, run_as, run_iteration}
use Rattle.run_laws.proofs.Elision.SerialSteps.{completed_state, completed_push, AllContinueLoop, then_begin, frame_at_last_cases}
use Rattle.run_laws.proofs.Iterations.LocatedActions.{accesses_of-located}
use Rattle.run_laws.proofs.Iterations.SerialTraces.{serial_trace_closes}
use Rattle.run_laws.proofs.Iterations.TraceParts.{closes_loop_cases, trace_end_is}
use Rattle.run_laws.proofs.RunStates.Completed.{AllCompleted}
use Rattle.run_laws.proofs.RunStates.Frames.{frame_at_last}
use Rattle.run_laws.specs.SerialLaws.{SerialElisionIsARun}

-- this iteration and those after it have run to their ends, and the last closes the loop
record HasRunAll (p : Pipeline) (limit : ℕ) (events : List Event) (fs : List Frame) (accesses : List NodeAccess)
    (traces : List (List Action)) : Type 0 where
  frames : List Frame
  run : Run p limit (events ++ trace_events_from (length fs) traces)
      (completed_state frames (accesses ++ located_from (length fs) traces))
  columns : map (λ f. f.nodes) frames ≡ map (λ f. f.nodes) fs ++ map column_of traces
  ended : map column_of_frame frames ≡ map column_of_frame fs ++ map ended_column traces
  over : AllCompleted frames
  shut : IsClosed frames

-- the frame of an iteration that has run to its end is its column with its end
frame_ends : (p : Pipeline) (limit : ℕ) (events : List Event) (fs : List Frame) (accesses : List NodeAccess) (actions : List Action)
    → (w : HasRunOn p limit events fs fresh_frame accesses actions) → column_of_frame w.frame ≡ ended_column actions
frame_ends p limit events fs accesses actions w =
    let end : end_of_status w.frame.status ≡ trace_end actions = ap end_of_status w.over ∙ sym (trace_end_is actions w.end w.ended) in
    λ i. record { nodes = w.nodes i; end = end i }

-- an iteration that closes the loop is the last
runs_last : (p : Pipeline) (limit : ℕ) (events : List Event) (fs : List Frame) (accesses : List NodeAccess)
    (actions : List Action)
    → AllCompleted fs → HasRunOn p limit (events ++ Begin (length fs) ∷ []) fs fresh_frame accesses actions
    → closes_loop actions ≡ true → HasRunAll p limit events fs accesses (actions ∷ [])
runs_last p limit events fs accesses actions all w shut =
    let closing : (nodes_in actions ≡ []) × (closes_at_once w.end ≡ true) =
    elim (closes_loop_cases actions w.end w.ended) [
      | inl one ↦ (one.0, sym one.1 ∙ shut)
      | inr more ↦ absurd (false≢true (sym more.1 ∙ shut))
    ] in
    record {
      frames = fs ++ w.frame ∷ [];
      run = run_as _ _ fs w.frame _ _
          (append_assoc events (Begin (length fs) ∷ []) (trace_events (length fs) actions)
          ∙ ap (λ l. events ++ Begin (length fs) ∷ l) (sym (append-nil (trace_events (length fs) actions))))
          (ap (λ l. accesses ++ l) (sym (append-nil (located (length fs) 0 actions)))) w.run;
      columns = map-append (λ (f : Frame). f.nodes) fs (w.frame ∷ [])
          ∙ ap (λ l. map (λ (f : Frame). f.nodes) fs ++ l ∷ []) w.nodes;
      ended = map-append column_of_frame fs (w.frame ∷ [])
          ∙ ap (λ c. map column_of_frame fs ++ c ∷ []) (frame_ends p limit _ fs accesses actions w);
      over = completed_push fs w.frame w.end all w.over;
      shut = record {
        iteration = length fs;
        frame = w.frame;
        is = frame_at_last fs w.frame;
        closes = subst (λ n. ClosesLoop n w.frame.nodes) (sym w.over)
            (closing.1, ap (λ (l : List Node). length l) (w.nodes ∙ ap (λ l. fresh_frame.nodes ++ l) closing.0));
      };
    }

-- an iteration that does not close the loop, and those after it
runs_more : (p : Pipeline) (limit : ℕ) (events : List Event) (fs : List Frame) (accesses : List NodeAccess)
    (actions : List Action) (traces : List (List Action))
    → (w : HasRunOn p limit (events ++ Begin (length fs) ∷ []) fs fresh_frame accesses actions)
    → HasRunAll p limit ((events ++ Begin (length fs) ∷ []) ++ trace_events (length fs) actions) (fs ++ w.frame ∷ [])
    (accesses ++ located (length fs) 0 actions) traces → HasRunAll p limit events fs accesses (actions ∷ traces)
runs_more p limit events fs accesses actions traces w h =
    let i = length fs in
    let next : length (fs ++ w.frame ∷ []) ≡ i + 1 = length_push fs w.frame in
    let es : ((events ++ Begin i ∷ []) ++ trace_events i actions)
    ++ trace_events_from (length (fs ++ w.frame ∷ [])) traces ≡ events
    ++ (Begin i ∷ (trace_events i actions ++ trace_events_from (i + 1) traces)) =
    ap (λ n. ((events ++ Begin i ∷ []) ++ trace_events i actions) ++ trace_events_from n traces) next
    ∙ append_assoc (events ++ Begin i ∷ []) (trace_events i actions) (trace_events_from (i + 1) traces)
    ∙ append_assoc events (Begin i ∷ []) (trace_events i actions ++ trace_events_from (i + 1) traces) in
    let accs : (accesses ++ located i 0 actions) ++ located_from (length (fs ++ w.frame ∷ [])) traces ≡ accesses
    ++ (located i 0 actions ++ located_from (i + 1) traces) =
    ap (λ n. (accesses ++ located i 0 actions) ++ located_from n traces) next
    ∙ append_assoc accesses (located i 0 actions) (located_from (i + 1) traces) in
    record {
      frames = h.frames;
      run = subst (λ l. Run p limit l (completed_state h.frames
          (accesses ++ (located i 0 actions ++ located_from (i + 1) traces)))) es
          (subst (λ l. Run p limit (((events ++ Begin i ∷ []) ++ trace_events i actions)
          ++ trace_events_from (length (fs ++ w.frame ∷ [])) traces) (completed_state h.frames l)) accs h.run);
      columns = h.columns ∙ ap (λ l. l ++ map column_of traces) (map-append (λ (f : Frame). f.nodes) fs (w.frame ∷ [])
          ∙ ap (λ l. map (λ (f : Frame). f.nodes) fs ++ l ∷ []) w.nodes)
          ∙ append_assoc (map (λ (f : Frame). f.nodes) fs) (column_of actions ∷ []) (map column_of traces);
      ended = h.ended ∙ ap (λ l. l ++ map ended_column traces) (map-append column_of_frame fs (w.frame ∷ [])
          ∙ ap (λ c. map column_of_frame fs ++ c ∷ []) (frame_ends p limit _ fs accesses actions w))
          ∙ append_assoc (map column_of_frame fs) (ended_column actions ∷ []) (map ended_column traces);
      over = h.over;
      shut = h.shut;
    }

-- the loop goes on after an iteration that does not close it
continues_after : (p : Pipeline) (limit : ℕ) (events : List Event) (fs : List Frame) (accesses : List NodeAccess)
    (actions : List Action)
    → (w : HasRunOn p limit events fs fresh_frame accesses actions) → closes_loop actions ≡ false
    → ContinuesLoop w.frame.status w.frame.nodes
continues_after p limit events fs accesses actions w free =
    subst (λ n. ContinuesLoop n w.frame.nodes) (sym w.over) (λ shut. elim (closes_loop_cases actions w.end w.ended) [
      | inl one ↦ absurd (false≢true (sym free ∙ one.1 ∙ shut))
      | inr more ↦ (
          let wide = more.0 in
          let same = ap (λ (l : List Node). length l) w.nodes in
          omega (arith, wide, same))
    ])

-- the accesses after one more iteration
memory-located : (before : List Cell_access) (accesses : List NodeAccess) (i : ℕ) (actions : List Action)
    → before ++ accesses_of (accesses ++ located i 0 actions) ≡ (before ++ accesses_of accesses)
    ++ accesses_in actions
memory-located before accesses i actions =
    ap (λ l. before ++ l) (map-append (λ (n : NodeAccess). n.access) accesses (located i 0 actions)
    ∙ ap (λ l. accesses_of accesses ++ l) (accesses_of-located i 0 actions))
    ∙ sym (append_assoc before (accesses_of accesses) (accesses_in actions))

-- equal tests give equal lists
unless-same : {A : Type 0} (b c : Bool) (xs : List A) → b ≡ c → unless b xs ≡ unless c xs
unless-same b c xs e = ap (λ t. unless t xs) e

-- this iteration and those after it run as in the elision
run_iterations : (p : Pipeline) (limit : ℕ) → IsWellFormed p → 0 < limit
    → (n : ℕ) (events : List Event) (fs : List Frame) (accesses : List NodeAccess)
    → Run p limit events (completed_state fs accesses) → AllCompleted fs → AllContinueLoop fs
    → length fs + n ≡ p.last_iteration
    → HasRunAll p limit events fs accesses (serial_traces_from p (suc n) (length fs)
    (p.preamble ++ accesses_of accesses))
run_iterations p limit proper room zero events fs accesses r all on e =
    let actions = serial_trace p.store (p.behaviour (length fs)) (p.preamble ++ accesses_of accesses) in
    let w = run_iteration (p.behaviour (length fs)) (events ++ Begin (length fs) ∷ []) fs fresh_frame accesses true
    (then_begin fs accesses room r all on) all refl refl (proper.legal (length fs)) (λ t. refl) (omega arith) in
    let most : p.last_iteration ≡ length fs = omega (arith, e) in
    let shut : closes_loop actions ≡ true =
    serial_trace_closes p (p.behaviour (length fs)) (p.preamble ++ accesses_of accesses)
    (subst (λ m. AlwaysClosesLoop (p.behaviour m)) most proper.closes) in
    subst (λ l. HasRunAll p limit events fs accesses (actions ∷ l))
    (sym (unless-same (closes_loop actions) true _ shut))
    (runs_last p limit events fs accesses actions all w shut)
run_iterations p limit proper room (suc n) events fs accesses r all on e =
    let before = p.preamble ++ accesses_of accesses in
    let actions = serial_trace p.store (p.behaviour (length fs)) before in
    let w = run_iteration (p.behaviour (length fs)) (events ++ Begin (length fs) ∷ []) fs fresh_frame accesses true
    (then_begin fs accesses room r all on) all refl refl (proper.legal (length fs)) (λ t. refl) (omega arith) in
    elim (cases_Bool (closes_loop actions)) [
      | inl shut ↦ subst (λ l. HasRunAll p limit events fs accesses (actions ∷ l))
          (sym (unless-same (closes_loop actions) true _ shut))
          (runs_last p limit events fs accesses actions all w shut)
      | inr free ↦ (
          let next : length (fs ++ w.frame ∷ []) ≡ length fs + 1 = length_push fs w.frame in
          let h = run_iterations p limit proper room n
          ((events ++ Begin (length fs) ∷ []) ++ trace_events (length fs) actions) (fs ++ w.frame ∷ [])
          (accesses ++ located (length fs) 0 actions) w.run (completed_push fs w.frame w.end all w.over)
          (λ j f is. elim (frame_at_last_cases fs w.frame j f is) [
            | inl same ↦ rw same (continues_after p limit _ fs accesses actions w free)
            | inr old ↦ on j f old
          ])
          (omega (arith, next, e)) in
          let traces : serial_traces_from p (suc n) (length (fs ++ w.frame ∷ []))
          (p.preamble ++ accesses_of (accesses ++ located (length fs) 0 actions))
          ≡ serial_traces_from p (suc n) (length fs + 1) (before ++ accesses_in actions) =
          ap (λ m. serial_traces_from p (suc n) m
          (p.preamble ++ accesses_of (accesses ++ located (length fs) 0 actions))) next
          ∙ ap (λ m. serial_traces_from p (suc n) (length fs + 1) m)
          (memory-located p.preamble accesses (length fs) actions) in
          subst (λ l. HasRunAll p limit events fs accesses (actions ∷ l))
          (sym (unless-same (closes_loop actions) false _ free))
          (runs_more p limit events fs accesses actions _ w
          (subst (λ l. HasRunAll p limit ((events ++ Begin (length fs) ∷ []) ++ trace_events (length fs) actions)
          (fs ++ w.frame ∷ []) (accesses ++ located (length fs) 0 actions) l) traces h)))
    ]

-- the law of the serial elision
pub serial_elision_is_a_run : SerialElisionIsARun
serial_elision_is_a_run p limit proper room =
    let none : (i : ℕ) (f : Frame) → frame_at [] i ≡ Some f → ⊥ = λ i f e. cc in
    let h = run_iterations p limit proper room p.last_iteration [] [] [] EmptyRun (λ i f e. absurd (none i f e))
    (λ i f e. absurd (none i f e)) (omega arith) in
    let n : suc p.last_iteration ≡ p.last_iteration + 1 = omega arith in
    let same : serial_traces_from p (suc p.last_iteration) 0 (p.preamble ++ []) ≡ serial_traces p =
    ap (λ m. serial_traces_from p m 0 (p.preamble ++ [])) n
    ∙ ap (λ l. serial_traces_from p (p.last_iteration + 1) 0 l) (append-nil p.preamble) in
    let r : HasRunAll p limit [] [] [] (serial_traces p) = subst (λ t. HasRunAll p limit [] [] [] t) same h in
    record {
      state = completed_state r.frames (serial_accesses p);
      run = r.run;
      finished = record { over = r.over; shut = r.shut; going = refl };
      columns = r.columns;
      ended = r.ended;
      accesses = refl;
    }
