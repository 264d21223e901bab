-- If a run is a beginning of the serial elision, its columns extend to the elision's, and its accesses are some of
-- the elision's.
use Rattle.std.proofs.Common.{ℕ, List, Some, ◌≡◌, ◌++◌, ◌+◌, arith, take, subst, sym, [], ap, pos, ◌∙◌, ◌∷◌, true, ℤ, length, ◌<◌, ◌≤◌}
use Rattle.std.proofs.Common.{◌<ℤ◌, ◌-◌, append-nil, inl, inr, refl}
use Rattle.std.proofs.lemmas.Bool.{cases_eq, cases_lt}
use Rattle.std.proofs.lemmas.Int.{ints}
use Rattle.std.proofs.lemmas.List.{get_or_append_left, length-append}
use Rattle.pipe_model.specs.Runs.Allowed.{HasPassed}
use Rattle.pipe_model.specs.Pipelines.Behaviour.{Action, nodes_in, column_of, node_of}
use Rattle.pipe_model.specs.Races.Columns.{nodes_at, IsRising, node_at, no_node}
use Rattle.pipe_model.specs.Pipelines.Pipeline.{Pipeline, IsWellFormed}
use Rattle.pipe_model.specs.Races.DeterminacyRaces.{Among, IsRaceFree}
use Rattle.pipe_model.specs.Pipelines.SerialElision.{serial_traces, serial_columns, located, serial_accesses}
use Rattle.pipe_model.specs.declared.status.Status.{Status}
use Rattle.pipe_model.specs.declared.status.Status.TheVariants.{Completed, Running, Pending}
use Rattle.pipe_model.specs.Runs.State.{Frame, frame_at, is_completed, State, own_columns}
use Rattle.pipe_model.specs.declared.access.NodeAccess.{NodeAccess}
use Rattle.pipe_model.specs.declared.column.ColumnEnd.{ColumnEnd}
use Rattle.pipe_model.specs.declared.node.Kind.TheVariants.{Zero}
use Rattle.pipe_model.specs.declared.node.Node.{Node}
use Rattle.run_laws.proofs.Iterations.ElisionTraces.{trace_is_serial, memory_of, nodes_at_trace}
use Rattle.run_laws.proofs.Iterations.LocatedActions.{among_located_from, located-append}
use Rattle.run_laws.proofs.Iterations.SerialTraces.{serial_trace_ends, serial_trace_rises}
use Rattle.run_laws.proofs.Iterations.TraceParts.{EndsWith, nothing_after_end, nodes_in-append, trace_at}
use Rattle.run_laws.proofs.RunStates.FrameMoves.{rising_one, node_at_new}
use Rattle.run_laws.proofs.RunStates.FrameTraces.{IsTraced, EndsBy, pending_node, AllTraced, completed_is}
use Rattle.run_laws.proofs.RunStates.Frames.{frame_at_exists, nodes_at_frame, nodes_at_past, frame_at_within}
use Rattle.run_laws.proofs.RunStates.GrowingColumns.{left_column_begun}
use Rattle.run_laws.proofs.RunStates.LaterEdges.{ExtendsColumns, no_race_before}
use Rattle.pipe_model.proofs.Members.{among_left}
use Rattle.run_laws.proofs.RunStates.RunAccesses.{HasLocatedAccesses}
use Rattle.run_laws.proofs.RunStates.RunInvariant.{IsConsistent}
use Rattle.run_laws.proofs.RunStates.RunningInstances.{frame_of_node, awaited_is_passed}

-- the frame has made the first part of a trace of the elision
pub record IsBeginning (p : Pipeline) (i : ℕ) (f : Frame) : Type 0 where
  pub trace : List Action
  pub is : trace_at (serial_traces p) i ≡ Some trace
  pub rest : List Action
  pub begins : trace ≡ f.trace ++ rest

-- each frame has made the first part of a trace of the elision
abbrev pub AreBeginnings : Pipeline → List Frame → Type 0
AreBeginnings p fs = (i : ℕ) (f : Frame) → frame_at fs i ≡ Some f → IsBeginning p i f

-- the trace of the elision ends
beginning_ends : (p : Pipeline) (i : ℕ) (f : Frame) → (b : IsBeginning p i f) → (d : ColumnEnd) × EndsWith b.trace d
beginning_ends p i f b =
    let e = trace_is_serial p (p.last_iteration + 1) 0 p.preamble i b.trace b.is in
    let z : 0 + i ≡ i = omega arith in
    let h = serial_trace_ends p (p.behaviour (0 + i)) (memory_of p.preamble (take i (serial_traces p))) in
    (h.0, subst (λ (t : List Action). EndsWith t h.0) (sym e) h.1)

-- an iteration that has ended has made the whole trace
pub completed_has_no_rest : (p : Pipeline) (i : ℕ) (f : Frame) (e : ColumnEnd) → IsTraced p i f
    → f.status ≡ Completed e → (b : IsBeginning p i f) → b.rest ≡ []
completed_has_no_rest p i f e t over b =
    let d = beginning_ends p i f b in
    nothing_after_end f.trace b.rest e d.0 (subst (λ w. EndsBy w f.trace) over t.ending)
    (subst (λ (l : List Action). EndsWith l d.0) b.begins d.1)

-- the column of the trace goes on from the frame's
beginning_column : (p : Pipeline) (i : ℕ) (f : Frame) → IsTraced p i f → (b : IsBeginning p i f)
    → nodes_at (serial_columns p) i ≡ (f.nodes ++ pending_node f.status) ++ nodes_in b.rest
beginning_column p i f t b =
    nodes_at_trace (serial_traces p) i b.trace b.is ∙ ap column_of b.begins
    ∙ ap (λ l. node_of Zero (pos 0) ∷ l) (nodes_in-append f.trace b.rest) ∙ ap (λ l. l ++ nodes_in b.rest) t.nodes

-- the column of the trace of the elision rises
beginning_rises : (p : Pipeline) (i : ℕ) (f : Frame) → IsWellFormed p → (b : IsBeginning p i f)
    → IsRising (nodes_at (serial_columns p) i)
beginning_rises p i f proper b =
    let e = trace_is_serial p (p.last_iteration + 1) 0 p.preamble i b.trace b.is in
    let h = serial_trace_rises p (p.behaviour (0 + i)) (memory_of p.preamble (take i (serial_traces p))) true
    (node_of Zero (pos 0) ∷ []) (rising_one (node_of Zero (pos 0))) (proper.legal (0 + i)) in
    rw (nodes_at_trace (serial_traces p) i b.trace b.is)
    (subst (λ (t : List Action). IsRising (column_of t)) (sym e) h)

-- the numbers after the instances of the frame are greater than all that it has passed
beyond_passed : (f : Frame) (w : Status) (more : List Node) (n : ℤ) (j : ℕ) → f.status ≡ w → 0 < length f.nodes
    → (is_completed w ≡ true → more ≡ []) → IsRising ((f.nodes ++ pending_node w) ++ more) → length f.nodes ≤ j
    → j < length ((f.nodes ++ pending_node w) ++ more) → HasPassed w f.nodes n
    → n <ℤ (node_at ((f.nodes ++ pending_node w) ++ more) j).number
beyond_passed f Running more n j now filled none r past inside passed =
    let k = length f.nodes - 1 in
    let e : node_at ((f.nodes ++ []) ++ more) k ≡ node_at f.nodes k =
    get_or_append_left (f.nodes ++ []) more no_node k (rw append-nil (omega (arith, filled)))
    ∙ ap (λ l. node_at l k) (append-nil f.nodes) in
    let up = r.rises k j (omega (arith, past, filled)) inside in
    let same = ap (λ (x : Node). x.number) e in
    omega (arith, ints, up, same, passed)
beyond_passed f (Pending kind m) more n j now filled none r past inside passed =
    let x = node_of kind m in
    let k = length f.nodes in
    let wide = length-append f.nodes (x ∷ []) in
    let e : node_at ((f.nodes ++ x ∷ []) ++ more) k ≡ x =
    get_or_append_left (f.nodes ++ x ∷ []) more no_node k (omega (arith, wide))
    ∙ node_at_new f.nodes x k (omega arith) (omega (arith, wide)) in
    let same = ap (λ (y : Node). y.number) e in
    elim (cases_eq j k) [
      | inl here ↦ (
          let there = ap (λ i. (node_at ((f.nodes ++ x ∷ []) ++ more) i).number) here in
          omega (arith, ints, same, there, passed))
      | inr other ↦ (
          let up = r.rises k j (omega (arith, past, other)) inside in
          omega (arith, ints, up, same, passed))
    ]
beyond_passed f (Completed e) more n j now filled none r past inside passed =
    let gone = ap (λ (l : List Node). length l) (none refl) in
    let wide = length-append (f.nodes ++ []) more in
    let short = ap (λ (l : List Node). length l) (append-nil f.nodes) in
    absurd (omega (arith, past, inside, wide, short, gone))

-- a column that goes on from another
record GoesOnFrom (old more : List Node) : Type 0 where
  longer : length old ≤ length more
  same : (k : ℕ) → k < length old → node_at more k ≡ node_at old k

-- a column with more instances goes on
goes_on_from : (xs ys zs : List Node) → GoesOnFrom xs ((xs ++ ys) ++ zs)
goes_on_from xs ys zs =
    let a = length-append (xs ++ ys) zs in
    let b = length-append xs ys in
    record {
      longer = omega (arith, a, b);
      same = λ k l. get_or_append_left (xs ++ ys) zs no_node k (omega (arith, b, l))
          ∙ get_or_append_left xs ys no_node k l;
    }

-- the columns of the elision go on from the run's
own_goes_on : (p : Pipeline) (s : State) (i : ℕ) → AllTraced p s.frames → AreBeginnings p s.frames
    → GoesOnFrom (nodes_at (own_columns s) i) (nodes_at (serial_columns p) i)
own_goes_on p s i t b = elim (cases_lt i (length s.frames)) [
  | inl less ↦ (
      let f = frame_at_exists s.frames i less in
      let column = beginning_column p i f.0 (t i f.0 f.1) (b i f.0 f.1) in
      rw (nodes_at_frame s.frames i f.0 f.1, column)
      (goes_on_from f.0.nodes (pending_node f.0.status) (nodes_in (b i f.0 f.1).rest)))
  | inr past ↦ rw (nodes_at_past s.frames i (omega (arith, past)))
      (record { longer = omega arith; same = λ k l. absurd (omega (arith, l)) })
]

-- the columns of the elision extend the run's
pub extends_serial : (p : Pipeline) (s : State) → IsWellFormed p → IsConsistent s → AllTraced p s.frames
    → AreBeginnings p s.frames → ExtendsColumns (own_columns s) (serial_columns p)
extends_serial p s proper k t b = record {
  longer = λ i. (own_goes_on p s i t b).longer;
  same = λ i j l. (own_goes_on p s i t b).same j l;
  began = λ i. left_column_begun s.frames i k.sound;
  beyond = λ i j m past inside l kind.
      let g = frame_of_node s.frames (i + 1) m l in
      let w = frame_at_within s.frames (i + 1) g.0 g.1 in
      let h = frame_at_exists s.frames i (omega (arith, w)) in
      let f = h.0 in
      let tf = t i f h.1 in
      let bf = b i f h.1 in
      let column = beginning_column p i f tf bf in
      let own : nodes_at (own_columns s) i ≡ f.nodes = nodes_at_frame s.frames i f h.1 in
      let passed = awaited_is_passed s.frames i m f k.sound h.1 l kind in
      let inside' : j < length ((f.nodes ++ pending_node f.status) ++ nodes_in bf.rest) =
      subst (λ (x : List Node). j < length x) column inside in
      let past' : length f.nodes ≤ j = subst (λ (x : List Node). length x ≤ j) own past in
      rw column (beyond_passed f f.status (nodes_in bf.rest) (node_at (nodes_at (own_columns s) (i + 1)) m).number j
      refl (k.sound.well i f h.1).filled
      (λ o. (let e = completed_is f.status o in ap nodes_in (completed_has_no_rest p i f e.0 tf e.1 bf)))
      (subst IsRising column (beginning_rises p i f proper bf)) past' inside' passed);
}

-- the accesses of a frame are some of the elision's
beginning_among : (p : Pipeline) (i : ℕ) (f : Frame) (x : NodeAccess) → (b : IsBeginning p i f)
    → Among x (located i 0 f.trace) → Among x (serial_accesses p)
beginning_among p i f x b m =
    among_located_from 0 (serial_traces p) i b.trace x b.is (
    let z : 0 + i ≡ i = omega arith in
    rw (z, b.begins, located-append i 0 f.trace b.rest)
    (among_left x (located i 0 f.trace) (located i (0 + length (nodes_in f.trace)) b.rest) m))

-- the accesses of the run are some of the elision's
pub run_among : (p : Pipeline) (s : State) → HasLocatedAccesses s → AreBeginnings p s.frames → (x : NodeAccess)
    → Among x s.accesses → Among x (serial_accesses p)
run_among p s sp b x m =
    let st = sp.spread x m in
    beginning_among p st.place st.frame x (b st.place st.frame st.is) st.made

-- the run has no race if the elision has none
pub own_race_free : (p : Pipeline) (s : State) → IsWellFormed p → IsConsistent s → AllTraced p s.frames
    → HasLocatedAccesses s → AreBeginnings p s.frames → IsRaceFree (serial_columns p) (serial_accesses p)
    → IsRaceFree (own_columns s) s.accesses
own_race_free p s proper k t sp b free =
    no_race_before (own_columns s) (serial_columns p) s.accesses (serial_accesses p) (extends_serial p s proper k t b)
    (run_among p s sp b) k.located free
