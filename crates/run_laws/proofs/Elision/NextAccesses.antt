-- The next access of a running instance does not conflict with accesses that other iterations made too early or have still to make.
use Rattle.std.proofs.Common.{ℕ, length, ◌-◌, suc, ◌≡◌, ap, List, sym, append-nil, ◌∙◌, ◌++◌, ◌∷◌, arith, ◌+◌, Some, ◌<◌, ◌≤◌, subst, []}
use Rattle.std.proofs.Common.{refl, take, append_assoc}
use Rattle.std.proofs.lemmas.List.{length-append}
use Rattle.std.specs.List.{flat_map}
use Rattle.pipe_model.specs.Runs.Allowed.{IsRunning}
use Rattle.pipe_model.specs.Pipelines.Behaviour.{nodes_in, Action, Accessed, accesses_in, node_of}
use Rattle.pipe_model.specs.Races.Columns.{at}
use Rattle.pipe_model.specs.Pipelines.Pipeline.{Pipeline, IsWellFormed}
use Rattle.pipe_model.specs.Races.DeterminacyRaces.{Among, Here, IsRaceFree, Conflict}
use Rattle.pipe_model.specs.Pipelines.SerialElision.{serial_accesses, serial_traces, located, serial_columns}
use Rattle.pipe_model.specs.declared.status.Status.{Status}
use Rattle.pipe_model.specs.declared.status.Status.TheVariants.{Running, Pending, Completed}
use Rattle.pipe_model.specs.Runs.State.{Frame, State, frame_at, own_columns, accesses_of}
use Rattle.pipe_model.specs.Pipelines.Store.{written}
use Rattle.pipe_model.specs.declared.access.Access.{Access as Cell_access}
use Rattle.pipe_model.specs.declared.access.NodeAccess.{NodeAccess}
use Rattle.pipe_model.specs.declared.node.Node.{Node}
use Rattle.pipe_model.specs.declared.node.NodeId.{NodeId}
use Rattle.run_laws.proofs.Elision.Beginnings.{IsBeginning, AreBeginnings, extends_serial, run_among, completed_has_no_rest}
use Rattle.run_laws.proofs.Elision.ColumnOrder.{AgreesByColumn}
use Rattle.run_laws.proofs.Iterations.CellWrites.{written-append, written_none, no_conflict_writes_none}
use Rattle.run_laws.proofs.Iterations.ElisionTraces.{memory_of}
use Rattle.run_laws.proofs.Iterations.LocatedActions.{among_located_from, located-append, is_located}
use Rattle.run_laws.proofs.Iterations.TraceParts.{accesses_in-append, trace_at}
use Rattle.run_laws.proofs.RunStates.FrameAccesses.{accesses_by_column, in_frame, accesses_by_column-parted}
use Rattle.run_laws.proofs.RunStates.FrameTraces.{IsTraced, pending_node, AllTraced}
use Rattle.run_laws.proofs.RunStates.Frames.{nodes_at_frame, parted, frame_at_within, frame_at_append}
use Rattle.run_laws.proofs.RunStates.LaterEdges.{old_path, paths_lead_right, IsOldPath, HasInstance}
use Rattle.pipe_model.proofs.Members.{among_right, none_among}
use Rattle.run_laws.proofs.RunStates.RunAccesses.{HasLocatedAccesses}
use Rattle.run_laws.proofs.RunStates.RunInvariant.{IsConsistent}
use Rattle.run_laws.proofs.RunStates.RunningInstances.{running_has_no_path}

-- the next access of the elision, at the running instance of iteration i
abbrev pub next_access : Frame → ℕ → Cell_access → NodeAccess
next_access f i a = record { node = at i (length f.nodes - 1); access = a }

-- the number of instances of a running iteration
running_count : (p : Pipeline) (i : ℕ) (f : Frame) → IsTraced p i f → f.status ≡ Running
    → length f.nodes ≡ suc (length (nodes_in f.trace))
running_count p i f t e =
    ap (λ (l : List Node). length l) (sym (t.nodes ∙ ap (λ w. f.nodes ++ pending_node w) e ∙ append-nil f.nodes))

-- the next access is one of the elision's
pub next_among : (p : Pipeline) (i : ℕ) (f : Frame) (a : Cell_access) (rest : List Action) → IsTraced p i f
    → f.status ≡ Running → (b : IsBeginning p i f) → b.rest ≡ Accessed a ∷ rest
    → Among (next_access f i a) (serial_accesses p)
next_among p i f a rest t runs b e =
    let count = running_count p i f t runs in
    let index : length f.nodes - 1 ≡ 0 + length (nodes_in f.trace) = omega (arith, count) in
    let z : 0 + i ≡ i = omega arith in
    among_located_from 0 (serial_traces p) i b.trace (next_access f i a) b.is
    (rw (z, b.begins, e, located-append i 0 f.trace (Accessed a ∷ rest), index)
    (among_right (record { node = at i (0 + length (nodes_in f.trace)); access = a }) (located i 0 f.trace)
    (located i (0 + length (nodes_in f.trace)) (Accessed a ∷ rest)) Here))

-- no access that was made further to the right conflicts with the next access
no_conflict_right : (p : Pipeline) (s : State) (i : ℕ) (a : Cell_access) → IsWellFormed p → IsConsistent s
    → AllTraced p s.frames → HasLocatedAccesses s → AreBeginnings p s.frames
    → IsRaceFree (serial_columns p) (serial_accesses p) → (r : IsRunning s i)
    → Among (next_access r.frame i a) (serial_accesses p)
    → (j : ℕ) (g : Frame) (w : Cell_access) → i < j → frame_at s.frames j ≡ Some g → Among w (accesses_in g.trace)
    → Conflict a w → ⊥
no_conflict_right p s i a proper k t sp b free r next j g w l is made c =
    let held = k.held j g w is made in
    let y : NodeAccess = record { node = at j held.index; access = w } in
    let x = next_access r.frame i a in
    let ext = extends_serial p s proper k t b in
    free x y (record {
      first = next;
      second = run_among p s sp b y held.made;
      conflict = c;
      parallel = record {
        apart = λ e. (let same = ap (λ (n : NodeId). n.iteration) e in omega (arith, same, l));
        not_before = λ path. (
            let own = old_path (own_columns s) (serial_columns p) x.node y.node ext path (k.located y held.made) in
            let filled = (k.sound.well i r.frame r.is).filled in
            running_has_no_path s.frames r.frame x.node y.node k.sound r.is r.runs (omega (arith, filled)) own.path);
        not_after = λ path. (
            let right = paths_lead_right (serial_columns p) y.node x.node path in
            omega (arith, right, l));
      };
    })

-- no path leaves an instance that has more to do yet
unfinished_has_no_path : (p : Pipeline) (s : State) (j : ℕ) (g : Frame) (m : ℕ) (y : NodeId) (w : Status)
    → IsConsistent s → IsTraced p j g → (b : IsBeginning p j g) → frame_at s.frames j ≡ Some g → g.status ≡ w
    → (a : Cell_access) → Among a (accesses_in b.rest) → length (nodes_in g.trace) ≤ m
    → IsOldPath (own_columns s) (at j m) y → ⊥
unfinished_has_no_path p s j g m y Running k t b is e a made l path =
    let count = running_count p j g t e in
    let old : m < length g.nodes =
    subst (λ (x : List Node). m < length x) (nodes_at_frame s.frames j g is) path.old in
    running_has_no_path s.frames g (at j m) y k.sound is e (omega (arith, count, old, l)) path.path
unfinished_has_no_path p s j g m y (Pending kind n) k t b is e a made l path =
    let count = ap (λ (x : List Node). length x) (t.nodes ∙ ap (λ w. g.nodes ++ pending_node w) e) in
    let wide = length-append g.nodes (node_of kind n ∷ []) in
    let old : m < length g.nodes =
    subst (λ (x : List Node). m < length x) (nodes_at_frame s.frames j g is) path.old in
    omega (arith, count, wide, old, l)
unfinished_has_no_path p s j g m y (Completed d) k t b is e a made l path =
    none_among a (subst (λ (x : List Action). Among a (accesses_in x)) (completed_has_no_rest p j g d t e b) made)

-- no access that is still to be made further to the left conflicts with the next access
no_conflict_left : (p : Pipeline) (s : State) (i : ℕ) (a : Cell_access) → IsWellFormed p → IsConsistent s
    → AllTraced p s.frames → (b : AreBeginnings p s.frames) → IsRaceFree (serial_columns p) (serial_accesses p)
    → (r : IsRunning s i) → Among (next_access r.frame i a) (serial_accesses p)
    → (j : ℕ) (g : Frame) (w : Cell_access) → j < i → (is : frame_at s.frames j ≡ Some g)
    → Among w (accesses_in (b j g is).rest) → Conflict a w → ⊥
no_conflict_left p s i a proper k t b free r next j g w l is made c =
    let bg = b j g is in
    let from = 0 + length (nodes_in g.trace) in
    let h = is_located j from bg.rest w made in
    let y : NodeAccess = record { node = at j h.index; access = w } in
    let x = next_access r.frame i a in
    let z : 0 + j ≡ j = omega arith in
    let there : Among y (serial_accesses p) =
    among_located_from 0 (serial_traces p) j bg.trace y bg.is
    (rw (z, bg.begins, located-append j 0 g.trace bg.rest)
    (among_right y (located j 0 g.trace) (located j from bg.rest) h.made)) in
    let ext = extends_serial p s proper k t b in
    let late = h.from in
    free x y (record {
      first = next;
      second = there;
      conflict = c;
      parallel = record {
        apart = λ e. (let same = ap (λ (n : NodeId). n.iteration) e in omega (arith, same, l));
        not_before = λ path. (
            let right = paths_lead_right (serial_columns p) x.node y.node path in
            omega (arith, right, l));
        not_after = λ path. (
            let filled = (k.sound.well i r.frame r.is).filled in
            let old : HasInstance (own_columns s) x.node =
            rw (nodes_at_frame s.frames i r.frame r.is) (omega (arith, filled)) in
            unfinished_has_no_path p s j g h.index x.node g.status k (t j g is) bg is refl w made
            (omega (arith, late)) (old_path (own_columns s) (serial_columns p) y.node x.node ext path old));
      };
    })

-- a frame with the rest of its trace, which does not write the cell
record IsWrittenOut (c : ℕ) (ts : List (List Action)) (j : ℕ) (g : Frame) : Type 0 where
  trace : List Action
  rest : List Action
  is : trace_at ts j ≡ Some trace
  begins : trace ≡ g.trace ++ rest
  none : written c (accesses_in rest) ≡ []

-- such frames have written what their traces write
written_by_left : (c : ℕ) (fs : List Frame) (ts : List (List Action))
    → ((j : ℕ) (g : Frame) → frame_at fs j ≡ Some g → IsWrittenOut c ts j g)
    → written c (accesses_by_column fs) ≡ written c (flat_map accesses_in (take (length fs) ts))
written_by_left c [] ts h = refl
written_by_left c (f ∷ fs) [] h = let d = h 0 f refl in absurd (let e = d.is in cc)
written_by_left c (f ∷ fs) (t ∷ ts) h =
    let d = h 0 f refl in
    let same : t ≡ d.trace = (let e = d.is in cc) in
    let one : written c (accesses_in t) ≡ written c (accesses_in f.trace) =
    ap (λ l. written c (accesses_in l)) (same ∙ d.begins) ∙ ap (λ l. written c l) (accesses_in-append f.trace d.rest)
    ∙ written-append c (accesses_in f.trace) (accesses_in d.rest)
    ∙ ap (λ l. written c (accesses_in f.trace) ++ l) d.none ∙ append-nil (written c (accesses_in f.trace)) in
    written-append c (accesses_in f.trace) (accesses_by_column fs)
    ∙ ap (λ l. l ++ written c (accesses_by_column fs)) (sym one)
    ∙ ap (λ l. written c (accesses_in t) ++ l) (written_by_left c fs ts (λ j g e. (
    let q = h (suc j) g e in
    record { trace = q.trace; rest = q.rest; is = q.is; begins = q.begins; none = q.none })))
    ∙ sym (written-append c (accesses_in t) (flat_map accesses_in (take (length fs) ts)))

-- the writes to the cell are the same in the run as in the elision
pub written_same : (p : Pipeline) (s : State) (i : ℕ) (a : Cell_access) → IsWellFormed p → IsConsistent s
    → AllTraced p s.frames → HasLocatedAccesses s → AgreesByColumn p s → (b : AreBeginnings p s.frames)
    → IsRaceFree (serial_columns p) (serial_accesses p) → (r : IsRunning s i)
    → Among (next_access r.frame i a) (serial_accesses p)
    → written a.cell.0 (p.preamble ++ accesses_of s.accesses)
    ≡ written a.cell.0 (memory_of p.preamble (take i (serial_traces p)) ++ accesses_in r.frame.trace)
written_same p s i a proper k t sp g b free r next =
    let c = a.cell.0 in
    let f = r.frame in
    let h = parted s.frames i f (λ x. x) r.is in
    let right : written c (accesses_by_column h.right) ≡ [] = written_none c (accesses_by_column h.right) (λ w m.
    let q = in_frame h.right w m in
    no_conflict_writes_none a w (no_conflict_right p s i a proper k t sp b free r next (i + 1 + q.place) q.frame w
    (omega arith) (sym (h.later q.place) ∙ q.is) q.made)) in
    let left : written c (accesses_by_column h.left)
    ≡ written c (flat_map accesses_in (take (length h.left) (serial_traces p))) =
    written_by_left c h.left (serial_traces p) (λ j x e.
    let place = h.place in
    let within = frame_at_within h.left j x e in
    let is : frame_at s.frames j ≡ Some x =
    subst (λ l. frame_at l j ≡ Some x) (sym h.is) (frame_at_append h.left (f ∷ h.right) j x e) in
    let bx = b j x is in
    record {
      trace = bx.trace;
      rest = bx.rest;
      is = bx.is;
      begins = bx.begins;
      none = written_none c (accesses_in bx.rest)
          (λ w m. no_conflict_writes_none a w (no_conflict_left p s i a proper k t b free r next j x w
          (omega (arith, place, within)) is m));
    }) in
    let all : written c (accesses_by_column s.frames) ≡ written c (accesses_by_column h.left)
    ++ written c (accesses_in f.trace) =
    ap (λ l. written c l) (accesses_by_column-parted s.frames h.left f h.right h.is)
    ∙ written-append c (accesses_by_column h.left) (accesses_in f.trace ++ accesses_by_column h.right)
    ∙ ap (λ l. written c (accesses_by_column h.left) ++ l)
    (written-append c (accesses_in f.trace) (accesses_by_column h.right)
    ∙ ap (λ l. written c (accesses_in f.trace) ++ l) right ∙ append-nil (written c (accesses_in f.trace))) in
    written-append c p.preamble (accesses_of s.accesses)
    ∙ ap (λ l. written c p.preamble ++ l) (g.same c ∙ all
    ∙ ap (λ l. l ++ written c (accesses_in f.trace)) (left
    ∙ ap (λ n. written c (flat_map accesses_in (take n (serial_traces p)))) h.place))
    ∙ sym (append_assoc (written c p.preamble) (written c (flat_map accesses_in (take i (serial_traces p))))
    (written c (accesses_in f.trace)))
    ∙ ap (λ l. l ++ written c (accesses_in f.trace))
    (sym (written-append c p.preamble (flat_map accesses_in (take i (serial_traces p)))))
    ∙ sym (written-append c (memory_of p.preamble (take i (serial_traces p))) (accesses_in f.trace))
