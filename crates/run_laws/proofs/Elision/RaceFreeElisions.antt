-- If the serial elision has no race, every run is a beginning of it, and has none.
use Rattle.std.proofs.Common.{List, ℕ, ℤ, ◌≡◌, ◌∷◌, ap, sym, refl, [], ◌++◌, take, subst, ◌+◌, arith, ◌∙◌, append_assoc, Some, inl, inr}
use Rattle.std.proofs.Common.{length, false, ◌<◌, append-nil, zero, suc, true}
use Rattle.std.proofs.lemmas.Bool.{cases_Bool, cases_eq, false≢true}
use Rattle.std.proofs.lemmas.List.{length-append}
use Rattle.pipe_model.specs.Runs.Allowed.{IsRunning, ContinuesLoop, MayBegin, Allowed}
use Rattle.pipe_model.specs.Pipelines.Behaviour.{Behaviour, Action, Offers, Reading, Accessed, read_access, Writing, write_access, Staging}
use Rattle.pipe_model.specs.Pipelines.Behaviour.{Ending}
use Rattle.pipe_model.specs.Pipelines.Behaviour.{accesses_in, behaviour_after_all, HasNoEnd, closes_loop, node_of, closes_at_once, Staged}
use Rattle.pipe_model.specs.Pipelines.Behaviour.{Ended}
use Rattle.pipe_model.specs.Pipelines.Pipeline.{Pipeline, IsWellFormed, AlwaysClosesLoop}
use Rattle.pipe_model.specs.Races.DeterminacyRaces.{IsRaceFree}
use Rattle.pipe_model.specs.Runs.Run.{Run, EmptyRun, RunThen}
use Rattle.pipe_model.specs.Pipelines.SerialElision.{serial_trace, serial_traces, serial_columns, serial_accesses}
use Rattle.pipe_model.specs.declared.status.Status.{Status}
use Rattle.pipe_model.specs.declared.status.Status.TheVariants.{Running, Pending, Completed}
use Rattle.pipe_model.specs.Runs.State.{Frame, with_action, frame_at, update_frame, State, accesses_of}
use Rattle.pipe_model.specs.Runs.State.{fresh_frame, next_state, enter_pending}
use Rattle.pipe_model.specs.Pipelines.Store.{value_after, HasReply, value_from}
use Rattle.pipe_model.specs.declared.access.Access.{Access as Cell_access}
use Rattle.pipe_model.specs.declared.event.Event.{Event}
use Rattle.pipe_model.specs.declared.event.Event.TheVariants.{Begin, Access, Advance, Enter, Finish, Stop}
use Rattle.pipe_model.specs.declared.node.Node.{Node}
use Rattle.run_laws.proofs.Elision.Beginnings.{IsBeginning, AreBeginnings, completed_has_no_rest, own_race_free}
use Rattle.run_laws.proofs.Elision.ColumnOrder.{AgreesByColumn, run_agrees}
use Rattle.run_laws.proofs.Elision.NextAccesses.{next_among, written_same}
use Rattle.run_laws.proofs.Iterations.ElisionTraces.{memory_of, trace_is_serial, trace_within, next_trace_exists}
use Rattle.run_laws.proofs.Iterations.SerialTraces.{serial_trace_rest, serial_trace_closes}
use Rattle.run_laws.proofs.Iterations.TraceParts.{stages_close_nothing, EndsWith, closes_loop_cases, trace_at}
use Rattle.run_laws.proofs.RunStates.FrameMoves.{frame_at_moved, frame_at_begun, enter_pending_is}
use Rattle.run_laws.proofs.RunStates.FrameTraces.{IsTraced, EndsBy, AllTraced, pending_node, action_offered, run_traced}
use Rattle.run_laws.proofs.RunStates.Frames.{frame_at_exists}
use Rattle.run_laws.proofs.RunStates.RunAccesses.{HasLocatedAccesses, run_located}
use Rattle.run_laws.proofs.RunStates.RunInvariant.{IsConsistent, run_consistent}
use Rattle.run_laws.proofs.Elision.RaceFreeRuns.{race_free_runs_are_serial}
use Rattle.run_laws.specs.SerialLaws.{RaceFreeElisionsHaveRaceFreeRuns, RacesAreThoseOfTheElision}

-- an offered action that has its reply is the elision's next
serial_trace_next : (p : Pipeline) (d : Behaviour) (m : List Cell_access) (x : Action) → Offers d x
    → ((c : ℕ) (go : ℤ → Behaviour) → d ≡ Reading c go → x ≡ Accessed (read_access c (value_after p.store m c)))
    → (rest : List Action) × (serial_trace p.store d m ≡ x ∷ rest)
serial_trace_next p (Reading c go) m x o reply = (
  serial_trace p.store (go (value_after p.store m c))
      (m ++ read_access c (value_after p.store m c) ∷ []),
  ap (λ y. y ∷ serial_trace p.store (go (value_after p.store m c)) (m ++ read_access c (value_after p.store m c) ∷ []))
      (sym (reply c go refl)),
)
serial_trace_next p (Writing c v d) m x o reply = (
  serial_trace p.store d (m ++ write_access c v ∷ []),
  ap (λ y. y ∷ serial_trace p.store d (m ++ write_access c v ∷ []))
      (sym o),
)
serial_trace_next p (Staging k n d) m x o reply = (serial_trace p.store d m, ap (λ y. y ∷ serial_trace p.store d m) (sym o))
serial_trace_next p (Ending e) m x o reply = ([], ap (λ y. y ∷ []) (sym o))

-- the accesses before the next action of iteration i
abbrev memory_at : Pipeline → ℕ → Frame → List Cell_access
memory_at p i f = memory_of p.preamble (take i (serial_traces p)) ++ accesses_in f.trace

-- the rest of a trace is the serial trace from there
rest_is_serial : (p : Pipeline) (i : ℕ) (f : Frame) → IsTraced p i f → f.status ≡ Running → (b : IsBeginning p i f)
    → b.rest ≡ serial_trace p.store (behaviour_after_all (p.behaviour i) f.trace) (memory_at p i f)
rest_is_serial p i f t runs b =
    let no_end : HasNoEnd f.trace = subst (λ w. EndsBy w f.trace) runs t.ending in
    let e : b.trace ≡ serial_trace p.store (p.behaviour (0 + i)) (memory_of p.preamble (take i (serial_traces p))) =
    trace_is_serial p (p.last_iteration + 1) 0 p.preamble i b.trace b.is in
    let z : 0 + i ≡ i = omega arith in
    let e' : serial_trace p.store (p.behaviour i) (memory_of p.preamble (take i (serial_traces p))) ≡ f.trace ++ b.rest =
    ap (λ n. serial_trace p.store (p.behaviour n) (memory_of p.preamble (take i (serial_traces p)))) (sym z) ∙ sym e
    ∙ b.begins in
    serial_trace_rest p (p.behaviour i) (memory_of p.preamble (take i (serial_traces p))) f.trace b.rest no_end e'

-- a beginning with the elision's next action is a beginning
action_beginning : (p : Pipeline) (i : ℕ) (f : Frame) (x : Action) (w : Status) → IsTraced p i f → f.status ≡ Running
    → (b : IsBeginning p i f) → Offers (behaviour_after_all (p.behaviour i) f.trace) x
    → ((c : ℕ) (go : ℤ → Behaviour) → behaviour_after_all (p.behaviour i) f.trace ≡ Reading c go
    → x ≡ Accessed (read_access c (value_after p.store (memory_at p i f) c))) → IsBeginning p i (with_action x w f)
action_beginning p i f x w t runs b o reply =
    let n = serial_trace_next p (behaviour_after_all (p.behaviour i) f.trace) (memory_at p i f) x o reply in
    record {
      trace = b.trace;
      is = b.is;
      rest = n.0;
      begins = b.begins ∙ ap (λ l. f.trace ++ l) (rest_is_serial p i f t runs b ∙ n.1)
          ∙ sym (append_assoc f.trace (x ∷ []) n.0);
    }

-- the frames stay beginnings if the one that an event changes does
beginning_moved : (p : Pipeline) (fs : List Frame) (i : ℕ) (f : Frame) (u : Frame → Frame) → AreBeginnings p fs
    → frame_at fs i ≡ Some f → IsBeginning p i (u f) → AreBeginnings p (update_frame fs i u)
beginning_moved p fs i f u all e t = λ j h c. elim (frame_at_moved fs i j f u h e c) [
  | inl here ↦ rw (here.0, here.1) t
  | inr there ↦ all j h there.1
]

-- a read has the reply of the elision
read_beginning : (p : Pipeline) (s : State) (i : ℕ) (a : Cell_access) → IsWellFormed p → IsConsistent s
    → AllTraced p s.frames → HasLocatedAccesses s → AgreesByColumn p s → (b : AreBeginnings p s.frames)
    → IsRaceFree (serial_columns p) (serial_accesses p) → (r : IsRunning s i)
    → Offers (behaviour_after_all (p.behaviour i) r.frame.trace) (Accessed a)
    → HasReply p.store (p.preamble ++ accesses_of s.accesses) a
    → (c : ℕ) (go : ℤ → Behaviour) → behaviour_after_all (p.behaviour i) r.frame.trace ≡ Reading c go
    → Accessed a ≡ Accessed (read_access c (value_after p.store (memory_at p i r.frame) c))
read_beginning p s i a proper k t sp g b free r o reply c go e =
    let f = r.frame in
    let tf = t i f r.is in
    let bf = b i f r.is in
    let v' = value_after p.store (memory_at p i f) c in
    let rest : bf.rest ≡ Accessed (read_access c v')
    ∷ serial_trace p.store (go v') (memory_at p i f ++ read_access c v' ∷ []) =
    rest_is_serial p i f tf r.runs bf ∙ ap (λ d. serial_trace p.store d (memory_at p i f)) e in
    let next = next_among p i f (read_access c v') _ tf r.runs bf rest in
    let same = written_same p s i (read_access c v') proper k t sp g b free r next in
    let offer : (v : ℤ) × (Accessed a ≡ Accessed (read_access c v)) = subst (λ d. Offers d (Accessed a)) e o in
    let is : a ≡ read_access c offer.0 = (let q = offer.1 in cc) in
    let value : offer.0 ≡ value_after p.store (p.preamble ++ accesses_of s.accesses) c =
    (subst (λ (x : Cell_access). HasReply p.store (p.preamble ++ accesses_of s.accesses) x) is reply) refl in
    offer.1 ∙ ap (λ v. Accessed (read_access c v)) (value ∙ ap (value_from p.store c) same)

-- the trace of an iteration that goes on does not close the loop
continuing_closes_not : (p : Pipeline) (i : ℕ) (f : Frame) (w : Status) → IsTraced p i f → (b : IsBeginning p i f)
    → 0 < length f.nodes → f.status ≡ w → ContinuesLoop w f.nodes → closes_loop b.trace ≡ false
continuing_closes_not p i f Running t b filled e g =
    let count = ap (λ (l : List Node). length l) (t.nodes ∙ ap (λ w. f.nodes ++ pending_node w) e
    ∙ append-nil f.nodes) in
    ap closes_loop b.begins ∙ stages_close_nothing f.trace b.rest (subst (λ w. EndsBy w f.trace) e t.ending)
    (omega (arith, count, g))
continuing_closes_not p i f (Pending k n) t b filled e g =
    let count = ap (λ (l : List Node). length l) (t.nodes ∙ ap (λ w. f.nodes ++ pending_node w) e) in
    let wide = length-append f.nodes (node_of k n ∷ []) in
    ap closes_loop b.begins ∙ stages_close_nothing f.trace b.rest (subst (λ w. EndsBy w f.trace) e t.ending)
    (omega (arith, count, wide, filled))
continuing_closes_not p i f (Completed d) t b filled e g =
    let ending : EndsWith f.trace d = subst (λ w. EndsBy w f.trace) e t.ending in
    let count = ap (λ (l : List Node). length l) (t.nodes ∙ ap (λ w. f.nodes ++ pending_node w) e
    ∙ append-nil f.nodes) in
    let whole : b.trace ≡ f.trace =
    b.begins ∙ ap (λ l. f.trace ++ l) (completed_has_no_rest p i f d t e b) ∙ append-nil f.trace in
    ap closes_loop whole ∙ elim (closes_loop_cases f.trace d ending) [
      | inl one ↦ elim (cases_Bool (closes_at_once d)) [
        | inl shut ↦ (
            let wide = g shut in
            let short = ap (λ (l : List Node). length l) one.0 in
            absurd (omega (arith, wide, count, short)))
        | inr free ↦ one.1 ∙ free
      ]
      | inr more ↦ more.1
    ]

-- an iteration that has just begun
fresh_beginning : (p : Pipeline) (i : ℕ) → (t : List Action) × (trace_at (serial_traces p) i ≡ Some t)
    → IsBeginning p i fresh_frame
fresh_beginning p i h = record { trace = h.0; is = h.1; rest = h.0; begins = refl }

-- the elision has the next iteration too
next_trace : (p : Pipeline) (limit : ℕ) (s : State) (i : ℕ) → IsWellFormed p → IsConsistent s → AllTraced p s.frames
    → AreBeginnings p s.frames → (n : ℕ) → length s.frames ≡ n → MayBegin limit s i
    → (t : List Action) × (trace_at (serial_traces p) n ≡ Some t)
next_trace p limit s i proper k t b zero e may =
    let z : p.last_iteration + 1 ≡ suc p.last_iteration = omega arith in
    (serial_trace p.store (p.behaviour 0) p.preamble, rw z refl)
next_trace p limit s i proper k t b (suc j) e may =
    let f = frame_at_exists s.frames j (omega (arith, e)) in
    let bf = b j f.0 f.1 in
    let number = may.number in
    let free = continuing_closes_not p j f.0 f.0.status (t j f.0 f.1) bf (k.sound.well j f.0 f.1).filled refl
    (may.follows j f.0 (omega (arith, number, e)) f.1) in
    let within = trace_within p (p.last_iteration + 1) 0 p.preamble j bf.trace bf.is in
    let less : suc j < p.last_iteration + 1 = elim (cases_eq j p.last_iteration) [
      | inl same ↦ (
          let z : p.last_iteration ≡ 0 + j = omega (arith, same) in
          let shut : closes_loop bf.trace ≡ true =
          ap closes_loop (trace_is_serial p (p.last_iteration + 1) 0 p.preamble j bf.trace bf.is)
          ∙ serial_trace_closes p (p.behaviour (0 + j)) (memory_of p.preamble (take j (serial_traces p)))
          (subst (λ n. AlwaysClosesLoop (p.behaviour n)) z proper.closes) in
          absurd (false≢true (sym free ∙ shut)))
      | inr other ↦ omega (arith, within, other)
    ] in
    next_trace_exists p (p.last_iteration + 1) 0 p.preamble j bf.trace bf.is free less

-- the frames stay beginnings after a beginning of the next iteration
begun_beginning : (p : Pipeline) (limit : ℕ) (s : State) (i : ℕ) → IsWellFormed p → IsConsistent s
    → AllTraced p s.frames → AreBeginnings p s.frames → MayBegin limit s i
    → AreBeginnings p (s.frames ++ fresh_frame ∷ [])
begun_beginning p limit s i proper k t b may = λ j f e. elim (frame_at_begun s.frames j f e) [
  | inl new ↦ rw (new.0, new.1) (fresh_beginning p (length s.frames)
      (next_trace p limit s i proper k t b (length s.frames) refl may))
  | inr old ↦ b j f old.1
]

-- the frames stay beginnings after every event
beginning_after : (p : Pipeline) (limit : ℕ) (s : State) (e : Event) → IsWellFormed p
    → IsRaceFree (serial_columns p) (serial_accesses p) → IsConsistent s → AllTraced p s.frames → HasLocatedAccesses s
    → AgreesByColumn p s → Allowed p limit s e → AreBeginnings p s.frames → AreBeginnings p (next_state s e).frames
beginning_after p limit s (Begin i) proper free k t sp g h b = begun_beginning p limit s i proper k t b h.control
beginning_after p limit s (Access i a) proper free k t sp g h b =
    let r = h.control in
    let o = action_offered p s i r.frame (Accessed a) r.is h.program.0 in
    beginning_moved p s.frames i r.frame (with_action (Accessed a) Running) b r.is
    (action_beginning p i r.frame (Accessed a) Running (t i r.frame r.is) r.runs (b i r.frame r.is) o
    (read_beginning p s i a proper k t sp g b free r o h.program.1))
beginning_after p limit s (Advance i j n) proper free k t sp g h b =
    let r = h.control.running in
    let o = action_offered p s i r.frame (Staged j n) r.is h.program in
    beginning_moved p s.frames i r.frame (with_action (Staged j n) (Pending j n)) b r.is
    (action_beginning p i r.frame (Staged j n) (Pending j n) (t i r.frame r.is) r.runs (b i r.frame r.is) o
    (λ c go e. absurd (
    let q : (v : ℤ) × (Staged j n ≡ Accessed (read_access c v)) = subst (λ d. Offers d (Staged j n)) e o in
    let w = q.1 in
    cc)))
beginning_after p limit s (Enter i) proper free k t sp g h b =
    let m = h.control in
    let bm = b i m.frame m.is in
    beginning_moved p s.frames i m.frame (λ f. enter_pending f.status f) b m.is
    (rw (enter_pending_is m.frame m.kind m.number m.named)
    (record { trace = bm.trace; is = bm.is; rest = bm.rest; begins = bm.begins }))
beginning_after p limit s (Finish i e) proper free k t sp g h b =
    let r = h.control.running in
    let o = action_offered p s i r.frame (Ended e) r.is h.program in
    beginning_moved p s.frames i r.frame (with_action (Ended e) (Completed e)) b r.is
    (action_beginning p i r.frame (Ended e) (Completed e) (t i r.frame r.is) r.runs (b i r.frame r.is) o
    (λ c go eq. absurd (
    let q : (v : ℤ) × (Ended e ≡ Accessed (read_access c v)) = subst (λ d. Offers d (Ended e)) eq o in
    let w = q.1 in
    cc)))
beginning_after p limit s Stop proper free k t sp g h b = b

-- every run is a beginning of the elision
run_is_beginning : {p : Pipeline} {limit : ℕ} {events : List Event} {s : State} → IsWellFormed p
    → IsRaceFree (serial_columns p) (serial_accesses p) → Run p limit events s → AreBeginnings p s.frames
run_is_beginning proper free EmptyRun = λ i f e. absurd (cc)
run_is_beginning {p} {limit} proper free (RunThen {s = u} r e h) =
    let b = run_is_beginning proper free r in
    beginning_after p limit u e proper free (run_consistent r) (run_traced r) (run_located r)
    (run_agrees r (own_race_free p u proper (run_consistent r) (run_traced r) (run_located r) b free)) h b

-- the law of elisions without a race
pub race_free_elisions_have_race_free_runs : RaceFreeElisionsHaveRaceFreeRuns
race_free_elisions_have_race_free_runs p limit events s r proper free =
    own_race_free p s proper (run_consistent r) (run_traced r) (run_located r) (run_is_beginning proper free r) free

-- the law of the races of finished runs
pub races_are_those_of_the_elision : RacesAreThoseOfTheElision
races_are_those_of_the_elision p limit events s r proper finished = (
  (λ free. (race_free_runs_are_serial p limit events s r proper.closes finished free).free),
  race_free_elisions_have_race_free_runs p limit events s r proper,
)
