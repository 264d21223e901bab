-- A run that is neither finished nor stopped goes on.
use Rattle.std.proofs.Common.{List, Bool, true, length, ◌≡◌, false, ℕ, Some, inl, inr, ℤ, subst, refl, sym, ◌<◌, ◌⊎◌, [], ◌∷◌, arith, zero}
use Rattle.std.proofs.Common.{ap, ◌∙◌, suc, ◌≢◌, ◌++◌}
use Rattle.std.proofs.lemmas.Bool.{false≢true, cases_Bool, cases_lt}
use Rattle.pipe_model.specs.Runs.Allowed.{Allowed, IsRunning, OffersAt, LeftHasPassed, ClosesLoop, ContinuesLoop}
use Rattle.pipe_model.specs.Pipelines.Behaviour.{Behaviour, behaviour_after_all, Offers, Accessed, behaviour_after, Reading, Writing}
use Rattle.pipe_model.specs.Pipelines.Behaviour.{Staging, Ending}
use Rattle.pipe_model.specs.Pipelines.Behaviour.{Staged, node_of, Ended, Action, read_access, write_access, closes_at_once}
use Rattle.pipe_model.specs.Pipelines.Pipeline.{HasLegalStages, Pipeline, IsWellFormed}
use Rattle.pipe_model.specs.Runs.Run.{Run, EmptyRun, RunThen, IsFinished}
use Rattle.pipe_model.specs.declared.status.Status.{Status}
use Rattle.pipe_model.specs.declared.status.Status.TheVariants.{Running, Pending, Completed}
use Rattle.pipe_model.specs.Runs.State.{Frame, frame_at, update_frame, State, next_state, with_action}
use Rattle.pipe_model.specs.Runs.State.{enter_pending, is_completed, trace_in, accesses_of}
use Rattle.pipe_model.specs.Pipelines.Store.{value_after}
use Rattle.pipe_model.specs.declared.event.Event.{Event}
use Rattle.pipe_model.specs.declared.event.Event.TheVariants.{Begin, Access, Advance, Enter, Finish, Stop}
use Rattle.pipe_model.specs.declared.node.Kind.{Kind}
use Rattle.pipe_model.specs.declared.node.Node.{Node}
use Rattle.run_laws.proofs.Iterations.PerformedActions.{behaviour_after_all-push}
use Rattle.run_laws.proofs.RunStates.Completed.{AllCompleted, completed_passes, none_alive}
use Rattle.run_laws.proofs.RunStates.FrameMoves.{last_node, frame_at_moved, frame_at_begun, enter_pending_is, last_node-push}
use Rattle.run_laws.proofs.RunStates.FrameTraces.{action_offered}
use Rattle.run_laws.proofs.RunStates.Frames.{frame_at_exists}
use Rattle.run_laws.proofs.RunStates.RunInvariant.{IsConsistent, run_consistent}
use Rattle.run_laws.specs.RunLaws.{RunsNeverStick}

-- what is left to do in an iteration is legal
abbrev pub LegalNow : Status → List Node → Behaviour → Type 0
LegalNow Running nodes d =
    (first : Bool) × (first ≡ true → length nodes ≡ 1) × HasLegalStages first (last_node nodes).number d
LegalNow (Pending k n) nodes d = HasLegalStages false n d
LegalNow (Completed e) nodes d = Unit {0}

-- what is left to do in every iteration is legal
abbrev pub AllLegal : Pipeline → List Frame → Type 0
AllLegal p fs =
    (i : ℕ) (f : Frame) → frame_at fs i ≡ Some f
    → LegalNow f.status f.nodes (behaviour_after_all (p.behaviour i) f.trace)

-- it stays legal if it does in the iteration that an event changes
legal_moved : (p : Pipeline) (fs : List Frame) (i : ℕ) (f : Frame) (u : Frame → Frame) → AllLegal p fs
    → frame_at fs i ≡ Some f → LegalNow (u f).status (u f).nodes (behaviour_after_all (p.behaviour i) (u f).trace)
    → AllLegal p (update_frame fs i u)
legal_moved p fs i f u all e t = λ j h c. elim (frame_at_moved fs i j f u h e c) [
  | inl here ↦ rw (here.0, here.1) t
  | inr there ↦ all j h there.1
]

-- what is left after an access is legal
legal_accessed : (first : Bool) (n : ℤ) (d : Behaviour) (a : _) → HasLegalStages first n d → Offers d (Accessed a)
    → HasLegalStages first n (behaviour_after d (Accessed a))
legal_accessed first n (Reading c go) a l o = l a.value
legal_accessed first n (Writing c v d) a l o = l
legal_accessed first n (Staging k m d) a l o = absurd (cc)
legal_accessed first n (Ending e) a l o = absurd (cc)

-- what is left after a next stage is legal
legal_staged : (first : Bool) (n : ℤ) (d : Behaviour) (k : Kind) (m : ℤ) → HasLegalStages first n d
    → Offers d (Staged k m) → HasLegalStages false m (behaviour_after d (Staged k m))
legal_staged first n (Reading c go) k m l o = absurd (let q = o.1 in cc)
legal_staged first n (Writing c v d) k m l o = absurd (cc)
legal_staged first n (Staging j o' d) k m l o =
    let same : o' ≡ m = cc in
    subst (λ x. HasLegalStages false x d) same l.1.1
legal_staged first n (Ending e) k m l o = absurd (cc)

-- it stays legal after every event
legal_after : (p : Pipeline) (limit : ℕ) (s : State) (e : Event) → IsWellFormed p → Allowed p limit s e
    → AllLegal p s.frames → AllLegal p (next_state s e).frames
legal_after p limit s (Begin i) proper h all = λ j f c. elim (frame_at_begun s.frames j f c) [
  | inl new ↦ rw new.1 (true, (λ t. refl), proper.legal j)
  | inr old ↦ all j f old.1
]
legal_after p limit s (Access i a) proper h all =
    let r = h.control in
    let f = r.frame in
    let o = action_offered p s i f (Accessed a) r.is h.program.0 in
    let l : LegalNow Running f.nodes (behaviour_after_all (p.behaviour i) f.trace) =
    subst (λ w. LegalNow w f.nodes (behaviour_after_all (p.behaviour i) f.trace)) r.runs (all i f r.is) in
    legal_moved p s.frames i f (with_action (Accessed a) Running) all r.is (
      l.0,
      l.1,
      subst (λ d. HasLegalStages l.0 (last_node f.nodes).number d)
          (sym (behaviour_after_all-push (p.behaviour i) f.trace (Accessed a)))
          (legal_accessed l.0 (last_node f.nodes).number (behaviour_after_all (p.behaviour i) f.trace) a l.2 o),
    )
legal_after p limit s (Advance i k n) proper h all =
    let r = h.control.running in
    let f = r.frame in
    let o = action_offered p s i f (Staged k n) r.is h.program in
    let l : LegalNow Running f.nodes (behaviour_after_all (p.behaviour i) f.trace) =
    subst (λ w. LegalNow w f.nodes (behaviour_after_all (p.behaviour i) f.trace)) r.runs (all i f r.is) in
    legal_moved p s.frames i f (with_action (Staged k n) (Pending k n)) all r.is
    (subst (λ d. HasLegalStages false n d) (sym (behaviour_after_all-push (p.behaviour i) f.trace (Staged k n)))
    (legal_staged l.0 (last_node f.nodes).number (behaviour_after_all (p.behaviour i) f.trace) k n l.2 o))
legal_after p limit s (Enter i) proper h all =
    let m = h.control in
    let f = m.frame in
    let l : HasLegalStages false m.number (behaviour_after_all (p.behaviour i) f.trace) =
    subst (λ w. LegalNow w f.nodes (behaviour_after_all (p.behaviour i) f.trace)) m.named (all i f m.is) in
    legal_moved p s.frames i f (λ g. enter_pending g.status g) all m.is
    (rw (enter_pending_is f m.kind m.number m.named)
    (false, (λ t. absurd (false≢true t)), rw (last_node-push f.nodes (node_of m.kind m.number)) l))
legal_after p limit s (Finish i e) proper h all =
    let r = h.control.running in
    legal_moved p s.frames i r.frame (with_action (Ended e) (Completed e)) all r.is tt
legal_after p limit s Stop proper h all = all

-- in every run what is left to do is legal
pub run_legal : {p : Pipeline} {limit : ℕ} {events : List Event} {s : State} → IsWellFormed p → Run p limit events s
    → AllLegal p s.frames
run_legal proper EmptyRun = λ i f e. absurd (cc)
run_legal {p} {limit} proper (RunThen {s = t} r e h) = legal_after p limit t e proper h (run_legal proper r)

-- the first iteration that has not ended
record FirstAlive (fs : List Frame) : Type 0 where
  place : ℕ
  frame : Frame
  is : frame_at fs place ≡ Some frame
  alive : is_completed frame.status ≡ false
  before : (j : ℕ) (g : Frame) → j < place → frame_at fs j ≡ Some g → is_completed g.status ≡ true

-- all have ended, or there is a first that has not
first_alive : (fs : List Frame) → AllCompleted fs ⊎ FirstAlive fs
first_alive [] = inl (λ i f e. absurd (cc))
first_alive (x ∷ fs) = elim (cases_Bool (is_completed x.status)) [
  | inl over ↦ elim (first_alive fs) [ inl all ↦ inl (with_head over all) | inr h ↦ inr (after_head over h) ]
  | inr free ↦ inr (record {
    place = 0;
    frame = x;
    is = refl;
    alive = free;
    before = λ j g l e. absurd (omega (arith, l));
  })
]
  where
    with_head : is_completed x.status ≡ true → AllCompleted fs → AllCompleted (x ∷ fs)
    with_head over all zero f e = let same : x ≡ f = cc in ap (λ (h : Frame). is_completed h.status) (sym same) ∙ over
    with_head over all (suc i) f e = all i f e

    before_head : is_completed x.status ≡ true → (h : FirstAlive fs) → (j : ℕ) (g : Frame) → j < suc h.place
        → frame_at (x ∷ fs) j ≡ Some g → is_completed g.status ≡ true
    before_head over h zero g l e =
        let same : x ≡ g = cc in
        ap (λ (y : Frame). is_completed y.status) (sym same) ∙ over
    before_head over h (suc j) g l e = h.before j g (omega (arith, l)) e

    after_head : is_completed x.status ≡ true → FirstAlive fs → FirstAlive (x ∷ fs)
    after_head over h = record {
      place = suc h.place;
      frame = h.frame;
      is = h.is;
      alive = h.alive;
      before = before_head over h;
    }

-- an event other than a stop is allowed
abbrev GoesOn : Pipeline → ℕ → State → Type 0
GoesOn p limit s = (e : Event) × (e ≢ Stop) × Allowed p limit s e

-- the program offers what the behaviour offers
pub offered_by : (p : Pipeline) (s : State) (i : ℕ) (r : IsRunning s i) (x : Action) (d : Behaviour)
    → behaviour_after_all (p.behaviour i) r.frame.trace ≡ d → Offers d x → OffersAt p s i x
offered_by p s i r x d e o =
    subst (λ (h : List Action). Offers (behaviour_after_all (p.behaviour i) h) x) (sym (ap trace_in r.is))
    (subst (λ c. Offers c x) (sym e) o)

-- the running instance makes its next action
running_goes_on : (p : Pipeline) (limit : ℕ) (s : State) (i : ℕ) (d : Behaviour) → s.stopped ≡ false
    → (r : IsRunning s i) → behaviour_after_all (p.behaviour i) r.frame.trace ≡ d → (first : Bool)
    → (first ≡ true → length r.frame.nodes ≡ 1) → HasLegalStages first (last_node r.frame.nodes).number d
    → GoesOn p limit s
running_goes_on p limit s i (Reading c go) going r e first one l =
    let v = value_after p.store (p.preamble ++ accesses_of s.accesses) c in (
      Access i (read_access c v),
      (λ q. cc),
      record {
        going = going;
        control = r;
        program = (offered_by p s i r (Accessed (read_access c v)) (Reading c go) e (v, refl), λ q. refl);
      },
    )
running_goes_on p limit s i (Writing c v d) going r e first one l = (
  Access i (write_access c v),
  (λ q. cc),
  record {
    going = going;
    control = r;
    program = (offered_by p s i r (Accessed (write_access c v)) (Writing c v d) e refl, λ q. absurd (cc));
  },
)
running_goes_on p limit s i (Staging k n d) going r e first one l = (
  Advance i k n,
  (λ q. cc),
  record {
    going = going;
    control = record { running = r; kind = l.0; above = l.1.0 };
    program = offered_by p s i r (Staged k n) (Staging k n d) e refl;
  },
)
running_goes_on p limit s i (Ending f) going r e first one l = (
  Finish i f,
  (λ q. cc),
  record {
    going = going;
    control = record { running = r; first = λ q. one (l q) };
    program = offered_by p s i r (Ended f) (Ending f) e refl;
  },
)

-- an iteration that has ended has passed every number
earlier_have_passed : (s : State) (i : ℕ) (n : ℤ)
    → ((j : ℕ) (g : Frame) → j < i → frame_at s.frames j ≡ Some g → is_completed g.status ≡ true)
    → LeftHasPassed s.frames i n
earlier_have_passed s zero n h = tt
earlier_have_passed s (suc j) n h = λ g e. completed_passes g.status g.nodes n (h j g (omega arith) e)

-- the first iteration that has not ended goes on
alive_goes_on : (p : Pipeline) (limit : ℕ) (s : State) → AllLegal p s.frames → s.stopped ≡ false
    → (h : FirstAlive s.frames) → (w : Status) → h.frame.status ≡ w → GoesOn p limit s
alive_goes_on p limit s run_legal going h Running e =
    let l : LegalNow Running h.frame.nodes (behaviour_after_all (p.behaviour h.place) h.frame.trace) =
    subst (λ w. LegalNow w h.frame.nodes (behaviour_after_all (p.behaviour h.place) h.frame.trace)) e
    (run_legal h.place h.frame h.is) in
    running_goes_on p limit s h.place (behaviour_after_all (p.behaviour h.place) h.frame.trace) going
    (record { frame = h.frame; is = h.is; runs = e }) refl l.0 l.1 l.2
alive_goes_on p limit s run_legal going h (Pending k n) e = (
  Enter h.place,
  (λ q. cc),
  record {
    going = going;
    control = record {
      frame = h.frame;
      kind = k;
      number = n;
      is = h.is;
      named = e;
      free = λ w. earlier_have_passed s h.place n h.before;
    };
    program = tt;
  },
)
alive_goes_on p limit s run_legal going h (Completed d) e = absurd (false≢true (sym h.alive ∙ ap is_completed e))

-- an iteration that has ended has closed the loop, or the loop goes on
closed_or_continues : (w : Status) (nodes : List Node) → is_completed w ≡ true → 0 < length nodes
    → ClosesLoop w nodes ⊎ ContinuesLoop w nodes
closed_or_continues Running nodes o l = absurd (false≢true o)
closed_or_continues (Pending k n) nodes o l = absurd (false≢true o)
closed_or_continues (Completed e) nodes o l = elim (cases_Bool (closes_at_once e)) [
  | inl shut ↦ elim (cases_lt 1 (length nodes)) [
    | inl more ↦ inr (λ q. more)
    | inr one ↦ inl (shut, omega (arith, one, l))
  ]
  | inr free ↦ inr (λ q. absurd (false≢true (sym free ∙ q)))
]

-- if all have ended, the run is finished, or the next iteration begins
completed_goes_on : (p : Pipeline) (limit : ℕ) (s : State) → IsConsistent s → 0 < limit → s.stopped ≡ false
    → AllCompleted s.frames → (n : ℕ) → length s.frames ≡ n → IsFinished s ⊎ GoesOn p limit s
completed_goes_on p limit s k room going all zero e =
    let none = none_alive s.frames all in
    inr (
      Begin 0,
      (λ q. cc),
      record {
        going = going;
        control = record { number = sym e; room = omega (arith, none, room); follows = λ j f q is. absurd (cc) };
        program = tt;
      },
    )
completed_goes_on p limit s k room going all (suc n) e =
    let none = none_alive s.frames all in
    let f = frame_at_exists s.frames n (omega (arith, e)) in
    elim (closed_or_continues f.0.status f.0.nodes (all n f.0 f.1) (k.sound.well n f.0 f.1).filled) [
      | inl shut ↦ inl (record { over = all; shut = record { iteration = n; frame = f.0; is = f.1; closes = shut }; going = going })
      | inr on ↦ inr (
        Begin (suc n),
        (λ q. cc),
        record {
          going = going;
          control = record {
            number = sym e;
            room = omega (arith, none, room);
            follows = λ j g q is.
                let same : n ≡ j = omega (arith, q) in
                let a : frame_at s.frames j ≡ Some f.0 = subst (λ m. frame_at s.frames m ≡ Some f.0) same f.1 in
                let equal : f.0 ≡ g = cc in
                subst (λ (h : Frame). ContinuesLoop h.status h.nodes) equal on;
          };
          program = tt;
        },
      )
    ]

-- the law of progress
pub runs_never_stick : RunsNeverStick
runs_never_stick p limit events s r proper room going = elim (first_alive s.frames) [
  | inl all ↦ completed_goes_on p limit s (run_consistent r) room going all (length s.frames) refl
  | inr h ↦ inr (alive_goes_on p limit s (run_legal proper r) going h h.frame.status refl)
]
