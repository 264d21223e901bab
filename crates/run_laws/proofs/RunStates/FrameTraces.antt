-- The trace of each frame: it is performed, makes the frame's column, and ends if the frame has ended.
use Rattle.std.proofs.Common.{List, [], ◌∷◌, ℕ, ◌≡◌, ◌++◌, Some, inl, inr, subst, ap, append-nil, ◌∙◌, pos, ℤ, sym, refl, true}
use Rattle.std.proofs.lemmas.Bool.{false≢true}
use Rattle.pipe_model.specs.Runs.Allowed.{OffersAt, IsRunning, MayEnter, Allowed}
use Rattle.pipe_model.specs.Pipelines.Behaviour.{node_of, Action, HasNoEnd, Performs, column_of, Offers, behaviour_after_all, nodes_in}
use Rattle.pipe_model.specs.Pipelines.Behaviour.{Accessed, Staged, Ended}
use Rattle.pipe_model.specs.Pipelines.Pipeline.{Pipeline}
use Rattle.pipe_model.specs.Runs.Run.{Run, EmptyRun, RunThen}
use Rattle.pipe_model.specs.declared.status.Status.{Status}
use Rattle.pipe_model.specs.declared.status.Status.TheVariants.{Running, Pending, Completed}
use Rattle.pipe_model.specs.Runs.State.{Frame, frame_at, update_frame, State, trace_in, next_state}
use Rattle.pipe_model.specs.Runs.State.{with_action, enter_pending, is_completed}
use Rattle.pipe_model.specs.declared.access.Access.{Access as Cell_access}
use Rattle.pipe_model.specs.declared.column.ColumnEnd.{ColumnEnd}
use Rattle.pipe_model.specs.declared.event.Event.{Event}
use Rattle.pipe_model.specs.declared.event.Event.TheVariants.{Access, Advance, Finish, Enter, Begin, Stop}
use Rattle.pipe_model.specs.declared.node.Kind.TheVariants.{Zero}
use Rattle.pipe_model.specs.declared.node.Node.{Node}
use Rattle.run_laws.proofs.Iterations.PerformedActions.{performs_push}
use Rattle.run_laws.proofs.Iterations.TraceParts.{EndsWith, nodes_in-append, no_end_accessed, no_end_staged, ends_with_end}
use Rattle.run_laws.proofs.RunStates.FrameMoves.{frame_at_moved, enter_pending_is, frame_at_begun}

-- the instance that is named but not entered
abbrev pub pending_node : Status → List Node
pending_node Running = []
pending_node (Pending k n) = node_of k n ∷ []
pending_node (Completed e) = []

-- a trace has an end exactly when the iteration has ended
abbrev pub EndsBy : Status → List Action → Type 0
EndsBy Running actions = HasNoEnd actions
EndsBy (Pending k n) actions = HasNoEnd actions
EndsBy (Completed e) actions = EndsWith actions e

-- the trace of an iteration and its frame
pub record IsTraced (p : Pipeline) (i : ℕ) (f : Frame) : Type 0 where
  pub performs : Performs (p.behaviour i) f.trace
  pub nodes : column_of f.trace ≡ f.nodes ++ pending_node f.status
  pub ending : EndsBy f.status f.trace

-- each frame has its trace
abbrev pub AllTraced : Pipeline → List Frame → Type 0
AllTraced p fs = (i : ℕ) (f : Frame) → frame_at fs i ≡ Some f → IsTraced p i f

-- all frames keep their traces if the one that an event changes does
traced_moved : (p : Pipeline) (fs : List Frame) (i : ℕ) (f : Frame) (u : Frame → Frame) → AllTraced p fs
    → frame_at fs i ≡ Some f → IsTraced p i (u f) → AllTraced p (update_frame fs i u)
traced_moved p fs i f u all e t = λ j h c. elim (frame_at_moved fs i j f u h e c) [
  | inl here ↦ rw (here.0, here.1) t
  | inr there ↦ all j h there.1
]

-- the condition of the program part, at the frame
pub action_offered : (p : Pipeline) (s : State) (i : ℕ) (f : Frame) (x : Action) → frame_at s.frames i ≡ Some f
    → OffersAt p s i x → Offers (behaviour_after_all (p.behaviour i) f.trace) x
action_offered p s i f x e o =
    subst (λ (h : List Action). Offers (behaviour_after_all (p.behaviour i) h) x) (ap trace_in e) o

-- a running iteration has no end yet
running_has_no_end : (p : Pipeline) (i : ℕ) (f : Frame) → IsTraced p i f → f.status ≡ Running → HasNoEnd f.trace
running_has_no_end p i f t e = subst (λ w. EndsBy w f.trace) e t.ending

-- the column of a running iteration
pub running_column : (p : Pipeline) (i : ℕ) (f : Frame) → IsTraced p i f → f.status ≡ Running
    → column_of f.trace ≡ f.nodes
running_column p i f t e = t.nodes ∙ ap (λ w. f.nodes ++ pending_node w) e ∙ append-nil f.nodes

-- the column after one more action
column_of-push : (p : Pipeline) (i : ℕ) (f : Frame) (x : Action) → IsTraced p i f → f.status ≡ Running
    → column_of (f.trace ++ x ∷ []) ≡ f.nodes ++ nodes_in (x ∷ [])
column_of-push p i f x t e =
    ap (λ l. node_of Zero (pos 0) ∷ l) (nodes_in-append f.trace (x ∷ []))
    ∙ ap (λ l. l ++ nodes_in (x ∷ [])) (running_column p i f t e)

-- all frames keep their traces after an access
access_traced : (p : Pipeline) (s : State) (i : ℕ) (a : Cell_access) → AllTraced p s.frames → (r : IsRunning s i)
    → OffersAt p s i (Accessed a) → AllTraced p (next_state s (Access i a)).frames
access_traced p s i a all r o =
    let t = all i r.frame r.is in
    traced_moved p s.frames i r.frame (with_action (Accessed a) Running) all r.is (record {
      performs = performs_push (p.behaviour i) r.frame.trace (Accessed a) t.performs
          (action_offered p s i r.frame (Accessed a) r.is o);
      nodes = column_of-push p i r.frame (Accessed a) t r.runs;
      ending = no_end_accessed r.frame.trace a (running_has_no_end p i r.frame t r.runs);
    })

-- all frames keep their traces after a next stage is named
advance_traced : (p : Pipeline) (s : State) (i : ℕ) (k : _) (n : ℤ) → AllTraced p s.frames → (r : IsRunning s i)
    → OffersAt p s i (Staged k n) → AllTraced p (next_state s (Advance i k n)).frames
advance_traced p s i k n all r o =
    let t = all i r.frame r.is in
    traced_moved p s.frames i r.frame (with_action (Staged k n) (Pending k n)) all r.is (record {
      performs = performs_push (p.behaviour i) r.frame.trace (Staged k n) t.performs
          (action_offered p s i r.frame (Staged k n) r.is o);
      nodes = column_of-push p i r.frame (Staged k n) t r.runs;
      ending = no_end_staged r.frame.trace k n (running_has_no_end p i r.frame t r.runs);
    })

-- all frames keep their traces after an end
finish_traced : (p : Pipeline) (s : State) (i : ℕ) (e : ColumnEnd) → AllTraced p s.frames → (r : IsRunning s i)
    → OffersAt p s i (Ended e) → AllTraced p (next_state s (Finish i e)).frames
finish_traced p s i e all r o =
    let t = all i r.frame r.is in
    traced_moved p s.frames i r.frame (with_action (Ended e) (Completed e)) all r.is (record {
      performs = performs_push (p.behaviour i) r.frame.trace (Ended e) t.performs
          (action_offered p s i r.frame (Ended e) r.is o);
      nodes = column_of-push p i r.frame (Ended e) t r.runs;
      ending = ends_with_end r.frame.trace e (running_has_no_end p i r.frame t r.runs);
    })

-- all frames keep their traces after a stage is entered
enter_traced : (p : Pipeline) (s : State) (i : ℕ) → AllTraced p s.frames → MayEnter s i
    → AllTraced p (next_state s (Enter i)).frames
enter_traced p s i all m =
    let t = all i m.frame m.is in
    traced_moved p s.frames i m.frame (λ f. enter_pending f.status f) all m.is
    (rw (enter_pending_is m.frame m.kind m.number m.named) (record {
      performs = t.performs;
      nodes = t.nodes ∙ ap (λ w. m.frame.nodes ++ pending_node w) m.named
          ∙ sym (append-nil (m.frame.nodes ++ node_of m.kind m.number ∷ []));
      ending = subst (λ w. EndsBy w m.frame.trace) m.named t.ending;
    }))

-- all frames keep their traces after an iteration begins
begun_traced : (p : Pipeline) (s : State) (i : ℕ) → AllTraced p s.frames → AllTraced p (next_state s (Begin i)).frames
begun_traced p s i all = λ j f c. elim (frame_at_begun s.frames j f c) [
  | inl new ↦ rw new.1 (record { performs = tt; nodes = refl; ending = tt })
  | inr old ↦ all j f old.1
]

-- all frames keep their traces after every event
traced_after : (p : Pipeline) (limit : ℕ) (s : State) (e : Event) → Allowed p limit s e → AllTraced p s.frames
    → AllTraced p (next_state s e).frames
traced_after p limit s (Begin i) h all = begun_traced p s i all
traced_after p limit s (Access i a) h all = access_traced p s i a all h.control h.program.0
traced_after p limit s (Advance i k n) h all = advance_traced p s i k n all h.control.running h.program
traced_after p limit s (Enter i) h all = enter_traced p s i all h.control
traced_after p limit s (Finish i e) h all = finish_traced p s i e all h.control.running h.program
traced_after p limit s Stop h all = all

-- in every run each frame has its trace
pub run_traced : {p : Pipeline} {limit : ℕ} {events : List Event} {s : State} → Run p limit events s
    → AllTraced p s.frames
run_traced EmptyRun = λ i f e. absurd (cc)
run_traced {p} {limit} (RunThen {s = t} r e h) = traced_after p limit t e h (run_traced r)

-- an iteration that has ended has an end
pub completed_is : (w : Status) → is_completed w ≡ true → (e : ColumnEnd) × (w ≡ Completed e)
completed_is Running h = absurd (false≢true h)
completed_is (Pending k n) h = absurd (false≢true h)
completed_is (Completed e) h = (e, refl)
