-- One event of the serial elision, with all iterations before the last ended.
use Rattle.std.proofs.Common.{List, false, [], ◌∷◌, ◌++◌, length, ◌≡◌, refl, ap, ℕ, ◌<◌, arith, zero, suc, subst, sym, ◌-◌, ◌∙◌, ℤ, ◌≢◌}
use Rattle.std.proofs.Common.{◌<ℤ◌, Some, ◌⊎◌, inl, inr}
use Rattle.std.proofs.lemmas.Bool.{cases_lt}
use Rattle.std.proofs.lemmas.List.{length_push}
use Rattle.pipe_model.specs.Runs.Allowed.{IsRunning, OffersAt, Allowed, LeftHasPassed, ContinuesLoop}
use Rattle.pipe_model.specs.Pipelines.Behaviour.{Action, Offers, behaviour_after_all, Accessed, Staged, Ended}
use Rattle.pipe_model.specs.Races.Columns.{at}
use Rattle.pipe_model.specs.Pipelines.Pipeline.{Pipeline}
use Rattle.pipe_model.specs.Runs.Run.{Run, RunThen}
use Rattle.pipe_model.specs.declared.status.Status.TheVariants.{Running}
use Rattle.pipe_model.specs.Runs.State.{Frame, State, update_frame, frame_at, trace_in, next_state, accesses_of, with_action}
use Rattle.pipe_model.specs.declared.status.Status.TheVariants.{Pending, Completed}
use Rattle.pipe_model.specs.Runs.State.{current_index, enter_pending, fresh_frame, is_completed}
use Rattle.pipe_model.specs.Pipelines.Store.{HasReply}
use Rattle.pipe_model.specs.declared.access.Access.{Access as Cell_access}
use Rattle.pipe_model.specs.declared.access.NodeAccess.{NodeAccess}
use Rattle.pipe_model.specs.declared.column.ColumnEnd.{ColumnEnd}
use Rattle.pipe_model.specs.declared.column.ColumnEnd.TheVariants as ends
use Rattle.pipe_model.specs.declared.event.Event.{Event}
use Rattle.pipe_model.specs.declared.event.Event.TheVariants.{Access, Advance, Finish, Enter, Begin}
use Rattle.pipe_model.specs.declared.node.Kind.{Kind}
use Rattle.pipe_model.specs.declared.node.Kind.TheVariants.{Zero}
use Rattle.run_laws.proofs.RunStates.Completed.{AllCompleted, completed_passes, none_alive}
use Rattle.run_laws.proofs.RunStates.FrameMoves.{last_node, entered_frame, enter_pending_is}
use Rattle.run_laws.proofs.RunStates.Frames.{frame_at_last, frame_at_within}

-- iterations that have ended, and one more
abbrev pub state_with_last : List Frame → Frame → List NodeAccess → State
state_with_last fs f accesses = record { frames = fs ++ f ∷ []; accesses = accesses; stopped = false }

-- an update of the last frame
update_frame-last : (fs : List Frame) (f : Frame) (u : Frame → Frame)
    → update_frame (fs ++ f ∷ []) (length fs) u ≡ fs ++ u f ∷ []
update_frame-last [] f u = refl
update_frame-last (x ∷ fs) f u = ap (λ l. x ∷ l) (update_frame-last fs f u)

-- the frames before the last
frame_at_before_last : (fs : List Frame) (f : Frame) (i : ℕ) → i < length fs
    → frame_at (fs ++ f ∷ []) i ≡ frame_at fs i
frame_at_before_last [] f i l = absurd (omega (arith, l))
frame_at_before_last (x ∷ fs) f zero l = refl
frame_at_before_last (x ∷ fs) f (suc i) l = frame_at_before_last fs f i (omega (arith, l))

-- the last iteration runs
abbrev running_last : (fs : List Frame) (f : Frame) (accesses : List NodeAccess) → f.status ≡ Running
    → IsRunning (state_with_last fs f accesses) (length fs)
running_last fs f accesses e = record { frame = f; is = frame_at_last fs f; runs = e }

-- the program offers what its behaviour offers
offered_last : (p : Pipeline) (fs : List Frame) (f : Frame) (accesses : List NodeAccess) (x : Action)
    → Offers (behaviour_after_all (p.behaviour (length fs)) f.trace) x
    → OffersAt p (state_with_last fs f accesses) (length fs) x
offered_last p fs f accesses x o =
    subst (λ (h : List Action). Offers (behaviour_after_all (p.behaviour (length fs)) h) x)
    (sym (ap trace_in (frame_at_last fs f))) o

-- a run goes on with an event
then_event : {p : Pipeline} {limit : ℕ} {events : List Event} {s : State} (t : State) → Run p limit events s
    → (e : Event) → Allowed p limit s e → next_state s e ≡ t → Run p limit (events ++ e ∷ []) t
then_event {p} {limit} {events} t r e h same = subst (λ u. Run p limit (events ++ e ∷ []) u) same (RunThen r e h)

-- states with equal frames are equal
state_with_frames : (fs gs : List Frame) (accesses : List NodeAccess) → fs ≡ gs
    → (let s : State = record { frames = fs; accesses = accesses; stopped = false } in s)
    ≡ (let s : State = record { frames = gs; accesses = accesses; stopped = false } in s)
state_with_frames fs gs accesses e =
    ap (λ (l : List Frame). let s : State = record { frames = l; accesses = accesses; stopped = false } in s) e

-- the last iteration makes an access
pub then_access : {p : Pipeline} {limit : ℕ} {events : List Event} (fs : List Frame) (f : Frame)
    (accesses : List NodeAccess) (a : Cell_access)
    → Run p limit events (state_with_last fs f accesses) → f.status ≡ Running
    → Offers (behaviour_after_all (p.behaviour (length fs)) f.trace) (Accessed a)
    → HasReply p.store (p.preamble ++ accesses_of accesses) a
    → Run p limit (events ++ Access (length fs) a ∷ [])
    (state_with_last fs (with_action (Accessed a) Running f)
    (accesses ++ record { node = at (length fs) (length f.nodes - 1); access = a } ∷ []))
then_access {p} fs f accesses a r e o reply =
    let index : current_index (frame_at (fs ++ f ∷ []) (length fs)) ≡ length f.nodes - 1 =
    ap current_index (frame_at_last fs f) in
    then_event (state_with_last fs (with_action (Accessed a) Running f)
    (accesses ++ record { node = at (length fs) (length f.nodes - 1); access = a } ∷ [])) r (Access (length fs) a)
    (record {
      going = refl;
      control = running_last fs f accesses e;
      program = (offered_last p fs f accesses (Accessed a) o, reply);
    })
    (state_with_frames (update_frame (fs ++ f ∷ []) (length fs) (with_action (Accessed a) Running))
    (fs ++ with_action (Accessed a) Running f ∷ []) _ (update_frame-last fs f (with_action (Accessed a) Running))
    ∙ ap (λ n. state_with_last fs (with_action (Accessed a) Running f)
    (accesses ++ record { node = at (length fs) n; access = a } ∷ [])) index)

-- the last iteration names a next stage
pub then_advance : {p : Pipeline} {limit : ℕ} {events : List Event} (fs : List Frame) (f : Frame)
    (accesses : List NodeAccess) (k : Kind) (n : ℤ)
    → Run p limit events (state_with_last fs f accesses) → f.status ≡ Running
    → Offers (behaviour_after_all (p.behaviour (length fs)) f.trace) (Staged k n) → k ≢ Zero
    → (last_node f.nodes).number <ℤ n
    → Run p limit (events ++ Advance (length fs) k n ∷ [])
    (state_with_last fs (with_action (Staged k n) (Pending k n) f) accesses)
then_advance {p} fs f accesses k n r e o kind up =
    then_event (state_with_last fs (with_action (Staged k n) (Pending k n) f) accesses) r (Advance (length fs) k n)
    (record {
      going = refl;
      control = record { running = running_last fs f accesses e; kind = kind; above = up };
      program = offered_last p fs f accesses (Staged k n) o;
    })
    (state_with_frames _ _ accesses (update_frame-last fs f (with_action (Staged k n) (Pending k n))))

-- the last iteration ends
pub then_finish : {p : Pipeline} {limit : ℕ} {events : List Event} (fs : List Frame) (f : Frame)
    (accesses : List NodeAccess) (e : ColumnEnd)
    → Run p limit events (state_with_last fs f accesses) → f.status ≡ Running
    → Offers (behaviour_after_all (p.behaviour (length fs)) f.trace) (Ended e)
    → (e ≡ ends.Closed → length f.nodes ≡ 1)
    → Run p limit (events ++ Finish (length fs) e ∷ [])
    (state_with_last fs (with_action (Ended e) (Completed e) f) accesses)
then_finish {p} fs f accesses e r runs o first =
    then_event (state_with_last fs (with_action (Ended e) (Completed e) f) accesses) r (Finish (length fs) e)
    (record {
      going = refl;
      control = record { running = running_last fs f accesses runs; first = first };
      program = offered_last p fs f accesses (Ended e) o;
    })
    (state_with_frames _ _ accesses (update_frame-last fs f (with_action (Ended e) (Completed e))))

-- the iteration before it has passed every number
left_has_passed : (fs : List Frame) (f : Frame) (n : ℤ) (i : ℕ) → AllCompleted fs → i ≡ length fs
    → LeftHasPassed (fs ++ f ∷ []) i n
left_has_passed fs f n zero all e = tt
left_has_passed fs f n (suc j) all e =
    λ g is. completed_passes g.status g.nodes n (all j g (sym (frame_at_before_last fs f j (omega (arith, e))) ∙ is))

-- the last iteration enters the stage that it has named
pub then_enter : {p : Pipeline} {limit : ℕ} {events : List Event} (fs : List Frame) (f : Frame)
    (accesses : List NodeAccess) (k : Kind) (n : ℤ)
    → Run p limit events (state_with_last fs f accesses) → AllCompleted fs → f.status ≡ Pending k n
    → Run p limit (events ++ Enter (length fs) ∷ []) (state_with_last fs (entered_frame k n f) accesses)
then_enter {p} fs f accesses k n r all e =
    then_event (state_with_last fs (entered_frame k n f) accesses) r (Enter (length fs))
    (record {
      going = refl;
      control = record {
        frame = f;
        kind = k;
        number = n;
        is = frame_at_last fs f;
        named = e;
        free = λ w. left_has_passed fs f n (length fs) all refl;
      };
      program = tt;
    })
    (state_with_frames _ _ accesses (update_frame-last fs f (λ g. enter_pending g.status g)
    ∙ ap (λ (g : Frame). fs ++ g ∷ []) (enter_pending_is f k n e)))

-- iterations that have ended, and no others
abbrev pub completed_state : List Frame → List NodeAccess → State
completed_state fs accesses = record { frames = fs; accesses = accesses; stopped = false }

-- the loop goes on after each of them
abbrev pub AllContinueLoop : List Frame → Type 0
AllContinueLoop fs = (i : ℕ) (f : Frame) → frame_at fs i ≡ Some f → ContinuesLoop f.status f.nodes

-- the next iteration begins
pub then_begin : {p : Pipeline} {limit : ℕ} {events : List Event} (fs : List Frame) (accesses : List NodeAccess)
    → 0 < limit → Run p limit events (completed_state fs accesses) → AllCompleted fs → AllContinueLoop fs
    → Run p limit (events ++ Begin (length fs) ∷ []) (state_with_last fs fresh_frame accesses)
then_begin {p} {limit} fs accesses room r all on =
    let none = none_alive fs all in
    RunThen r (Begin (length fs)) (record {
      going = refl;
      control = record { number = refl; room = omega (arith, none, room); follows = λ j f e is. on j f is };
      program = tt;
    })

-- a frame is the last, or before the last
pub frame_at_last_cases : (fs : List Frame) (f : Frame) (j : ℕ) (h : Frame) → frame_at (fs ++ f ∷ []) j ≡ Some h
    → (h ≡ f) ⊎ (frame_at fs j ≡ Some h)
frame_at_last_cases fs f j h e = elim (cases_lt j (length fs)) [
  | inl less ↦ inr (sym (frame_at_before_last fs f j less) ∙ e)
  | inr more ↦ (
      let w = frame_at_within (fs ++ f ∷ []) j h e in
      let wide = length_push fs f in
      let same : j ≡ length fs = omega (arith, w, more, wide) in
      let a = frame_at_last fs f in
      let b : frame_at (fs ++ f ∷ []) (length fs) ≡ Some h = subst (λ n. frame_at (fs ++ f ∷ []) n ≡ Some h) same e in
      inl (cc))
]

-- all have ended, also with one more that has ended
pub completed_push : (fs : List Frame) (f : Frame) (e : ColumnEnd) → AllCompleted fs → f.status ≡ Completed e
    → AllCompleted (fs ++ f ∷ [])
completed_push fs f e all over = λ j h is. elim (frame_at_last_cases fs f j h is) [
  | inl same ↦ ap (λ (g : Frame). is_completed g.status) same ∙ ap is_completed over
  | inr old ↦ all j h old
]
