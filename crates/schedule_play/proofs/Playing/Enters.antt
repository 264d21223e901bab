-- The entering of a stage in a run that is played.
use Rattle.std.proofs.Common.{Bool, true, false, ◌⊎◌, ◌≡◌, ◌∙◌, ap, sym, subst, refl, ℕ, ℤ, ◌<◌, arith, inl, inr, List, [], ◌∷◌, ◌++◌}
use Rattle.std.proofs.Common.{length, set, Option, Some, None}
use Rattle.std.proofs.lemmas.List.{get_or-set_other, get_or-set_same, length-set}
use Rattle.pipe_frame.specs.Replies.{after_instances, replies_of}
use Rattle.pipe_frame.specs.TokenFields.{TokenFields}
use Rattle.pipe_model.specs.declared.event.Event.{Event}
use Rattle.pipe_model.specs.declared.event.Event.TheVariants.{Enter}
use Rattle.pipe_model.specs.declared.node.Kind.{Kind}
use Rattle.pipe_model.specs.declared.status.Status.{Status}
use Rattle.pipe_model.specs.declared.status.Status.TheVariants.{Running, Pending, Completed}
use Rattle.pipe_model.specs.declared.ticket.BookEntry.{BookEntry}
use Rattle.pipe_model.specs.Language.SyntaxTree.{SyntaxTree, tree_of}
use Rattle.pipe_model.specs.Pipelines.Behaviour.{behaviour_after_all}
use Rattle.pipe_model.specs.Pipelines.Pipeline.{Pipeline}
use Rattle.pipe_model.specs.Runs.Allowed.{Allowed, IsRunning, MayEnter}
use Rattle.pipe_model.specs.Runs.NextEvents.{event_if, event_of_frame, event_of_status, may_enter, next_event}
use Rattle.pipe_model.specs.Runs.State.{Frame, State, enter_pending, frame_at, next_state, update_frame}
use Rattle.frame_book.specs.BookStates.{TokenState, Out, Spent, events_of, item_or, left_of, pipeline_in, replies_at, state_of, with_events}
use Rattle.frame_book.specs.CallEffects.{kept_now, with_entered}
use Rattle.frame_book.specs.GivenTokens.{IsOutOf}
use Rattle.frame_book.proofs.BookLogs.LogEntries.{events_of_with}
use Rattle.schedule_laws.proofs.AllowedEvents.{allowed_events_are_next}
use Rattle.run_laws.proofs.RunStates.FrameMoves.{enter_pending_is, entered_frame, frame_at_moved}
use Rattle.run_laws.proofs.RunStates.Frames.{frame_at_within, length-update_frame}
use Rattle.stage_code.specs.FlatCode.{FlatCode}
use Rattle.schedule_play.specs.RunningIterations.{RunningIterationState, IsRunningIteration}
use Rattle.stage_interp.specs.MachineState.{MachineState}
use Rattle.schedule_play.specs.Runners.{IsAtInstance}
use Rattle.schedule_play.specs.PlayStates.{FitsStatus, IsPlay, IsRunningAt, PlayState, pipeline_played, run_state}
use Rattle.schedule_play.specs.ScheduleStates.{IsScheduleOf, ScheduleState}
use Rattle.schedule_play.proofs.Playing.Steps.{agrees, fits_still, logged, played_on, same_control}

module _ (code : FlatCode) (cells : ℕ) (v : PlayState) (h : IsPlay code cells v) where
  abbrev p : Pipeline
  p = pipeline_played v

  abbrev s : State
  s = run_state v

  abbrev limit : ℕ
  limit = v.book.limit

  module _ (i : ℕ) (f : Frame) (is : frame_at s.frames i ≡ Some f) (kind : Kind) (n : ℤ) (named : f.status ≡ Pending kind n)
      (next : next_event p s i ≡ Some (Enter i)) (k : RunningIterationState) (iteration : k.token.iteration ≡ i)
      (out : IsOutOf (with_entered v.book i) k.token)
      (instance : IsRunningIteration code cells (tree_of v.book.program) v.book.input (replies_at v.book i) k) (empty : k.trace ≡ []) where
    abbrev u : Frame → Frame
    u = λ g. enter_pending g.status g

    abbrev log : List BookEntry
    log = with_events v.book.log (kept_now (item_or Spent v.book.tokens i)) (Enter i ∷ [])

    abbrev tokens : List TokenState
    tokens = set v.book.tokens i Out

    pub enter_allowed : Allowed p limit s (Enter i)
    enter_allowed = (allowed_events_are_next p limit v.events s (Enter i) h.run h.proper h.going (λ q. absurd (cc))).1 (inl (i, next))

    log_is : events_of log ≡ events_of v.book.log ++ Enter i ∷ []
    log_is = events_of_with v.book.log (kept_now (item_or Spent v.book.tokens i)) (Enter i)

    entered : u f ≡ entered_frame kind n f
    entered = enter_pending_is f kind n named

    left : behaviour_after_all ((pipeline_in v.book).behaviour i) f.trace ≡ left_of v.book i
    left = (subst (λ w. FitsStatus code cells v.book i w f.trace (item_or None v.running i)) named (h.running.each i f is)).1

    here : IsRunningAt code cells (with_entered v.book i) i f.trace k
    here = record {
      iteration = iteration;
      out = out;
      instance = instance;
      left = left ∙ sym (ap (λ l. behaviour_after_all (left_of v.book i) (Rattle.pipe_frame.specs.Replies.accessed l)) empty);
    }

    each : (j : ℕ) (g : Frame) → frame_at (update_frame s.frames i u) j ≡ Some g
        → FitsStatus code cells (with_entered v.book i) j g.status g.trace (item_or None (set v.running i (Some k)) j)
    each j g at = elim (frame_at_moved s.frames i j f u g is at) [
      | inl same ↦ (
          let inside : i < length v.running = (let a = frame_at_within s.frames i f is in let b = h.running.count in omega (arith, a, b)) in
          let slot : item_or None (set v.running i (Some k)) i ≡ Some k = get_or-set_same v.running i (Some k) None inside in
          subst (λ m. FitsStatus code cells (with_entered v.book i) m g.status g.trace (item_or None (set v.running i (Some k)) m))
          (sym same.0)
          (subst (λ (y : Frame). FitsStatus code cells (with_entered v.book i) i y.status y.trace
          (item_or None (set v.running i (Some k)) i)) (sym (same.1 ∙ entered))
          (subst (FitsStatus code cells (with_entered v.book i) i Running f.trace) (sym slot) here)))
      | inr other ↦ (
          let slot : item_or None (set v.running i (Some k)) j ≡ item_or None v.running j =
          get_or-set_other v.running i j (Some k) None other.0 in
          subst (FitsStatus code cells (with_entered v.book i) j g.status g.trace) (sym slot)
          (fits_still code cells v h (Enter i) log v.book.traces tokens enter_allowed.control refl log_is j tt
          (get_or-set_other v.book.tokens i j Out Spent other.0) refl g.status g.trace (item_or None v.running j)
          (h.running.each j g other.1)))
    ]

    pub entered_on : (schedule : ScheduleState) → IsScheduleOf (next_state s (Enter i)) schedule → schedule.limit ≡ limit
        → IsPlay code cells (record v {
          book = with_entered v.book i;
          schedule = schedule;
          running = set v.running i (Some k);
          events =
              v.events ++ Enter i ∷ [];
        })
    entered_on schedule scheduled limited =
        let long = length-update_frame s.frames i u in
        played_on code cells v h (Enter i) enter_allowed h.going log v.book.traces tokens schedule
        (set v.running i (Some k)) v.cells
        (logged code cells v h (Enter i) log refl log_is) scheduled limited
        (record {
          count = length-set v.running i (Some k) ∙ h.running.count ∙ sym long;
          traces = h.running.traces ∙ sym long;
          tokens = length-set v.book.tokens i Out ∙ h.running.tokens ∙ sym long;
          each = each;
        })
        h.state h.all h.count

-- ---- the results of the player's calls

-- an iteration with a next event has begun
pub frame_of_next : (p : Pipeline) (s : State) (i : ℕ) (e : Event) → next_event p s i ≡ Some e
    → (f : Frame) × (frame_at s.frames i ≡ Some f)
frame_of_next p s i e next = by (frame_at s.frames i) refl next
  where
    by : (o : Option Frame) → frame_at s.frames i ≡ o → event_of_frame p s i o ≡ Some e → (f : Frame) × (frame_at s.frames i ≡ Some f)
    by None is q = absurd (cc)
    by (Some f) is q = (f, is)

-- without a running instance it is the entering of a stage
pub enters_next : (code : FlatCode) (cells : ℕ) (v : PlayState) → IsPlay code cells v → (i : ℕ) → item_or None v.running i ≡ None
    → (e : Event)
    → next_event (pipeline_played v) (run_state v) i ≡ Some e → next_event (pipeline_played v) (run_state v) i ≡ Some (Enter i)
enters_next code cells v h i none e next =
    let f = frame_of_next (pipeline_played v) (run_state v) i e next in
    next ∙ ap Some (by f.0 f.1 f.0.status refl (h.running.each i f.0 f.1)
    (sym (ap (event_of_frame (pipeline_played v) (run_state v) i) f.1) ∙ next))
  where
    by : (f : Frame) → frame_at (run_state v).frames i ≡ Some f → (w : Status) → f.status ≡ w
        → FitsStatus code cells v.book i w f.trace (item_or None v.running i)
        → event_of_status (pipeline_played v) (run_state v) i w f.trace ≡ Some e → e ≡ Enter i
    by f is Running at fit q = absurd (subst (FitsStatus code cells v.book i Running f.trace) none fit)
    by f is (Pending kind n) at fit q = by_test (may_enter (run_state v).frames i kind n) q
      where
        by_test : (b : Bool) → event_if b (Enter i) ≡ Some e → e ≡ Enter i
        by_test true q = cc
        by_test false q = absurd (cc)
    by f is (Completed x) at fit q = absurd (cc)

-- an iteration whose instance is kept runs
pub runs_by_slot : (code : FlatCode) (cells : ℕ) (v : PlayState) → IsPlay code cells v → (i : ℕ) (k : RunningIterationState)
    → item_or None v.running i ≡ Some k → (e : Event)
    → next_event (pipeline_played v) (run_state v) i ≡ Some e → IsRunning (run_state v) i
runs_by_slot code cells v h i k some e next =
    let f = frame_of_next (pipeline_played v) (run_state v) i e next in
    by f.0 f.1 f.0.status refl (h.running.each i f.0 f.1)
  where
    by : (f : Frame) → frame_at (run_state v).frames i ≡ Some f → (w : Status) → f.status ≡ w
        → FitsStatus code cells v.book i w f.trace (item_or None v.running i)
        → IsRunning (run_state v) i
    by f is Running at fit = record { frame = f; is = is; runs = at }
    by f is (Pending kind n) at fit = absurd (let q : Some k ≡ None = sym some ∙ fit.0 in cc)
    by f is (Completed x) at fit = absurd (let q : Some k ≡ None = sym some ∙ fit in cc)

-- the book enters the stage
pub enter_possible : (code : FlatCode) (cells : ℕ) (v : PlayState) (h : IsPlay code cells v) (i : ℕ)
    → next_event (pipeline_played v) (run_state v) i ≡ Some (Enter i)
    → ((state_of v.book).stopped ≡ true) ⊎ (MayEnter (state_of v.book) i → ⊥) → ⊥
enter_possible code cells v h i next returned =
    let allowed = (allowed_events_are_next (pipeline_played v) v.book.limit v.events (run_state v) (Enter i) h.run h.proper h.going
    (λ q. absurd (cc))).1 (inl (i, next)) in
    elim returned [
      | inl stopped ↦ (let q : true ≡ false = sym stopped ∙ (sym (same_control code cells v h).stopped ∙ h.going) in absurd (cc))
      | inr never ↦ never (((agrees code cells v h).allow (Enter i)).0 allowed.control)
    ]

-- the play goes on with the event
pub entered_made : (code : FlatCode) (cells : ℕ) (v : PlayState) (h : IsPlay code cells v) (i : ℕ)
    → next_event (pipeline_played v) (run_state v) i ≡ Some (Enter i)
    → (t : TokenFields) → t.iteration ≡ i → IsOutOf (with_entered v.book t.iteration) t → (machine : MachineState)
    → IsAtInstance code cells (tree_of v.book.program) v.book.input machine t.iteration (replies_at v.book t.iteration)
    → (k : RunningIterationState) → k.token ≡ t → k.trace ≡ [] → (input : List ℤ) → input ≡ v.book.input
    → ((tree : SyntaxTree) (replies : List (List ℤ)) → IsAtInstance code cells tree input machine t.iteration replies
    → IsRunningIteration code cells tree input replies k)
    → (schedule : ScheduleState) → ((s : State) → IsScheduleOf s v.schedule → MayEnter s i → IsScheduleOf (next_state s (Enter i)) schedule)
    → schedule.limit ≡ v.schedule.limit
    → IsPlay code cells (record v {
      book = with_entered v.book t.iteration;
      schedule = schedule;
      running =
          set v.running i (Some k);
      events = v.events ++ Enter i ∷ [];
    })
entered_made code cells v h i next t iteration out machine ready k fields empty input same instance schedule scheduled limited =
    let allowed = (allowed_events_are_next (pipeline_played v) v.book.limit v.events (run_state v) (Enter i) h.run h.proper h.going
    (λ q. absurd (cc))).1 (inl (i, next)) in
    let may : MayEnter (run_state v) i = allowed.control in
    let tree = tree_of v.book.program in
    let there : IsRunningIteration code cells tree input (replies_at v.book t.iteration) k =
    instance tree (replies_at v.book t.iteration) (subst (λ l. IsAtInstance code cells tree l machine t.iteration
    (replies_at v.book t.iteration)) (sym same) ready) in
    let here : IsRunningIteration code cells tree v.book.input (replies_at v.book i) k =
    subst (λ l. IsRunningIteration code cells tree l (replies_at v.book i) k) same
    (subst (λ j. IsRunningIteration code cells tree input (replies_at v.book j) k) iteration there) in
    let gone : IsOutOf (with_entered v.book i) k.token =
    subst (IsOutOf (with_entered v.book i)) (sym fields) (subst (λ j. IsOutOf (with_entered v.book j) t) iteration out) in
    subst (λ j. IsPlay code cells (record v {
      book = with_entered v.book j;
      schedule = schedule;
      running =
          set v.running i (Some k);
      events = v.events ++ Enter i ∷ [];
    })) (sym iteration)
    (entered_on code cells v h i may.frame may.is may.kind may.number may.named next k
    (ap (λ (x : TokenFields). x.iteration) fields ∙ iteration) gone here empty
    schedule (scheduled (run_state v) h.schedule may) (limited ∙ h.limit))
