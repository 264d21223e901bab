-- The end of an instance in a run that is played.
use Rattle.std.proofs.Common.{◌≡◌, ◌≢◌, ◌∙◌, ap, sym, subst, refl, ℕ, ℤ, ◌+◌, ◌<◌, arith, inl, inr, List, [], ◌∷◌, ◌++◌, true, false}
use Rattle.std.proofs.Common.{length, map, max, set, Option, Some, None}
use Rattle.std.proofs.lemmas.List.{get_or-set_other, get_or-set_same, length-set, map-append}
use Rattle.cell_store.specs.ShardState.{IsStateAfter}
use Rattle.pipe_frame.specs.CallResults.{NameReturns}
use Rattle.pipe_frame.specs.declared.results.Named.{Named}
use Rattle.pipe_frame.specs.declared.results.Named.TheVariants as named
use Rattle.pipe_frame.specs.Replies.{accessed, after_instances, replies_of}
use Rattle.pipe_frame.specs.StageEndCases.{EndsIteration, NamesNextStage}
use Rattle.pipe_model.specs.declared.column.ColumnEnd.{ColumnEnd}
use Rattle.pipe_model.specs.declared.column.ColumnEnd.TheVariants as ends
use Rattle.pipe_model.specs.declared.event.Event.{Event}
use Rattle.pipe_model.specs.declared.event.Event.TheVariants.{Advance, Finish, Stop}
use Rattle.pipe_model.specs.declared.node.Kind.{Kind}
use Rattle.pipe_model.specs.declared.node.Kind.TheVariants as kinds
use Rattle.pipe_model.specs.declared.stage.StageEnd.{StageEnd}
use Rattle.pipe_model.specs.declared.stage.StageEnd.TheVariants as stage_ends
use Rattle.pipe_model.specs.declared.status.Status.{Status}
use Rattle.pipe_model.specs.declared.status.Status.TheVariants.{Running, Pending, Completed}
use Rattle.pipe_model.specs.declared.ticket.BookEntry.{BookEntry}
use Rattle.pipe_model.specs.declared.ticket.Entry.{Entry}
use Rattle.pipe_model.specs.Pipelines.Behaviour.{Action, Behaviour, Ended, Performs, Staged, Staging, behaviour_after, behaviour_after_all}
use Rattle.pipe_model.specs.Pipelines.Pipeline.{Pipeline}
use Rattle.pipe_model.specs.Runs.Allowed.{Allowed, ControlAllows, IsRunning}
use Rattle.pipe_model.specs.Runs.ControlRun.{is_access}
use Rattle.pipe_model.specs.Runs.NextEvents.{next_event}
use Rattle.pipe_model.specs.Runs.StageEnds.{stage_end_events}
use Rattle.pipe_model.specs.Runs.State.{Frame, State, accesses_of, frame_at, next_state, update_frame, with_action}
use Rattle.frame_book.specs.BookStates.{TokenState, Kept, Spent, events_of, item_or, last_ticket, left_of, pipeline_in, replies_at}
use Rattle.frame_book.specs.BookStates.{state_of, with_events}
use Rattle.frame_book.specs.CallEffects.{after_name_next}
use Rattle.frame_book.specs.TokenLaws.{EndsNoneOf}
use Rattle.frame_book.proofs.BookLogs.LogEntries.{events_of_with}
use Rattle.run_laws.proofs.Iterations.PerformedActions.{behaviour_after_all-push}
use Rattle.run_laws.proofs.RunStates.FrameMoves.{frame_at_moved}
use Rattle.run_laws.proofs.RunStates.Frames.{frame_at_within, length-update_frame}
use Rattle.stage_code.specs.FlatCode.{FlatCode}
use Rattle.stage_interp.specs.RemainingBehaviour.{EndsAs}
use Rattle.schedule_play.specs.declared.running_instance.NextAction.TheVariants as actions
use Rattle.schedule_play.specs.RunningIterations.{RunningIterationState}
use Rattle.schedule_play.specs.PlayStates.{FitsStatus, IsPlay, KeepsRunning, PlayState, pipeline_played, run_state}
use Rattle.schedule_play.specs.RunningInstances.{IsUnderWay, next_of}
use Rattle.schedule_play.specs.ScheduleStates.{IsScheduleOf, ScheduleState}
use Rattle.schedule_play.proofs.Playing.Accesses.{allowed_here, fits, next_here, within}
use Rattle.schedule_play.proofs.Playing.Steps.{fits_still, logged, played_on, same_control}
use Rattle.schedule_play.proofs.UnderWay.{after_instances-push, after_trace, instance_ends}

module _ (code : FlatCode) (cells : ℕ) (v : PlayState) (h : IsPlay code cells v) (i : ℕ) (f : Frame)
    (is : frame_at (run_state v).frames i ≡ Some f)
    (runs : f.status ≡ Running) (k : RunningIterationState) (kept : item_or None v.running i ≡ Some k) (ending : StageEnd)
    (at : k.next ≡ actions.End ending) where
  abbrev p : Pipeline
  p = pipeline_played v

  abbrev s : State
  s = run_state v

  abbrev d : Behaviour
  d = (pipeline_in v.book).behaviour i

  under_way : IsUnderWay code cells v.book.input (left_of v.book i) k.machine.run k.trace (actions.End ending)
  under_way =
      let fit = fits code cells v h i f is runs k kept in
      subst (λ a. IsUnderWay code cells v.book.input (left_of v.book i) k.machine.run k.trace a) at
      (subst (λ j. IsUnderWay code cells v.book.input (after_instances ((pipeline_in v.book).behaviour j) (replies_at v.book i))
      k.machine.run k.trace k.next)
      fit.iteration fit.instance.under_way)

  -- the event of the end is next
  pub end_is_next : (e : Event) → stage_end_events i ending ≡ e ∷ [] → next_event p s i ≡ Some e
  end_is_next e one =
      let ended = instance_ends code cells v.book.input (left_of v.book i) k.machine.run k.trace ending under_way in
      let same = sym one ∙ ended.event p (p.preamble ++ accesses_of s.accesses) i in
      let head : e ≡ next_of p (p.preamble ++ accesses_of s.accesses) i (left_of v.book i) k.trace = cc in
      next_here code cells v h i f is runs k kept ∙ ap Some (sym head)

  -- the book after the event of the end
  module _ (e : Event) (one : stage_end_events i ending ≡ e ∷ []) (x : Action) (w : Status)
      (moves : next_state s e ≡ record s { frames = update_frame s.frames i (with_action x w) }) (quiet : is_access e ≡ false)
      (apart : e ≢ Stop)
      (others : (j : ℕ) → j ≢ i → EndsNoneOf j e) (next : next_event p s i ≡ Some e) (token : TokenState)
      (here : (traces : List (List (List Entry))) → item_or [] traces i ≡ item_or [] v.book.traces i ++ k.trace ∷ []
      → FitsStatus code cells (record v.book { traces = traces }) i w (f.trace ++ x ∷ []) None) where
    abbrev u : Frame → Frame
    u = with_action x w

    abbrev log : List BookEntry
    log = with_events v.book.log k.token.now (stage_end_events k.token.iteration ending)

    abbrev traces : List (List (List Entry))
    traces = set v.book.traces k.token.iteration (item_or [] v.book.traces k.token.iteration ++ k.trace ∷ [])

    abbrev tokens : List TokenState
    tokens = set v.book.tokens k.token.iteration token

    abbrev running : List (Option RunningIterationState)
    running = set v.running i None

    iteration : k.token.iteration ≡ i
    iteration = (fits code cells v h i f is runs k kept).iteration

    log_is : events_of log ≡ events_of v.book.log ++ e ∷ []
    log_is =
        ap (λ j. events_of (with_events v.book.log k.token.now (stage_end_events j ending))) iteration
        ∙ ap (λ es. events_of (with_events v.book.log k.token.now es)) one ∙ events_of_with v.book.log k.token.now e

    allowed : Allowed p v.book.limit s e
    allowed = allowed_here code cells v h i f is runs k kept e apart next

    trace_here : item_or [] traces i ≡ item_or [] v.book.traces i ++ k.trace ∷ []
    trace_here =
        let inside : i < length v.book.traces = (let a = frame_at_within s.frames i f is in let b = h.running.traces in
        omega (arith, a, b)) in
        ap (λ j. item_or [] (set v.book.traces j (item_or [] v.book.traces j ++ k.trace ∷ [])) i) iteration
        ∙ get_or-set_same v.book.traces i (item_or [] v.book.traces i ++ k.trace ∷ []) [] inside

    same_frames : (next_state s e).frames ≡ update_frame s.frames i u
    same_frames = ap (λ (y : State). y.frames) moves

    each : (j : ℕ) (g : Frame) → frame_at (update_frame s.frames i u) j ≡ Some g
        → FitsStatus code cells (record v.book { log = log; traces = traces; tokens = tokens }) j g.status g.trace (item_or None running j)
    each j g at = elim (frame_at_moved s.frames i j f u g is at) [
      | inl same ↦ (
          let slot : item_or None running i ≡ None = get_or-set_same v.running i None None (within code cells v h i f is runs k kept) in
          subst (λ n. FitsStatus code cells (record v.book { log = log; traces = traces; tokens = tokens }) n g.status g.trace
          (item_or None running n)) (sym same.0)
          (subst (λ (y : Frame). FitsStatus code cells (record v.book { log = log; traces = traces; tokens = tokens }) i y.status y.trace
          (item_or None running i)) (sym same.1)
          (subst (FitsStatus code cells (record v.book { log = log; traces = traces; tokens = tokens }) i w (f.trace ++ x ∷ [])) (sym slot)
          (moved_log w (f.trace ++ x ∷ []) (here traces trace_here)))))
      | inr other ↦ (
          let slot : item_or None running j ≡ item_or None v.running j = get_or-set_other v.running i j None None other.0 in
          let apart_from : j ≢ k.token.iteration = λ q. other.0 (q ∙ iteration) in
          subst (FitsStatus code cells (record v.book { log = log; traces = traces; tokens = tokens }) j g.status g.trace) (sym slot)
          (fits_still code cells v h e log traces tokens allowed.control quiet log_is j (others j other.0)
          (get_or-set_other v.book.tokens k.token.iteration j token Spent apart_from)
          (get_or-set_other v.book.traces k.token.iteration j (item_or [] v.book.traces k.token.iteration ++ k.trace ∷ []) [] apart_from)
          g.status g.trace (item_or None v.running j) (h.running.each j g other.1)))
    ]
      where
        -- an iteration that does not run fits by its traces alone
        moved_log : (w : Status) (trace : List Action) → FitsStatus code cells (record v.book { traces = traces }) i w trace None
            → FitsStatus code cells (record v.book { log = log; traces = traces; tokens = tokens }) i w trace None
        moved_log Running trace fit = fit
        moved_log (Pending kind n) trace fit = fit
        moved_log (Completed y) trace fit = fit

    pub ended_on : (schedule : ScheduleState) → IsScheduleOf (next_state s e) schedule → schedule.limit ≡ v.book.limit
        → IsPlay code cells (record v {
          book = record v.book { log = log; traces = traces; tokens = tokens };
          schedule = schedule;
          running = running;
          events = v.events ++ e ∷ [];
        })
    ended_on schedule scheduled limited =
        let long = length-update_frame s.frames i u in
        let accesses : (next_state s e).accesses ≡ s.accesses = ap (λ (y : State). y.accesses) moves in
        played_on code cells v h e allowed (ap (λ (y : State). y.stopped) moves ∙ h.going) log traces tokens schedule running v.cells
        (logged code cells v h e log quiet log_is) scheduled limited
        (subst (λ (fs : List Frame). KeepsRunning code cells (record v.book { log = log; traces = traces; tokens = tokens }) fs running)
        (sym same_frames) (record {
          count = length-set v.running i None ∙ h.running.count ∙ sym long;
          traces = length-set v.book.traces k.token.iteration (item_or [] v.book.traces k.token.iteration ++ k.trace ∷ [])
              ∙ h.running.traces ∙ sym long;
          tokens = length-set v.book.tokens k.token.iteration token ∙ h.running.tokens ∙ sym long;
          each = each;
        }))
        (subst (λ l. IsStateAfter p.store (p.preamble ++ accesses_of l) v.cells) (sym accesses) h.state)
        h.all h.count

  -- ---- the cases

  -- what is left after an instance that names a stage
  named_left : (kind : Kind) (n : ℤ) (rest : Behaviour) → Performs (left_of v.book i) (accessed k.trace)
      → behaviour_after_all (left_of v.book i) (accessed k.trace) ≡ Staging kind n rest
      → (traces : List (List (List Entry))) → item_or [] traces i ≡ item_or [] v.book.traces i ++ k.trace ∷ []
      → FitsStatus code cells (record v.book { traces = traces }) i (Pending kind n) (f.trace ++ Staged kind n ∷ []) None
  named_left kind n rest performs leaves traces more =
      let fit = fits code cells v h i f is runs k kept in
      let replies = map replies_of (item_or [] v.book.traces i) in
      let longer : map replies_of (item_or [] traces i) ≡ replies ++ replies_of k.trace ∷ [] =
      ap (map replies_of) more ∙ map-append replies_of (item_or [] v.book.traces i) (k.trace ∷ []) in (
        refl,
        behaviour_after_all-push d f.trace (Staged kind n) ∙ ap (λ b. behaviour_after b (Staged kind n)) (fit.left ∙ leaves)
            ∙ after_trace (left_of v.book i) k.trace kind n rest performs leaves
            ∙ sym (ap (after_instances d) longer ∙ after_instances-push d replies (replies_of k.trace)),
      )

  abbrev played : Named → Event → ScheduleState → PlayState
  played result e schedule = record v {
    book = after_name_next v.book k.token ending k.trace result;
    schedule = schedule;
    running = set v.running i None;
    events = v.events ++ e ∷ [];
  }

  names_on : (kind : Kind) (n : ℤ) (rest : Behaviour) (result : Named) → stage_end_events i ending ≡ Advance i kind n ∷ []
      → result ≡ named.Waits → behaviour_after_all (left_of v.book i) (accessed k.trace) ≡ Staging kind n rest
      → (schedule : ScheduleState) → IsScheduleOf (next_state s (Advance i kind n)) schedule → schedule.limit ≡ v.book.limit
      → IsPlay code cells (played result (Advance i kind n) schedule)
  names_on kind n rest result one waits leaves schedule scheduled limited =
      let token = Kept (record k.token { now = 1 + max (last_ticket v.book.log) k.token.now }) in
      subst (λ r. IsPlay code cells (played r (Advance i kind n) schedule)) (sym waits)
      (ended_on (Advance i kind n) one (Staged kind n) (Pending kind n) refl refl (λ q. absurd (cc)) (λ j other q. other (sym q))
      (end_is_next (Advance i kind n) one) token (named_left kind n rest under_way.performs leaves) schedule scheduled limited)

  ends_on : (x : ColumnEnd) (result : Named) → stage_end_events i ending ≡ Finish i x ∷ [] → result ≡ named.Ended
      → (schedule : ScheduleState) → IsScheduleOf (next_state s (Finish i x)) schedule → schedule.limit ≡ v.book.limit
      → IsPlay code cells (played result (Finish i x) schedule)
  ends_on x result one over schedule scheduled limited =
      subst (λ r. IsPlay code cells (played r (Finish i x) schedule)) (sym over)
      (ended_on (Finish i x) one (Ended x) (Completed x) refl refl (λ q. absurd (cc)) (λ j other q. other (sym q))
      (end_is_next (Finish i x) one) Spent (λ traces more. refl) schedule scheduled limited)

  -- a run that was not stopped goes on
  goes_on : (state_of v.book).stopped ≡ false
  goes_on = sym (same_control code cells v h).stopped ∙ h.going

  waits_only : (end : StageEnd) (result : Named) → NamesNextStage end → NameReturns (state_of v.book) end result → result ≡ named.Waits
  waits_only end named.Stopped names (stopped) = absurd (let q : true ≡ false = sym stopped ∙ goes_on in cc)
  waits_only (stage_ends.Wait n) named.Ended names returned = elim returned.1 [ ]
  waits_only (stage_ends.Continue n) named.Ended names returned = elim returned.1 [ ]
  waits_only stage_ends.End named.Ended names returned = elim names [ ]
  waits_only stage_ends.Closed named.Ended names returned = elim names [ ]
  waits_only (stage_ends.Trap t) named.Ended names returned = elim names [ ]
  waits_only stage_ends.Stopped named.Ended names returned = elim names [ ]
  waits_only end named.Waits names returned = refl

  ends_only : (end : StageEnd) (result : Named) → EndsIteration end → NameReturns (state_of v.book) end result → result ≡ named.Ended
  ends_only end named.Stopped over stopped = absurd (let q : true ≡ false = sym stopped ∙ goes_on in cc)
  ends_only end named.Ended over returned = refl
  ends_only (stage_ends.Wait n) named.Waits over returned = elim over [ ]
  ends_only (stage_ends.Continue n) named.Waits over returned = elim over [ ]
  ends_only stage_ends.End named.Waits over returned = elim returned.1 [ ]
  ends_only stage_ends.Closed named.Waits over returned = elim returned.1 [ ]
  ends_only (stage_ends.Trap t) named.Waits over returned = elim returned.1 [ ]
  ends_only stage_ends.Stopped named.Waits over returned = elim over [ ]

  -- the play goes on with the event of the end
  pub end_on : (result : Named) → NameReturns (state_of v.book) ending result
      → (e : Event) → stage_end_events i ending ≡ e ∷ [] → (schedule : ScheduleState) → IsScheduleOf (next_state s e) schedule
      → schedule.limit ≡ v.book.limit
      → IsPlay code cells (played result e schedule)
  end_on result returned e one schedule = by ending refl returned one
    where
      goal : Type 0
      goal = IsScheduleOf (next_state s e) schedule → schedule.limit ≡ v.book.limit → IsPlay code cells (played result e schedule)

      named_by : (kind : Kind) (n : ℤ) (end : StageEnd) → ending ≡ end → NamesNextStage end
          → NameReturns (state_of v.book) end result → stage_end_events i end ≡ Advance i kind n ∷ [] → stage_end_events i end ≡ e ∷ []
          → ((rest : Behaviour) × (behaviour_after_all (left_of v.book i) (accessed k.trace) ≡ Staging kind n rest)) → goal
      named_by kind n end here names returned mine one leaves =
          let same : Advance i kind n ≡ e = (let q = sym mine ∙ one in cc) in
          subst (λ (y : Event). IsScheduleOf (next_state s y) schedule → schedule.limit ≡ v.book.limit
          → IsPlay code cells (played result y schedule)) same
          (names_on kind n leaves.0 result (ap (stage_end_events i) here ∙ mine) (waits_only end result names returned) leaves.1 schedule)

      ended_by : (x : ColumnEnd) (end : StageEnd) → ending ≡ end → EndsIteration end
          → NameReturns (state_of v.book) end result → stage_end_events i end ≡ Finish i x ∷ [] → stage_end_events i end ≡ e ∷ [] → goal
      ended_by x end here over returned mine one =
          let same : Finish i x ≡ e = (let q = sym mine ∙ one in cc) in
          subst (λ (y : Event). IsScheduleOf (next_state s y) schedule → schedule.limit ≡ v.book.limit
          → IsPlay code cells (played result y schedule)) same
          (ends_on x result (ap (stage_end_events i) here ∙ mine) (ends_only end result over returned) schedule)

      ends_as : (end : StageEnd) → ending ≡ end → EndsAs code cells v.book.input end k.machine.run
          (behaviour_after_all (left_of v.book i) (accessed k.trace))
      ends_as end here = subst (λ y. EndsAs code cells v.book.input y k.machine.run
          (behaviour_after_all (left_of v.book i) (accessed k.trace))) here under_way.is_at.1

      by : (end : StageEnd) → ending ≡ end → NameReturns (state_of v.book) end result → stage_end_events i end ≡ e ∷ [] → goal
      by (stage_ends.Wait n) here returned one =
          let y = ends_as (stage_ends.Wait n) here in named_by kinds.Wait n (stage_ends.Wait n) here tt returned refl one (y.0, y.1)
      by (stage_ends.Continue n) here returned one =
          let y = ends_as (stage_ends.Continue n) here in named_by kinds.Continue n (stage_ends.Continue n) here tt returned refl one
          (y.0, y.1)
      by stage_ends.End here returned one = ended_by ends.End stage_ends.End here tt returned refl one
      by stage_ends.Closed here returned one = ended_by ends.Closed stage_ends.Closed here tt returned refl one
      by (stage_ends.Trap t) here returned one = ended_by (ends.Trapped t) (stage_ends.Trap t) here tt returned refl one
      by stage_ends.Stopped here returned one = absurd (under_way.is_at.0 here)

-- the result of a call of the player: the event is the next one, and the play goes on with it
pub end_made : (code : FlatCode) (cells : ℕ) (v : PlayState) (h : IsPlay code cells v) (i : ℕ) (r : IsRunning (run_state v) i)
    (k : RunningIterationState)
    → item_or None v.running i ≡ Some k → (end : StageEnd) → k.next ≡ actions.End end → (result : Named)
    → NameReturns (state_of v.book) end result → (e : Event) → stage_end_events i end ≡ e ∷ [] → (schedule : ScheduleState)
    → ((s : State) → IsScheduleOf s v.schedule → ControlAllows v.schedule.limit s e → IsScheduleOf (next_state s e) schedule)
    → schedule.limit ≡ v.schedule.limit
    → (next_event (pipeline_played v) (run_state v) i ≡ Some e)
    × IsPlay code cells (record v {
      book = after_name_next v.book k.token end k.trace result;
      schedule = schedule;
      running = set v.running i None;
      events = v.events ++ e ∷ [];
    })
end_made code cells v h i r k kept end at result returned e one schedule scheduled limited =
    let next = end_is_next code cells v h i r.frame r.is r.runs k kept end at e one in
    let allowed = allowed_here code cells v h i r.frame r.is r.runs k kept e (no_stop i end e one) next in
    let control = subst (λ l. ControlAllows l (run_state v) e) (sym h.limit) allowed.control in (
      next,
      end_on code cells v h i r.frame r.is r.runs k kept end at result returned e one schedule (scheduled (run_state v) h.schedule control)
          (limited ∙ h.limit),
    )
  where
    no_stop : (i : ℕ) (end : StageEnd) (e : Event) → stage_end_events i end ≡ e ∷ [] → e ≢ Stop
    no_stop i (stage_ends.Wait n) e one q = absurd (cc)
    no_stop i (stage_ends.Continue n) e one q = absurd (cc)
    no_stop i stage_ends.End e one q = absurd (cc)
    no_stop i stage_ends.Closed e one q = absurd (cc)
    no_stop i (stage_ends.Trap t) e one q = absurd (cc)
    no_stop i stage_ends.Stopped e one q = absurd (cc)
