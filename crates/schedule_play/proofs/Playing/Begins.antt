-- The beginning of an iteration in a run that is played.
use Rattle.std.proofs.Common.{Bool, true, false, ◌&&◌, ◌-◌, nat_lt, ◌≡◌, ◌∙◌, ap, sym, subst, refl, ℕ, ℤ, ◌+◌, ◌<◌, arith, inl, inr, List}
use Rattle.std.proofs.Common.{[], ◌∷◌, ◌++◌, length, map, Some, None}
use Rattle.std.proofs.lemmas.List.{length_push}
use Rattle.std.proofs.Math.ListN.{get_or-append}
use Rattle.std.proofs.Math.Seq.{get_or-append_seam}
use Rattle.pipe_frame.specs.Replies.{after_instances, replies_of}
use Rattle.pipe_frame.specs.CallResults.{BeginReturns}
use Rattle.pipe_frame.specs.TokenFields.{TokenFields, fields_of}
use Rattle.pipe_frame.specs.declared.results.Begun.{Begun}
use Rattle.pipe_frame.specs.declared.results.Begun.TheVariants as results
use Rattle.pipe_frame.specs.declared.token.FrameToken.{FrameToken}
use Rattle.pipe_model.specs.declared.event.Event.{Event}
use Rattle.pipe_model.specs.declared.event.Event.TheVariants.{Begin}
use Rattle.pipe_model.specs.declared.status.Status.TheVariants.{Running}
use Rattle.pipe_model.specs.declared.ticket.BookEntry.{BookEntry}
use Rattle.pipe_model.specs.declared.ticket.Entry.{Entry}
use Rattle.pipe_model.specs.Language.SyntaxTree.{SyntaxTree, tree_of}
use Rattle.pipe_model.specs.Pipelines.Behaviour.{behaviour_after_all}
use Rattle.pipe_model.specs.Pipelines.Pipeline.{Pipeline}
use Rattle.pipe_model.specs.Runs.Allowed.{Allowed, IsClosed, LastEndedFirstInstance, MayBegin}
use Rattle.pipe_model.specs.Runs.NextEvents.{event_if, frame_continues_loop, next_begin}
use Rattle.pipe_model.specs.Runs.State.{Frame, State, alive, frame_at, fresh_frame, next_state}
use Rattle.frame_book.specs.BookStates.{BookState, TokenState, Out, Spent, events_of, item_or, left_of, pipeline_in, replies_at, state_of}
use Rattle.frame_book.specs.BookStates.{with_events}
use Rattle.frame_book.specs.CallEffects.{after_begin}
use Rattle.frame_book.specs.GivenTokens.{IsOutOf}
use Rattle.frame_book.proofs.BookLogs.LogEntries.{events_of_with}
use Rattle.schedule_laws.proofs.AllowedEvents.{begin_is_allowed}
use Rattle.run_laws.proofs.RunStates.FrameMoves.{frame_at_begun}
use Rattle.run_laws.proofs.RunStates.LoopEnds.{iterations_begin_in_turn}
use Rattle.stage_code.specs.FlatCode.{FlatCode}
use Rattle.schedule_play.specs.RunningIterations.{RunningIterationState, IsRunningIteration}
use Rattle.stage_interp.specs.MachineState.{MachineState}
use Rattle.schedule_play.specs.Runners.{IsAtInstance}
use Rattle.schedule_play.specs.PlayStates.{FitsStatus, IsPlay, IsRunningAt, PlayState, pipeline_played, run_state}
use Rattle.schedule_play.specs.ScheduleStates.{IsScheduleOf, ScheduleState}
use Rattle.schedule_play.proofs.Playing.Steps.{agrees, book_run, fits_still, logged, played_on, same_control, still_short}
use Rattle.schedule_play.proofs.ChangedEntries.{alive_count}

module _ (code : FlatCode) (cells : ℕ) (v : PlayState) (h : IsPlay code cells v) where
  abbrev p : Pipeline
  p = pipeline_played v

  abbrev s : State
  s = run_state v

  abbrev limit : ℕ
  limit = v.book.limit

  pub begin_allowed : (e : Event) → next_begin limit s ≡ Some e → Allowed p limit s e
  begin_allowed e next = begin_is_allowed p limit s e h.going next

  module _ (i : ℕ) (next : next_begin limit s ≡ Some (Begin i)) (k : RunningIterationState) (iteration : k.token.iteration ≡ i)
      (out : IsOutOf (record v.book {
        log = with_events v.book.log 0 (Begin i ∷ []);
        traces = v.book.traces ++ [] ∷ [];
        tokens =
            v.book.tokens ++ Out ∷ [];
      }) k.token)
      (instance : IsRunningIteration code cells (tree_of v.book.program) v.book.input
      (map replies_of (item_or [] (v.book.traces ++ [] ∷ []) i)) k) (empty : k.trace ≡ []) where
    abbrev log : List BookEntry
    log = with_events v.book.log 0 (Begin i ∷ [])

    abbrev traces : List (List (List Entry))
    traces = v.book.traces ++ [] ∷ []

    abbrev tokens : List TokenState
    tokens = v.book.tokens ++ Out ∷ []

    abbrev begun : BookState
    begun = record v.book { log = log; traces = traces; tokens = tokens }

    allowed : Allowed p limit s (Begin i)
    allowed = begin_allowed (Begin i) next

    number : i ≡ length s.frames
    number = allowed.control.number

    log_is : events_of log ≡ events_of v.book.log ++ Begin i ∷ []
    log_is = events_of_with v.book.log 0 (Begin i)

    no_traces : item_or [] traces i ≡ []
    no_traces =
        let at : i ≡ length v.book.traces = number ∙ sym h.running.traces in
        ap (λ j. item_or [] traces j) at ∙ get_or-append_seam v.book.traces [] [] []

    here : IsRunningAt code cells begun i [] k
    here = record {
      iteration = iteration;
      out = out;
      instance = instance;
      left = sym (ap (λ l. behaviour_after_all (left_of begun i) (Rattle.pipe_frame.specs.Replies.accessed l)) empty
          ∙ ap (λ l. after_instances ((pipeline_in v.book).behaviour i) (map replies_of l)) no_traces);
    }

    each : (j : ℕ) (g : Frame) → frame_at (s.frames ++ fresh_frame ∷ []) j ≡ Some g
        → FitsStatus code cells begun j g.status g.trace (item_or None (v.running ++ Some k ∷ []) j)
    each j g at = elim (frame_at_begun s.frames j g at) [
      | inl new ↦ (
          let place : j ≡ length v.running = new.0 ∙ sym h.running.count in
          let slot : item_or None (v.running ++ Some k ∷ []) j ≡ Some k = ap (λ m. item_or None (v.running ++ Some k ∷ []) m) place
          ∙ get_or-append_seam v.running (Some k) [] None in
          subst (λ (y : Frame). FitsStatus code cells begun j y.status y.trace (item_or None (v.running ++ Some k ∷ []) j)) (sym new.1)
          (subst (FitsStatus code cells begun j Running []) (sym slot)
          (subst (λ m. IsRunningAt code cells begun m [] k) (number ∙ sym new.0) here)))
      | inr old ↦ (
          let less = old.0 in
          let c = h.running.count in
          let a = h.running.traces in
          let b = h.running.tokens in
          let slot : item_or None (v.running ++ Some k ∷ []) j ≡ item_or None v.running j =
          get_or-append v.running (Some k ∷ []) None j (omega (arith, less, c)) in
          subst (FitsStatus code cells begun j g.status g.trace) (sym slot)
          (fits_still code cells v h (Begin i) log traces tokens allowed.control refl log_is j tt
          (get_or-append v.book.tokens (Out ∷ []) Spent j (omega (arith, less, b)))
          (get_or-append v.book.traces ([] ∷ []) [] j (omega (arith, less, a)))
          g.status g.trace (item_or None v.running j) (h.running.each j g old.1)))
    ]

    pub begun_on : (schedule : ScheduleState) → IsScheduleOf (next_state s (Begin i)) schedule → schedule.limit ≡ limit
        → IsPlay code cells (record v {
          book = begun;
          schedule = schedule;
          running = v.running ++ Some k ∷ [];
          events =
              v.events ++ Begin i ∷ [];
        })
    begun_on schedule scheduled limited =
        let long = length_push s.frames fresh_frame in
        let c = h.running.count in
        let a = h.running.traces in
        let b = h.running.tokens in
        played_on code cells v h (Begin i) allowed h.going log traces tokens schedule (v.running ++ Some k ∷ []) v.cells
        (logged code cells v h (Begin i) log refl log_is) scheduled limited
        (record {
          count = length_push v.running (Some k) ∙ ap (λ m. m + 1) c ∙ sym long;
          traces = length_push v.book.traces [] ∙ ap (λ m. m + 1) a ∙ sym long;
          tokens = length_push v.book.tokens Out ∙ ap (λ m. m + 1) b ∙ sym long;
          each = each;
        })
        h.state h.all h.count

-- ---- the results of the player's calls

begin_event : (limit : ℕ) (s : State) (e : Event) → next_begin limit s ≡ Some e → e ≡ Begin (length s.frames)
begin_event limit s e next = by_test (nat_lt (alive s) limit && frame_continues_loop (frame_at s.frames (length s.frames - 1))) next
  where
    by_test : (b : Bool) → event_if b (Begin (length s.frames)) ≡ Some e → e ≡ Begin (length s.frames)
    by_test true q = cc
    by_test false q = absurd (cc)

may_begin : (code : FlatCode) (cells : ℕ) (v : PlayState) (h : IsPlay code cells v) (e : Event)
    → next_begin v.book.limit (run_state v) ≡ Some e
    → MayBegin v.book.limit (run_state v) (length (run_state v).frames)
may_begin code cells v h e next =
    (begin_allowed code cells v h (Begin (length (run_state v).frames))
    (next ∙ ap Some (begin_event v.book.limit (run_state v) e next))).control

-- the book begins the iteration
pub begin_possible : {M : Type 0} (code : FlatCode) (cells : ℕ) (v : PlayState) (h : IsPlay code cells v) (e : Event)
    → next_begin v.book.limit (run_state v) ≡ Some e
    → (r : Begun M) → BeginReturns v.book.limit (state_of v.book) r → ((t : FrameToken M) → r ≡ results.Started t → ⊥) → ⊥
begin_possible {M} code cells v h e next r returned never = by r returned never
  where
    there : MayBegin v.book.limit (state_of v.book) (length (run_state v).frames)
    there = ((agrees code cells v h).allow (Begin (length (run_state v).frames))).0 (may_begin code cells v h e next)

    turn : (alive (state_of v.book) < v.book.limit) × (IsClosed (state_of v.book).frames → ⊥)
        × LastEndedFirstInstance (state_of v.book).frames
    turn = (iterations_begin_in_turn.control_runs v.book.limit (events_of v.book.log) (state_of v.book) (book_run code cells v h)).0
        (subst (MayBegin v.book.limit (state_of v.book)) there.number there)

    by : (r : Begun M) → BeginReturns v.book.limit (state_of v.book) r → ((t : FrameToken M) → r ≡ results.Started t → ⊥) → ⊥
    by results.Stopped stopped never = let q : true ≡ false = sym stopped ∙ (sym (same_control code cells v h).stopped ∙ h.going) in
        absurd (cc)
    by results.Closed closed never = turn.1 closed.1
    by results.NotYet early never = early.2 turn.2
    by results.Throttled full never = let a = full.3 in let b = turn.0 in omega (arith, a, b)
    by (results.Started t) returned never = never t refl

-- the schedule has room for the iteration
pub begin_fits : (code : FlatCode) (cells : ℕ) (v : PlayState) (h : IsPlay code cells v) (e : Event)
    → next_begin v.book.limit (run_state v) ≡ Some e
    → (length v.schedule.alive < v.schedule.limit) × (v.schedule.begun < 4294967295)
begin_fits code cells v h e next =
    let s = run_state v in
    let may = may_begin code cells v h e next in
    let allowed = begin_allowed code cells v h (Begin (length s.frames)) (next ∙ ap Some (begin_event v.book.limit s e next)) in
    let count : length v.schedule.alive ≡ alive s = ap length h.schedule.alive ∙ alive_count s.frames 0 s.frames in
    let short = (still_short code cells v h (Begin (length s.frames)) allowed h.going).1 in
    let longer : length (s.frames ++ fresh_frame ∷ []) ≡ length s.frames + 1 = length_push s.frames fresh_frame in
    let room = may.room in
    let limit = h.limit in
    let begun = h.schedule.begun in
    (omega (arith, count, room, limit), omega (arith, short, longer, begun))

-- the play goes on with the event
pub begun_made : {M : Type 0} (code : FlatCode) (cells : ℕ) (v : PlayState) (h : IsPlay code cells v) (e : Event)
    → next_begin v.book.limit (run_state v) ≡ Some e
    → (token : FrameToken M) → BeginReturns v.book.limit (state_of v.book) (results.Started token)
    → IsOutOf (after_begin v.book (results.Started token)) (fields_of token) → (machine : MachineState)
    → IsAtInstance code cells (tree_of v.book.program) v.book.input machine token.iteration
    (replies_at (after_begin v.book (results.Started token)) token.iteration)
    → (k : RunningIterationState) → k.token ≡ fields_of token → k.trace ≡ [] → (input : List ℤ) → input ≡ v.book.input
    → ((tree : SyntaxTree) (replies : List (List ℤ)) → IsAtInstance code cells tree input machine token.iteration replies
    → IsRunningIteration code cells tree input replies k)
    → (schedule : ScheduleState) → ((s : State) → IsScheduleOf s v.schedule → IsScheduleOf (next_state s (Begin v.schedule.begun)) schedule)
    → schedule.limit ≡ v.schedule.limit
    → (e ≡ Begin token.iteration) × IsPlay code cells (record v {
      book = after_begin v.book (results.Started token);
      schedule = schedule;
      running = v.running ++ Some k ∷ [];
      events = v.events ++ Begin token.iteration ∷ [];
    })
begun_made code cells v h e next token returned out machine ready k fields empty input same instance schedule scheduled limited =
    let s = run_state v in
    let i = token.iteration in
    let tree = tree_of v.book.program in
    let replies = replies_at (after_begin v.book (results.Started token)) i in
    let may : MayBegin v.book.limit s i = ((agrees code cells v h).allow (Begin i)).1 returned.2 in
    let is : e ≡ Begin i = begin_event v.book.limit s e next ∙ ap Begin (sym may.number) in
    let number : v.schedule.begun ≡ i = h.schedule.begun ∙ sym may.number in
    let there : IsRunningIteration code cells tree input replies k = instance tree replies
    (subst (λ l. IsAtInstance code cells tree l machine i replies) (sym same) ready) in (
      is,
      begun_on code cells v h i (next ∙ ap Some is) k (ap (λ (x : TokenFields). x.iteration) fields)
          (subst (IsOutOf (after_begin v.book (results.Started token))) (sym fields) out)
          (subst (λ l. IsRunningIteration code cells tree l replies k) same there) empty
          schedule (subst (λ j. IsScheduleOf (next_state s (Begin j)) schedule) number (scheduled s h.schedule)) (limited ∙ h.limit),
    )
