-- What one more event changes of what a player keeps.
use Rattle.std.proofs.Common.{◌≡◌, ◌∙◌, ap, sym, subst, refl, ℕ, ◌+◌, ◌<◌, ◌^◌, arith, List, [], ◌∷◌, ◌++◌, false, length, map, Option}
use Rattle.std.proofs.Common.{Some, None}
use Rattle.cell_store.specs.ShardState.{IsStateAfter, ShardState}
use Rattle.pipe_frame.specs.Replies.{accessed, after_instances, replies_of}
use Rattle.pipe_frame.specs.TokenFields.{TokenFields}
use Rattle.pipe_model.specs.declared.event.Event.{Event}
use Rattle.pipe_model.specs.declared.status.Status.{Status}
use Rattle.pipe_model.specs.declared.status.Status.TheVariants.{Running, Pending, Completed}
use Rattle.pipe_model.specs.declared.ticket.BookEntry.{BookEntry}
use Rattle.pipe_model.specs.declared.ticket.Entry.{Entry}
use Rattle.pipe_model.specs.Language.SyntaxTree.{tree_of}
use Rattle.pipe_model.specs.Pipelines.Behaviour.{Action, behaviour_after_all}
use Rattle.pipe_model.specs.Pipelines.Pipeline.{Pipeline}
use Rattle.pipe_model.specs.Runs.Allowed.{Allowed, ControlAllows}
use Rattle.pipe_model.specs.Runs.ControlParts.{HaveSameControl, control_after, without_accesses}
use Rattle.pipe_model.specs.Runs.ControlRun.{ControlRun, is_access}
use Rattle.pipe_model.specs.Runs.Run.{Run, RunThen}
use Rattle.pipe_model.specs.Runs.RunLogs.{state_after}
use Rattle.pipe_model.specs.Runs.State.{State, accesses_of, initial_state, next_state}
use Rattle.frame_book.specs.BookStates.{BookState, TokenState, Spent, events_of, item_or, pipeline_in, state_of}
use Rattle.frame_book.specs.GivenTokens.{IsOutOf}
use Rattle.frame_book.specs.TokenLaws.{EndsNoneOf}
use Rattle.frame_book.proofs.BookLogs.LogEntries.{state_after-push}
use Rattle.frame_book.proofs.StartedInstances.OtherTokens.{tokens_stay_until_their_ends}
use Rattle.order_2d.proofs.EventsSoFar.{without-append}
use Rattle.schedule_laws.specs.ControlLaws.{AgreeInControl, HasControlRun}
use Rattle.schedule_laws.proofs.ControlOutlines.{control_goes_by_outlines, control_skips_accesses, runs_have_control_runs}
use Rattle.stage_code.specs.FlatCode.{FlatCode}
use Rattle.schedule_play.specs.RunningIterations.{RunningIterationState, IsRunningIteration}
use Rattle.schedule_play.specs.OneAccess.{HasAllCells}
use Rattle.schedule_play.specs.PlayStates.{FitsStatus, IsPlay, KeepsRunning, PlayState, pipeline_played, run_state}
use Rattle.schedule_play.specs.ScheduleStates.{IsScheduleOf, ScheduleState}

module _ (code : FlatCode) (cells : ℕ) (v : PlayState) (h : IsPlay code cells v) where
  abbrev p : Pipeline
  p = pipeline_played v

  abbrev s : State
  s = run_state v

  abbrev limit : ℕ
  limit = v.book.limit

  -- ---- the book and the run

  control : HasControlRun limit v.events s
  control = runs_have_control_runs p limit v.events s h.run

  same_state : control_after v.events ≡ state_of v.book
  same_state = control_skips_accesses initial_state v.events ∙ ap state_after (sym h.log)

  -- the book has the control part of the run
  pub same_control : HaveSameControl s (state_of v.book)
  same_control = subst (HaveSameControl s) same_state control.same

  pub book_run : ControlRun limit (events_of v.book.log) (state_of v.book)
  book_run = subst (ControlRun limit (events_of v.book.log)) same_state
      (subst (λ es. ControlRun limit es (control_after v.events)) (sym h.log) control.run)

  pub agrees : AgreeInControl limit s (state_of v.book)
  agrees = control_goes_by_outlines limit s (state_of v.book) same_control

  -- ---- the book with another log, other traces and other tokens

  abbrev pub with_book : List BookEntry → List (List (List Entry)) → List TokenState → BookState
  with_book log traces tokens = record v.book { log = log; traces = traces; tokens = tokens }

  -- a token that is out stays so while no instance of its iteration ends
  stays_out : (e : Event) (log : List BookEntry) (traces : List (List (List Entry))) (tokens : List TokenState) → ControlAllows limit s e
      → is_access e ≡ false
      → events_of log ≡ events_of v.book.log ++ e ∷ [] → (t : TokenFields) → EndsNoneOf t.iteration e
      → item_or Spent tokens t.iteration ≡ item_or Spent v.book.tokens t.iteration → IsOutOf v.book t
      → IsOutOf (with_book log traces tokens) t
  stays_out e log traces tokens may quiet more t none same out =
      let token = tokens_stay_until_their_ends limit (events_of v.book.log) e t book_run ((agrees.allow e).0 may) quiet none out.token in
      let longer : length (events_of log) ≡ length (events_of v.book.log) + 1 = ap length more
      ∙ Rattle.std.proofs.lemmas.List.length_push (events_of v.book.log) e in
      let a : length (events_of log) ≡ length log = Rattle.std.proofs.lemmas.List.length-map log (λ (b : BookEntry). b.event) in
      let b : length (events_of v.book.log) ≡ length v.book.log = Rattle.std.proofs.lemmas.List.length-map v.book.log
      (λ (b : BookEntry). b.event) in
      let now = out.now in
      record {
        out = same ∙ out.out;
        token = subst (λ es. Rattle.pipe_frame.specs.RunningTokens.IsTokenOf es t) (sym more) token;
        now = omega (arith, longer, a, b, now);
      }

  -- an iteration with the same traces, and none of its instances ends
  pub fits_still : (e : Event) (log : List BookEntry) (traces : List (List (List Entry))) (tokens : List TokenState)
      → ControlAllows limit s e → is_access e ≡ false
      → events_of log ≡ events_of v.book.log ++ e ∷ [] → (j : ℕ) → EndsNoneOf j e
      → item_or Spent tokens j ≡ item_or Spent v.book.tokens j → item_or [] traces j ≡ item_or [] v.book.traces j
      → (w : Status) (trace : List Action) (kept : Option RunningIterationState) → FitsStatus code cells v.book j w trace kept
      → FitsStatus code cells (with_book log traces tokens) j w trace kept
  fits_still e log traces tokens may quiet more j none same_token same_traces Running trace None fits = fits
  fits_still e log traces tokens may quiet more j none same_token same_traces Running trace (Some k) fits = record {
    iteration = fits.iteration;
    out = stays_out e log traces tokens may quiet more k.token
        (subst (λ i. EndsNoneOf i e) (sym fits.iteration) none)
        (subst (λ i. item_or Spent tokens i ≡ item_or Spent v.book.tokens i) (sym fits.iteration) same_token) fits.out;
    instance = subst (λ (l : List (List Entry)). IsRunningIteration code cells (tree_of v.book.program) v.book.input (map replies_of l) k)
        (sym same_traces) fits.instance;
    left = subst (λ (l : List (List Entry)). behaviour_after_all ((pipeline_in v.book).behaviour j) trace
        ≡ behaviour_after_all (after_instances ((pipeline_in v.book).behaviour j) (map replies_of l)) (accessed k.trace))
        (sym same_traces) fits.left;
  }
  fits_still e log traces tokens may quiet more j none same_token same_traces (Pending kind n) trace kept fits = (
    fits.0,
    subst (λ (l : List (List Entry)). behaviour_after_all ((pipeline_in v.book).behaviour j) trace
        ≡ after_instances ((pipeline_in v.book).behaviour j) (map replies_of l)) (sym same_traces) fits.1,
  )
  fits_still e log traces tokens may quiet more j none same_token same_traces (Completed x) trace kept fits = fits

  -- ---- the next state

  -- what is kept after an event, if the parts belong to the run with this event
  module _ (e : Event) (allowed : Allowed p limit s e) (going : (next_state s e).stopped ≡ false) where
    after : state_after (v.events ++ e ∷ []) ≡ next_state s e
    after = state_after-push v.events e

    run : Run p limit (v.events ++ e ∷ []) (next_state s e)
    run = RunThen h.run e allowed

    -- the run with the event is short, too
    pub still_short : (length (v.events ++ e ∷ []) < 2 ^ 62) × (length (next_state s e).frames < 2 ^ 32)
    still_short = h.short (v.events ++ e ∷ []) (next_state s e) run going

    pub played_on : (log : List BookEntry) (traces : List (List (List Entry))) (tokens : List TokenState) (schedule : ScheduleState)
        (running : List (Option RunningIterationState)) (cells' : ShardState)
        → events_of log ≡ without_accesses (v.events ++ e ∷ [])
        → IsScheduleOf (next_state s e) schedule → schedule.limit ≡ limit
        → KeepsRunning code cells (with_book log traces tokens) (next_state s e).frames running
        → IsStateAfter p.store (p.preamble ++ accesses_of (next_state s e).accesses) cells' → HasAllCells cells'
        → cells'.shard.cells ≡ cells
        → IsPlay code cells (record {
          book = with_book log traces tokens;
          schedule = schedule;
          running = running;
          cells = cells';
          events =
              v.events ++ e ∷ [];
        })
    played_on log traces tokens schedule running cells' logged scheduled limited kept state all count = record {
      proper = h.proper;
      short = h.short;
      run = subst (Run p limit (v.events ++ e ∷ [])) (sym after) run;
      going = ap (λ (x : State). x.stopped) after ∙ going;
      log = logged;
      lists = h.lists;
      schedule = subst (λ x. IsScheduleOf x schedule) (sym after) scheduled;
      limit = limited;
      running = subst (λ (x : State). KeepsRunning code cells (with_book log traces tokens) x.frames running) (sym after) kept;
      state = subst (λ (x : State). IsStateAfter p.store (p.preamble ++ accesses_of x.accesses) cells') (sym after) state;
      all = all;
      count = count;
      bounded = h.bounded;
    }

  -- the log of an event that is no access
  pub logged : (e : Event) (log : List BookEntry) → is_access e ≡ false → events_of log ≡ events_of v.book.log ++ e ∷ []
      → events_of log ≡ without_accesses (v.events ++ e ∷ [])
  logged e log quiet more =
      let one : without_accesses (e ∷ []) ≡ e ∷ [] = rw quiet refl in
      more ∙ (ap (λ es. es ++ e ∷ []) h.log ∙ (ap (λ es. without_accesses v.events ++ es) (sym one)
      ∙ sym (without-append v.events (e ∷ []))))
