-- The running instance of a run that is played, and its accesses.
use Rattle.std.proofs.Common.{◌≡◌, ◌≢◌, ◌∙◌, ap, sym, subst, refl, ℕ, suc, ℤ, ◌+◌, ◌-◌, ◌≤◌, ◌<◌, ◌^◌, arith, inl, inr, List, [], ◌∷◌, ◌++◌}
use Rattle.std.proofs.Common.{length, map, set, Option, Some, None, append_assoc}
use Rattle.std.proofs.lemmas.List.{get_or-set_other, get_or-set_same, length-set, map-append}
use Rattle.cell_store.specs.ShardState.{IsStateAfter, ShardState}
use Rattle.pipe_frame.specs.Replies.{accessed, after_instances}
use Rattle.pipe_model.specs.declared.access.Access.{Access as Cell_access}
use Rattle.pipe_model.specs.declared.access.NodeAccess.{NodeAccess}
use Rattle.pipe_model.specs.declared.event.Event.{Event}
use Rattle.pipe_model.specs.declared.event.Event.TheVariants.{Access, Stop}
use Rattle.pipe_model.specs.declared.status.Status.TheVariants.{Running}
use Rattle.pipe_model.specs.declared.ticket.Entry.{Entry}
use Rattle.pipe_model.specs.Language.Programs.{pipeline_of}
use Rattle.pipe_model.specs.Language.SyntaxTree.{SyntaxTree, tree_of}
use Rattle.pipe_model.specs.Pipelines.Store.{InitialStore}
use Rattle.pipe_frame.specs.TokenFields.{TokenFields}
use Rattle.pipe_model.specs.Pipelines.Behaviour.{Accessed, Behaviour, behaviour_after, behaviour_after_all}
use Rattle.pipe_model.specs.Pipelines.Pipeline.{Pipeline}
use Rattle.pipe_model.specs.Races.Columns.{at}
use Rattle.pipe_model.specs.Runs.Allowed.{Allowed, IsRunning}
use Rattle.pipe_model.specs.Runs.NextEvents.{event_of_behaviour, next_event}
use Rattle.pipe_model.specs.Runs.State.{Frame, State, accesses_of, current_index, frame_at, next_state, update_frame, with_action}
use Rattle.frame_book.specs.BookStates.{item_or, left_of, pipeline_in, replies_at}
use Rattle.schedule_laws.proofs.AllowedEvents.{allowed_events_are_next, event_at_running}
use Rattle.schedule_laws.proofs.ControlOutlines.{accesses_change_no_outline}
use Rattle.order_2d.proofs.EventsSoFar.{without-append}
use Rattle.run_laws.proofs.Iterations.PerformedActions.{behaviour_after_all-push}
use Rattle.run_laws.proofs.RunStates.FrameMoves.{frame_at_moved}
use Rattle.run_laws.proofs.RunStates.Frames.{frame_at_within, length-update_frame}
use Rattle.stage_code.specs.FlatCode.{FlatCode}
use Rattle.schedule_play.specs.RunningIterations.{RunningIterationState, IsRunningIteration}
use Rattle.schedule_play.specs.PlayStates.{FitsStatus, IsPlay, IsRunningAt, PlayState, pipeline_played, run_state}
use Rattle.schedule_play.specs.RunningInstances.{next_of}
use Rattle.schedule_play.proofs.Playing.Outlines.{schedule_of_control}
use Rattle.schedule_play.proofs.Playing.Steps.{played_on}

module _ (code : FlatCode) (cells : ℕ) (v : PlayState) (h : IsPlay code cells v) (i : ℕ) (f : Frame)
    (is : frame_at (run_state v).frames i ≡ Some f)
    (runs : f.status ≡ Running) (k : RunningIterationState) (kept : item_or None v.running i ≡ Some k) where
  abbrev p : Pipeline
  p = pipeline_played v

  abbrev s : State
  s = run_state v

  abbrev before : List Cell_access
  before = p.preamble ++ accesses_of s.accesses

  -- ---- the running instance

  abbrev pub running : IsRunning s i
  running = record { frame = f; is = is; runs = runs }

  pub fits : IsRunningAt code cells v.book i f.trace k
  fits = subst (FitsStatus code cells v.book i Running f.trace) kept
      (subst (λ w. FitsStatus code cells v.book i w f.trace (item_or None v.running i)) runs (h.running.each i f is))

  pub next_here : next_event p s i ≡ Some (next_of p before i (left_of v.book i) k.trace)
  next_here = event_at_running p s i running ∙ ap (λ d. Some (event_of_behaviour p before i d)) fits.left

  pub allowed_here : (e : Event) → e ≢ Stop → next_event p s i ≡ Some e → Allowed p v.book.limit s e
  allowed_here e apart next = (allowed_events_are_next p v.book.limit v.events s e h.run h.proper h.going apart).1 (inl (i, next))

  pub within : i < length v.running
  within = let a = frame_at_within s.frames i f is in let b = h.running.count in omega (arith, a, b)

  -- ---- an access

  module _ (a : Cell_access) (ticket : ℕ) (k' : RunningIterationState) (cells' : ShardState) (next : next_event p s i ≡ Some (Access i a))
      (token : k'.token ≡ record k.token { now = ticket }) (low : ticket ≤ 2 ^ 62 + length v.book.log)
      (instance : IsRunningIteration code cells (tree_of v.book.program) v.book.input (replies_at v.book i) k')
      (trace : k'.trace ≡ k.trace ++ record { ticket = ticket; access = a } ∷ []) where
    abbrev u : Frame → Frame
    u = with_action (Accessed a) Running

    abbrev d : Behaviour
    d = (pipeline_in v.book).behaviour i

    left : behaviour_after_all d (f.trace ++ Accessed a ∷ []) ≡ behaviour_after_all (left_of v.book i) (accessed k'.trace)
    left =
        let entry : Entry = record { ticket = ticket; access = a } in
        let more : accessed k'.trace ≡ accessed k.trace ++ Accessed a ∷ [] =
        ap accessed trace ∙ map-append (λ (x : Entry). Accessed x.access) k.trace (entry ∷ []) in
        behaviour_after_all-push d f.trace (Accessed a) ∙ ap (λ b. behaviour_after b (Accessed a)) fits.left
        ∙ sym (behaviour_after_all-push (left_of v.book i) (accessed k.trace) (Accessed a))
        ∙ ap (behaviour_after_all (left_of v.book i)) (sym more)

    here : IsRunningAt code cells v.book i (u f).trace k'
    here = record {
      iteration = ap (λ (t : TokenFields). t.iteration) token ∙ fits.iteration;
      out = subst (Rattle.frame_book.specs.GivenTokens.IsOutOf v.book) (sym token) (record {
        out = fits.out.out;
        token = record {
          running = fits.out.token.running;
          index = fits.out.token.index;
          marks = fits.out.token.marks;
          joined =
              fits.out.token.joined;
          folded = fits.out.token.folded;
        };
        now = low;
      });
      instance = instance;
      left = left;
    }

    each : (j : ℕ) (g : Frame) → frame_at (update_frame s.frames i u) j ≡ Some g
        → FitsStatus code cells v.book j g.status g.trace (item_or None (set v.running i (Some k')) j)
    each j g e = elim (frame_at_moved s.frames i j f u g is e) [
      | inl same ↦ (
          let slot : item_or None (set v.running i (Some k')) i ≡ Some k' = get_or-set_same v.running i (Some k') None within in
          subst (λ n. FitsStatus code cells v.book n g.status g.trace (item_or None (set v.running i (Some k')) n)) (sym same.0)
          (subst (λ (x : Frame). FitsStatus code cells v.book i x.status x.trace (item_or None (set v.running i (Some k')) i)) (sym same.1)
          (subst (FitsStatus code cells v.book i Running (u f).trace) (sym slot) here)))
      | inr other ↦ (
          let slot : item_or None (set v.running i (Some k')) j ≡ item_or None v.running j =
          get_or-set_other v.running i j (Some k') None other.0 in
          subst (FitsStatus code cells v.book j g.status g.trace) (sym slot) (h.running.each j g other.1))
    ]

    pub accessed_on : IsStateAfter p.store (before ++ a ∷ []) cells' → cells'.shard ≡ v.cells.shard
        → IsPlay code cells (record v {
          running = set v.running i (Some k');
          cells = cells';
          events =
              v.events ++ Access i a ∷ [];
        })
    accessed_on state shard =
        let allowed = allowed_here (Access i a) (λ e. absurd (cc)) next in
        let long = length-update_frame s.frames i u in
        played_on code cells v h (Access i a) allowed h.going v.book.log v.book.traces v.book.tokens v.schedule
        (set v.running i (Some k')) cells'
        (h.log ∙ sym (Rattle.std.proofs.Common.append-nil (Rattle.pipe_model.specs.Runs.ControlParts.without_accesses v.events))
        ∙ sym (without-append v.events (Access i a ∷ [])))
        (schedule_of_control (next_state s (Access i a)) s v.schedule (accesses_change_no_outline s i a running) h.schedule)
        h.limit
        (record {
          count = length-set v.running i (Some k') ∙ h.running.count ∙ sym long;
          traces = h.running.traces ∙ sym long;
          tokens = h.running.tokens ∙ sym long;
          each = each;
        })
        (subst (λ l. IsStateAfter p.store l cells') (append_assoc p.preamble (accesses_of s.accesses) (a ∷ [])
        ∙ ap (λ l. p.preamble ++ l) (sym (map-append (λ (x : NodeAccess). x.access) s.accesses
        (record { node = at i (current_index (frame_at s.frames i)); access = a } ∷ [])))) state)
        (record {
          shards = ap (λ (x : Rattle.cell_store.specs.ShardState.Shard). x.shards) shard ∙ h.all.shards;
          number =
              ap (λ (x : Rattle.cell_store.specs.ShardState.Shard). x.number) shard ∙ h.all.number;
        })
        (ap (λ (x : Rattle.cell_store.specs.ShardState.Shard). x.cells) shard ∙ h.count)

-- ---- the results of the player's calls

-- the slot of a running iteration is there, and holds its instance
pub slot_within : (code : FlatCode) (cells : ℕ) (v : PlayState) → IsPlay code cells v → (i : ℕ) (f : Frame)
    → frame_at (run_state v).frames i ≡ Some f
    → i < length v.running
slot_within code cells v h i f is = let a = frame_at_within (run_state v).frames i f is in let b = h.running.count in omega (arith, a, b)

pub slot_taken : (code : FlatCode) (cells : ℕ) (v : PlayState) → IsPlay code cells v → (i : ℕ) → IsRunning (run_state v) i
    → item_or None v.running i ≡ None → ⊥
slot_taken code cells v h i r none =
    subst (FitsStatus code cells v.book i Running r.frame.trace) none
    (subst (λ w. FitsStatus code cells v.book i w r.frame.trace (item_or None v.running i)) r.runs (h.running.each i r.frame r.is))

-- the access is the next event, and the play goes on with it
pub access_made : (code : FlatCode) (cells : ℕ) (v : PlayState) (h : IsPlay code cells v) (i : ℕ) (r : IsRunning (run_state v) i)
    (k : RunningIterationState)
    → item_or None v.running i ≡ Some k → (input : List ℤ) → input ≡ v.book.input → (a : Cell_access) (k' : RunningIterationState)
    (cells' : ShardState)
    → ((tree : SyntaxTree) (replies : List (List ℤ)) → IsRunningIteration code cells tree input replies k
    → IsRunningIteration code cells tree input replies k')
    → ((tree : SyntaxTree) (replies : List (List ℤ)) (q : Pipeline) (before : List Cell_access)
    → IsRunningIteration code cells tree input replies k → IsStateAfter q.store before v.cells
    → next_of q before k.token.iteration (after_instances ((pipeline_of tree input).behaviour k.token.iteration) replies) k.trace ≡ Access
    k.token.iteration a)
    → k'.token ≡ record k.token { now = length v.events + 1 }
    → k'.trace ≡ k.trace ++ record { ticket = length v.events + 1; access = a } ∷ []
    → ((store : InitialStore) (before : List Cell_access) → IsStateAfter store before v.cells
    → IsStateAfter store (before ++ a ∷ []) cells')
    → cells'.shard ≡ v.cells.shard
    → (next_event (pipeline_played v) (run_state v) i ≡ Some (Access i a))
    × IsPlay code cells (record v {
      running = set v.running i (Some k');
      cells = cells';
      events = v.events ++ Access i a ∷ [];
    })
access_made code cells v h i r k kept input same a k' cells' instance event token trace state shard =
    let p = pipeline_played v in
    let s = run_state v in
    let before = p.preamble ++ accesses_of s.accesses in
    let at = fits code cells v h i r.frame r.is r.runs k kept in
    let tree = tree_of v.book.program in
    let replies = replies_at v.book i in
    let mine : IsRunningIteration code cells tree input replies k = subst (λ l. IsRunningIteration code cells tree l replies k)
    (sym same) at.instance in
    let here : next_of p before i (left_of v.book i) k.trace ≡ Access i a =
    subst (λ l. next_of p before i (after_instances ((pipeline_of tree l).behaviour i) replies) k.trace ≡ Access i a) same
    (subst (λ j. next_of p before j (after_instances ((pipeline_of tree input).behaviour j) replies) k.trace ≡ Access j a) at.iteration
    (event tree replies p before mine h.state)) in
    let next : next_event p s i ≡ Some (Access i a) = next_here code cells v h i r.frame r.is r.runs k kept ∙ ap Some here in
    let low : length v.events + 1 ≤ 2 ^ 62 + length v.book.log = (let short = (h.short v.events s h.run h.going).0 in omega (arith, short))
    in
    let now : IsRunningIteration code cells tree v.book.input replies k' = subst (λ l. IsRunningIteration code cells tree l replies k')
    same (instance tree replies mine) in (
      next,
      accessed_on code cells v h i r.frame r.is r.runs k kept a (length v.events + 1) k' cells' next token low now trace
          (state p.store before h.state) shard,
    )
