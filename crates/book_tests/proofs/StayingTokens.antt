-- Tokens that are out still belong to running instances while the book's calls start and end other instances.
use Rattle.std.proofs.Common.{◌≡◌, ◌≢◌, ℕ, suc, List, [], ◌∷◌, ◌++◌, ◌≤◌, refl, sym, ◌∙◌, ap, subst, arith, length, max, map, append_assoc}
use Rattle.std.proofs.Common.{append-nil}
use Rattle.std.proofs.lemmas.List.{map-append, length-append}
use Rattle.pipe_model.specs.declared.event.Event.{Event}
use Rattle.pipe_model.specs.declared.ticket.BookEntry.{BookEntry}
use Rattle.pipe_model.specs.Language.SyntaxTree.{tree_of}
use Rattle.pipe_model.specs.Runs.ControlRun.{ControlRun}
use Rattle.pipe_model.specs.Runs.Allowed.{ControlAllows}
use Rattle.pipe_model.specs.Runs.State.{State}
use Rattle.pipe_frame.specs.declared.token.FrameToken.{FrameToken}
use Rattle.pipe_frame.specs.Replies.{replies_of}
use Rattle.pipe_frame.specs.RunningTokens.{IsTokenOf}
use Rattle.pipe_frame.specs.Ties.{BelongsTo}
use Rattle.pipe_frame.specs.TokenFields.{TokenFields, fields_of}
use Rattle.run_laws.proofs.LogMerge.ControlStates.{allowed_at, control_state_is}
use Rattle.frame_book.specs.BookStates.{BookState, IsOut, events_of, item_or, last_ticket, stamped, state_of, with_events}
use Rattle.frame_book.specs.TokenLaws.{EndsNoneOf}
use Rattle.frame_book.proofs.StartedInstances.OtherTokens.{tokens_stay_until_their_ends}
use Rattle.book_tests.specs.declared.plan.Plan.{Plan}
use Rattle.book_tests.specs.HeldTokens.{IsGiven}
use Rattle.book_tests.specs.PlanStates.{IsPlanAt, plan_tie}

-- the events end no instance of iteration j
abbrev pub EndNoneOf : ℕ → List Event → Type 0
EndNoneOf j [] = Unit {0}
EndNoneOf j (e ∷ es) = EndsNoneOf j e × EndNoneOf j es

-- the token of a running instance stays one over events that end none of its iteration
pub stays_over : {limit : ℕ} {c : State} (es more : List Event) (t : TokenFields) → ControlRun limit (es ++ more) c
    → EndNoneOf t.iteration more
    → IsTokenOf es t → IsTokenOf (es ++ more) t
stays_over es [] t run quiet h = subst (λ l. IsTokenOf l t) (sym (append-nil es)) h
stays_over {limit} {c} es (e ∷ more) t run quiet h =
    let allowed = allowed_at run es e more refl in
    let same = control_state_is allowed.before in
    let one = tokens_stay_until_their_ends limit es e t (subst (λ s. ControlRun limit es s) same allowed.before)
    (subst (λ s. ControlAllows limit s e) same allowed.control) allowed.no_access quiet.0 h in
    let split = append_assoc es (e ∷ []) more in
    subst (λ l. IsTokenOf l t) split (stays_over (es ++ e ∷ []) more t (subst (λ l. ControlRun limit l c) (sym split) run) quiet.1 one)

-- a book has changed by these events, and nothing else but what belongs to iteration i
pub record Changes (i : ℕ) (v w : BookState) (events : List Event) : Type 0 where
  pub program : w.program ≡ v.program
  pub input : w.input ≡ v.input
  pub lists : w.lists ≡ v.lists
  pub log : events_of w.log ≡ events_of v.log ++ events
  pub longer : length v.log ≤ length w.log
  pub quiet : (j : ℕ) → j ≢ i → EndNoneOf j events
  pub out : (j : ℕ) → j ≢ i → IsOut v j → IsOut w j
  pub traces : (j : ℕ) → j ≢ i → item_or [] w.traces j ≡ item_or [] v.traces j

-- then the tokens of other iterations are still given
pub still_given : (i : ℕ) (v w : BookState) (events : List Event) → Changes i v w events → ControlRun w.limit (events_of w.log) (state_of w)
    → (t : FrameToken Plan) → t.iteration ≢ i → IsGiven v t → IsGiven w t
still_given i v w events ch run t other g =
    let now = g.out.now in
    let longer = ch.longer in
    record {
      out = record {
        out = ch.out t.iteration other g.out.out;
        token = subst (λ es. IsTokenOf es (fields_of t)) (sym ch.log)
            (stays_over (events_of v.log) events (fields_of t) (subst (λ es. ControlRun w.limit es (state_of w)) ch.log run)
            (ch.quiet t.iteration other) g.out.token);
        now = omega (arith, now, longer);
      };
      payload = record {
        belongs = subst (λ l. BelongsTo (plan_tie t.payload) l) (sym ch.lists) g.payload.belongs;
        ready = subst (λ p. IsPlanAt (tree_of p) w.input t.payload t.iteration (map replies_of (item_or [] w.traces t.iteration)))
            (sym ch.program)
            (subst (λ l. IsPlanAt (tree_of v.program) l t.payload t.iteration (map replies_of (item_or [] w.traces t.iteration)))
            (sym ch.input)
            (subst (λ xs. IsPlanAt (tree_of v.program) v.input t.payload t.iteration (map replies_of xs))
            (sym (ch.traces t.iteration other)) g.payload.ready));
      };
      knows = g.knows;
      parts = ap (λ xs. length (map replies_of xs)) (ch.traces t.iteration other) ∙ g.parts;
    }

-- ---- logs with more events

events_of_stamped : (t : ℕ) (es : List Event) → events_of (stamped t es) ≡ es
events_of_stamped t [] = refl
events_of_stamped t (e ∷ es) = ap (λ l. e ∷ l) (events_of_stamped (suc t) es)

pub events_of_more : (log : List BookEntry) (now : ℕ) (es : List Event) → events_of (with_events log now es) ≡ events_of log ++ es
events_of_more log now es =
    map-append (λ (b : BookEntry). b.event) log (stamped (max (last_ticket log) now) es)
    ∙ ap (λ l. events_of log ++ l) (events_of_stamped (max (last_ticket log) now) es)

pub longer_with : (log : List BookEntry) (now : ℕ) (es : List Event) → length log ≤ length (with_events log now es)
longer_with log now es =
    let sum = length-append log (stamped (max (last_ticket log) now) es) in
    omega (arith, sum)
