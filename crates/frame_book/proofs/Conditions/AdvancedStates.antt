-- A book after an iteration has named a stage, and after it has entered the stage.
use Rattle.std.proofs.Common.{◌≡◌, ℕ, ℤ, zero, suc, ◌+◌, ◌<◌, ◌≤◌, List, [], ◌∷◌, ◌++◌, length, max, set, get_or, refl, ap, ap₂, sym, ◌∙◌}
use Rattle.std.proofs.Common.{arith, subst, Bool, true, false, not, cond, ◌&&◌, Option}
use Rattle.std.proofs.lemmas.List.{get_or-set_same, set-set}
use Rattle.pipe_model.specs.declared.event.Event.TheVariants.{Advance, Enter}
use Rattle.pipe_model.specs.declared.node.Kind.{Kind}
use Rattle.pipe_model.specs.declared.node.Kind.TheVariants.{Wait}
use Rattle.pipe_model.specs.declared.stage.Counter.{Counter}
use Rattle.pipe_model.specs.declared.stage.StageEnd.{StageEnd}
use Rattle.pipe_model.specs.declared.ticket.Entry.{Entry}
use Rattle.pipe_model.specs.Runs.Allowed.{MayEnter, LeftHasPassed}
use Rattle.pipe_model.specs.Pipelines.Behaviour.{Staged}
use Rattle.pipe_model.specs.Runs.RunLogs.{state_after}
use Rattle.pipe_model.specs.Runs.State.{State, Frame, with_action, next_state}
use Rattle.pipe_model.specs.declared.status.Status.TheVariants.{Pending}
use Rattle.pipe_model.specs.Language.SyntaxTree.{SyntaxTree}
use Rattle.pipe_frame.specs.LeftCounters.{must_read_left}
use Rattle.pipe_frame.specs.Ties.{Tie}
use Rattle.pipe_frame.specs.TokenFields.{TokenFields}
use Rattle.run_laws.proofs.RunStates.Frames.{frame_at_updated}
use Rattle.frame_book.specs.BookStates.{BookState, TokenState, Out, Kept, Spent, events_of, state_of, last_ticket, with_events, item_or}
use Rattle.frame_book.specs.CallEffects.{with_named, with_entered, kept_now, reads_left}
use Rattle.frame_book.specs.GivenTokens.{IsOutOf}
use Rattle.frame_book.specs.Invariant.{IsBook}
use Rattle.frame_book.specs.Tables.{Tables}
use Rattle.frame_book.proofs.Conditions.KeptCounters.{passed_beside, two_events}
use Rattle.frame_book.proofs.BookLogs.LogEntries.{events_of_with, state_after-push}

-- an iteration whose token is out has begun
pub out_inside : (xs : List TokenState) (i : ℕ) → get_or xs i Spent ≡ Out → i < length xs
out_inside [] i e = absurd (let q : Spent ≡ Out = e in cc)
out_inside (x ∷ xs) zero e = omega arith
out_inside (x ∷ xs) (suc i) e = let h = out_inside xs i e in omega (arith, h)

-- what is counted is at most 1
pub count_small : (b : Bool) → cond b 1 0 ≤ 1
count_small true = omega arith
count_small false = omega arith

-- a book that has read more counters
pub more_reads : {M : Type 0} {Whole : SyntaxTree → M → Type 0} {ReadyAt : SyntaxTree → List ℤ → M → ℕ → List (List ℤ) → Type 0}
    {tie : M → Tie} {b : Tables M} → IsBook Whole ReadyAt tie b → (reads : ℕ) → reads ≤ length b.ledger.log
    → IsBook Whole ReadyAt tie (record b { reads = reads })
more_reads h reads few = record {
  sized = h.sized;
  logged = h.logged;
  rows = h.rows;
  actions = h.actions;
  counted = h.counted;
  tokens = h.tokens;
  down = h.down;
  right = h.right;
  stopped = h.stopped;
  closed = h.closed;
  alive = h.alive;
  size = h.size;
  some = h.some;
  last = h.last;
  reads = few;
  reserve = h.reserve;
  rise = h.rise;
}

-- if nothing was stopped, whether the counter is read depends on the kept one alone
pub reads_is : (v : BookState) (t : TokenFields) (end : StageEnd) → (state_of v).stopped ≡ false
    → reads_left v t end ≡ must_read_left t.iteration t.folded end
reads_is v t end going = ap (λ s. not s && must_read_left t.iteration t.folded end) going

module _ {v : BookState} {t : TokenFields} (kind : Kind) (n : ℤ) (trace : List Entry) (folded : Option Counter)
    (going : (state_of v).stopped ≡ false) (out : IsOutOf v t) where
  abbrev pub t1 : TokenFields
  t1 = record t { folded = folded }

  abbrev pub v1 : BookState
  v1 = with_named v t1 (Advance t.iteration kind n) trace

  abbrev pub u : Frame → Frame
  u = with_action (Staged kind n) (Pending kind n)

  state_is : state_of v1 ≡ next_state (state_of v) (Advance t.iteration kind n)
  state_is = ap state_after (events_of_with v.log t.now (Advance t.iteration kind n)) ∙ state_after-push (events_of v.log)
      (Advance t.iteration kind n)

  pub going1 : (state_of v1).stopped ≡ false
  going1 = ap (λ (s : State). s.stopped) state_is ∙ going

  pub may1 : (kind ≡ Wait → LeftHasPassed (state_of v).frames t.iteration n) → MayEnter (state_of v1) t.iteration
  may1 free = subst (λ s. MayEnter s t.iteration) (sym state_is) (record {
    frame = u out.token.running.frame;
    kind = kind;
    number = n;
    is = frame_at_updated (state_of v).frames t.iteration out.token.running.frame u out.token.running.is;
    named = refl;
    free = λ w. passed_beside (state_of v).frames t.iteration u n (free w);
  })

  place1 : get_or v1.tokens t.iteration Spent ≡ Kept (record t1 { now = 1 + max (last_ticket v.log) t.now })
  place1 = get_or-set_same v.tokens t.iteration (Kept (record t1 { now = 1 + max (last_ticket v.log) t.now })) Spent
      (out_inside v.tokens t.iteration out.out)

  pub entered1 : (one : ℕ) → with_entered (record v1 { reads = v1.reads + one }) t.iteration ≡ record v {
    log = with_events v.log t.now (Advance t.iteration kind n ∷ Enter t.iteration ∷ []);
    traces = set v.traces t.iteration (item_or [] v.traces t.iteration ++ trace ∷ []);
    tokens = set v.tokens t.iteration Out;
    reads = v.reads + one;
  }
  entered1 one =
      let log = ap (λ p. with_events v1.log (kept_now p) (Enter t.iteration ∷ [])) place1 ∙ two_events v.log t.now
      (Advance t.iteration kind n) (Enter t.iteration) in
      let places = set-set v.tokens t.iteration (Kept (record t1 { now = 1 + max (last_ticket v.log) t.now })) Out in
      ap₂ (λ l p. record v { log = l; traces = v1.traces; tokens = p; reads = v.reads + one }) log places
