-- A stop keeps the tables.
use Rattle.std.proofs.Common.{◌≡◌, ℕ, ℤ, ◌^◌, ◌<◌, List, [], ◌∷◌, length, map, refl, ap, sym, ◌∙◌, arith, subst, Bool, true, false, not}
use Rattle.std.proofs.Common.{append-nil, Option, inl, inr}
use Rattle.std.proofs.lemmas.List.{length-map, length_push}
use Rattle.pipe_model.specs.declared.event.Event.{Event}
use Rattle.pipe_model.specs.declared.event.Event.TheVariants.{Stop}
use Rattle.pipe_model.specs.declared.ticket.BookEntry.{BookEntry}
use Rattle.pipe_model.specs.declared.ticket.Entry.{Entry}
use Rattle.pipe_model.specs.Pipelines.Behaviour.{Performs}
use Rattle.pipe_model.specs.Runs.ControlRun.{ControlRunThen}
use Rattle.pipe_model.specs.Pipelines.Pipeline.{Pipeline}
use Rattle.pipe_model.specs.Runs.RunLogs.{state_after}
use Rattle.pipe_model.specs.Orders.Starts.{starts_of}
use Rattle.pipe_model.specs.Runs.State.{State, Frame, next_state}
use Rattle.pipe_model.specs.Language.SyntaxTree.{SyntaxTree}
use Rattle.pipe_model.specs.Runs.TicketLogs.{end_actions, laid_traces}
use Rattle.pipe_frame.specs.Ties.{Tie}
use Rattle.frame_book.specs.BookStates.{with_events, events_of, last_ticket, made}
use Rattle.frame_book.specs.Invariant.{IsBook, HasActions, actions_in, MatchesFrame, stop_one}
use Rattle.frame_rows.specs.RowsOfFrames.{AreRows, IsUnheld}
use Rattle.frame_rows.specs.IterationRows.{IterationRow}
use Rattle.frame_book.specs.Tables.{Tables}
use Rattle.frame_book.proofs.BookLogs.AtEvents.{after_event}
use Rattle.frame_rows.proofs.Totals.{rows_fit}
use Rattle.frame_book.proofs.BookLogs.LogEntries.{rise_with, last_ticket_with, length_with, end_actions-push, entry_of}

-- rows of a stopped book
rows_stopped : {M : Type 0} → (going : Bool) (fs : List Frame) (rs : List (IterationRow M)) → AreRows going fs rs → AreRows false fs rs
rows_stopped going [] [] h = tt
rows_stopped going [] (r ∷ rs) h = absurd h
rows_stopped going (f ∷ fs) [] h = absurd h
rows_stopped going (f ∷ fs) (r ∷ rs) h = (
  record {
    numbers = h.0.numbers;
    status = h.0.status;
    marks = h.0.marks;
    fits = h.0.fits;
    traces =
        λ u. h.0.traces (held u);
    home = λ e. absurd (let q : false ≡ true = e in cc);
  },
  rows_stopped going fs rs h.1,
)
  where
    held : {X : Type 0} {token : Option X} → IsUnheld (not false) token → IsUnheld (not going) token
    held (inl e) = absurd (let q : true ≡ false = e in cc)
    held (inr e) = inr e

-- a stop ends no instance
actions-stop : (log : List BookEntry) (now : ℕ) (traces : List (List (List Entry))) (i : ℕ)
    → actions_in (with_events log now (Stop ∷ [])) traces i ≡ actions_in log traces i
actions-stop log now traces i = ap (λ l. map (λ a. a.action) (laid_traces (made traces i) 0 l))
    (end_actions-push i log (entry_of log now Stop) ∙ append-nil (end_actions i log))

-- a stop keeps what the iterations have done
actions_stopped : (p : Pipeline) (log : List BookEntry) (now : ℕ) (traces : List (List (List Entry))) (c : State)
    → HasActions p log traces c → HasActions p (with_events log now (Stop ∷ [])) traces (next_state c Stop)
actions_stopped p log now traces c h = record {
  performs = λ i. subst (Performs (p.behaviour i)) (sym (actions-stop log now traces i)) (h.performs i);
  matches = λ i f e. subst (MatchesFrame f) (sym (actions-stop log now traces i)) (h.matches i f e);
}

module _ {M : Type 0} (Whole : SyntaxTree → M → Type 0) (ReadyAt : SyntaxTree → List ℤ → M → ℕ → List (List ℤ) → Type 0)
    (tie : M → Tie) where
  -- the tables after a stop
  abbrev pub with_stop : Tables M → Tables M
  with_stop b = record b { ledger = record { log = with_events b.ledger.log 0 (Stop ∷ []); room = b.ledger.room }; stopped = true }

  -- there is room for entries
  pub log_room : (b : Tables M) → IsBook Whole ReadyAt tie b → b.stopped ≡ false → length b.ledger.log < b.ledger.room
  log_room b h going =
      let es = events_of b.ledger.log in
      let wide : length es ≡ length b.ledger.log = length-map b.ledger.log (λ (x : BookEntry). x.event) in
      let fit = rows_fit _ _ b.rows h.rows.each in
      let started = h.rows.started in
      let entries = h.logged.entries in
      let zero : stop_one (state_after es).stopped ≡ 0 = ap stop_one (sym h.stopped ∙ going) in
      let room = h.sized.log_room in
      omega (arith, wide, fit, started, entries, zero, room)

  -- tickets do not wrap
  pub last_below : (b : Tables M) → IsBook Whole ReadyAt tie b → b.stopped ≡ false → last_ticket b.ledger.log < 2 ^ 63
  last_below b h going =
      let room = log_room b h going in
      let size = h.sized.log_room in
      let total = h.sized.bounded in
      let last = h.last in
      omega (arith, room, size, total, last)

  free : {X : Type 0} {token : Option X} {t : Bool} → t ≡ false → IsUnheld true token → IsUnheld t token
  free e u = inl e

  pub stop_keeps : (b : Tables M) → IsBook Whole ReadyAt tie b → b.stopped ≡ false → IsBook Whole ReadyAt tie (with_stop b)
  stop_keeps b h going =
      let log = b.ledger.log in
      let c : State = state_after (events_of log) in
      let es : List Event = events_of log in
      let alive : c.stopped ≡ false = sym h.stopped ∙ going in
      let long = length_with log 0 Stop in
      let last = h.last in
      after_event Whole ReadyAt tie (with_stop b) log 0 Stop (starts_of es) refl (append-nil (starts_of es)) record {
        sized = h.sized;
        logged = record {
          run = ControlRunThen h.logged.run Stop refl alive tt;
          sound = h.logged.sound;
          entries = (let e = h.logged.entries in let z : stop_one c.stopped ≡ 0 = ap stop_one alive in let l = length_push es Stop in
              omega (arith, e, z, l));
        };
        rows = record { each = rows_stopped _ _ b.rows h.rows.each; marks = h.rows.marks; started = h.rows.started };
        actions = actions_stopped _ log 0 _ c h.actions;
        counted = λ i u. ap length (end_actions-push i log (entry_of log 0 Stop) ∙ append-nil (end_actions i log))
            ∙ h.counted i (free alive u);
        tokens = record {
          tokens = λ e. absurd (cc);
          nows = λ i t e. (let n = h.tokens.nows i t e in omega (arith, n, long));
          at_home =
              h.tokens.at_home;
        };
        down = h.down;
        right = h.right;
        stopped = refl;
        closed = h.closed;
        alive = h.alive;
        size = h.size;
        some = h.some;
        last = (let q = last_ticket_with log 0 Stop in omega (arith, q, long, last));
        reads = (let r = h.reads in omega (arith, r, long));
        reserve = h.reserve;
        rise = rise_with log 0 Stop h.rise;
      }
