-- A stopped hall is closed by raising the ticket of `Stop`.
use Rattle.std.proofs.Common.{◌≡◌, ◌∙◌, refl, sym, ap, subst, ℕ, ◌<◌, List, [], ◌∷◌, ◌++◌, length, max, All, true, false, arith}
use Rattle.std.proofs.lemmas.Bool.{false≢true}
use Rattle.std.proofs.lemmas.List.{map-append}
use Rattle.std.proofs.lemmas.List.Elements.{All-weaker}
use Rattle.pipe_model.specs.declared.event.Event.{Event}
use Rattle.pipe_model.specs.declared.event.Event.TheVariants.{Begin, Access, Advance, Enter, Finish, Stop}
use Rattle.pipe_model.specs.declared.ticket.BookEntry.{BookEntry}
use Rattle.pipe_model.specs.declared.ticket.ShardEntry.{ShardEntry}
use Rattle.pipe_model.specs.Pipelines.Behaviour.{Performs}
use Rattle.pipe_model.specs.Races.Columns.{nodes_at}
use Rattle.pipe_model.specs.Runs.Allowed.{IsRunning}
use Rattle.pipe_model.specs.Runs.ControlRun.{ControlRun}
use Rattle.pipe_model.specs.Runs.RunLogs.{state_after}
use Rattle.pipe_model.specs.Runs.State.{State, initial_state, next_state, own_columns}
use Rattle.pipe_model.specs.Runs.TicketLogs.{end_tickets, start_tickets, ticket_at}
use Rattle.frame_book.specs.BookStates.{events_of, last_ticket, pipeline_in, state_of, with_last_raised}
use Rattle.frame_book.proofs.BookLogs.LogEntries.{last_ticket_raised}
use Rattle.frame_book.proofs.Keeping.RaiseStop.{actions_raised, events_raised, rise_raised}
use Rattle.run_laws.proofs.LogMerge.ControlStates.{IsAllowedAt, allowed_at, control_state_is}
use Rattle.run_laws.proofs.LogMerge.InstanceTickets.{end_tickets-append, start_tickets-append}
use Rattle.run_laws.proofs.LogMerge.LastElements.{HasLast, IsEmpty, LastOf, last_of_list}
use Rattle.run_laws.proofs.RunStates.FrontAndBack.{state_from-push}
use Rattle.hall_laws.specs.HallRuns.{RaisedStopsClose, with_raised_stop}

-- the last entry of a stopped book is `Stop`
record EndsAt (log : List BookEntry) : Type 0 where
  pub earlier : List BookEntry
  pub ticket : ℕ
  pub is : log ≡ earlier ++ record { ticket = ticket; event = Stop } ∷ []

book_ends : (limit : ℕ) (log : List BookEntry) (c : State) → ControlRun limit (events_of log) c → c.stopped ≡ true → EndsAt log
book_ends limit log c r stopped = by_last log (last_of_list log) refl
  where
    by_event : (earlier : List BookEntry) (t : ℕ) (e : Event) → log ≡ earlier ++ record { ticket = t; event = e } ∷ []
        → (state_after (events_of earlier)).stopped ≡ false → (next_state (state_after (events_of earlier)) e).stopped ≡ true → EndsAt log
    by_event earlier t (Begin i) is going q = absurd (false≢true (sym going ∙ q))
    by_event earlier t (Access i a) is going q = absurd (false≢true (sym going ∙ q))
    by_event earlier t (Advance i k n) is going q = absurd (false≢true (sym going ∙ q))
    by_event earlier t (Enter i) is going q = absurd (false≢true (sym going ∙ q))
    by_event earlier t (Finish i d) is going q = absurd (false≢true (sym going ∙ q))
    by_event earlier t Stop is going q = record { earlier = earlier; ticket = t; is = is }

    by_last : (l : List BookEntry) → LastOf l → log ≡ l → EndsAt log
    by_last l IsEmpty is =
        let none : false ≡ true = sym (ap (λ (s : State). s.stopped)
        (control_state_is r ∙ ap (λ (bs : List BookEntry). state_after (events_of bs)) is)) ∙ stopped in
        absurd (false≢true none)
    by_last l (HasLast earlier b) is =
        let events : events_of log ≡ events_of earlier ++ b.event ∷ [] = ap events_of is ∙ map-append (λ (x : BookEntry). x.event) earlier
        (b ∷ []) in
        let at_last : IsAllowedAt limit (events_of earlier) b.event = allowed_at r (events_of earlier) b.event [] events in
        let going : (state_after (events_of earlier)).stopped ≡ false = ap (λ (s : State). s.stopped)
        (sym (control_state_is at_last.before)) ∙ at_last.going in
        let over : (next_state (state_after (events_of earlier)) b.event).stopped ≡ true =
        ap (λ (s : State). s.stopped) (sym (control_state_is r ∙ ap state_after events ∙ state_from-push initial_state
        (events_of earlier) b.event)) ∙ stopped in
        by_event earlier b.ticket b.event is going over

-- ---- tickets of instances

raised_push : (earlier : List BookEntry) (b : BookEntry) (least : ℕ) → with_last_raised (earlier ++ b ∷ []) least ≡ earlier ++ record b
    { ticket = max b.ticket least } ∷ []
raised_push [] b least = refl
raised_push (x ∷ []) b least = refl
raised_push (x ∷ (y ∷ earlier)) b least = ap (λ l. x ∷ l) (raised_push (y ∷ earlier) b least)

abbrev stop_at : ℕ → BookEntry
stop_at t = record { ticket = t; event = Stop }

starts_raised : (i : ℕ) (log : List BookEntry) (least : ℕ) → EndsAt log → start_tickets i (with_last_raised log least) ≡ start_tickets i log
starts_raised i log least h =
    ap (λ l. start_tickets i (with_last_raised l least)) h.is ∙ ap (start_tickets i) (raised_push h.earlier (stop_at h.ticket) least)
    ∙ start_tickets-append i h.earlier (stop_at (max h.ticket least) ∷ []) ∙ sym (start_tickets-append i h.earlier (stop_at h.ticket ∷ []))
    ∙ ap (start_tickets i) (sym h.is)

ends_raised : (i : ℕ) (log : List BookEntry) (least : ℕ) → EndsAt log → end_tickets i (with_last_raised log least) ≡ end_tickets i log
ends_raised i log least h =
    ap (λ l. end_tickets i (with_last_raised l least)) h.is ∙ ap (end_tickets i) (raised_push h.earlier (stop_at h.ticket) least)
    ∙ end_tickets-append i h.earlier (stop_at (max h.ticket least) ∷ []) ∙ sym (end_tickets-append i h.earlier (stop_at h.ticket ∷ []))
    ∙ ap (end_tickets i) (sym h.is)

not_empty : (log : List BookEntry) → EndsAt log → 0 < length log
not_empty [] h = absurd (no_last h.earlier h.is)
  where
    no_last : (earlier : List BookEntry) → [] ≡ earlier ++ stop_at h.ticket ∷ [] → ⊥
    no_last [] e = cc
    no_last (x ∷ earlier) e = cc
not_empty (b ∷ log) h = omega arith

pub raised_stops_close : RaisedStopsClose
raised_stops_close v before shards least book logs stopped below =
    let at_end : EndsAt v.log = book_ends v.limit v.log (state_of v) book.control stopped in
    let same : events_of (with_last_raised v.log least) ≡ events_of v.log = events_raised v.log least in
    let raised = with_raised_stop v least in
    let last = last_ticket_raised v.log least (not_empty v.log at_end) in
    record {
      book = record {
        control = subst (λ es. ControlRun v.limit es (state_after es)) (sym same) book.control;
        performs = λ i. subst (Performs ((pipeline_in v).behaviour i)) (sym (actions_raised v.log least v.traces i)) (book.performs i);
        out = λ going i o. subst (λ es. IsRunning (state_after es) i) (sym same)
            (book.out (ap (λ es. (state_after es).stopped) (sym same) ∙ going) i o);
      };
      logs = record {
        some = logs.some;
        traces = λ x k l out. logs.traces x k l
            (λ o. out (record {
              out = o.out;
              last = ap (λ es. length (nodes_at (own_columns (state_after es)) x.iteration)) same
                  ∙ o.last;
            }));
        tickets = record {
          in_book = rise_raised v.log least logs.tickets.in_book;
          in_shards = logs.tickets.in_shards;
          in_instance = logs.tickets.in_instance;
          from_start = λ i k x m. (
              let s = logs.tickets.from_start i k x m in
              (s.0, ap (λ l. ticket_at l k) (starts_raised i v.log least at_end) ∙ s.1, s.2));
          to_end = λ i k x t m e. logs.tickets.to_end i k x t m (ap (λ l. ticket_at l k) (sym (ends_raised i v.log least at_end)) ∙ e);
        };
        reads = logs.reads;
      };
      stop = λ q. All-weaker (All (λ (e : ShardEntry). e.ticket < least)) (All (λ (e : ShardEntry). e.ticket < last_ticket raised.log))
          (λ log h. All-weaker (λ (e : ShardEntry). e.ticket < least) (λ (e : ShardEntry). e.ticket < last_ticket raised.log)
          (λ e l. omega (arith, l, last)) log h) shards below;
    }
