-- The calls of the book that start an instance, change nothing, or stop the run.
use Rattle.std.proofs.Common.{◌≡◌, ◌≢◌, ℕ, zero, suc, ◌+◌, ◌<◌, ◌≤◌, ◌&&◌, max, List, [], ◌∷◌, ◌++◌, map, length, get_or, set, refl}
use Rattle.std.proofs.Common.{◌==◌, sym, ap, ap₂, ◌∙◌, subst, arith, cond, ne_eqb, Bool, true, false, Option, Some, None, append-nil}
use Rattle.std.proofs.lemmas.List.{length-append, map-append, same_from_push, length_push, get_or_push, length-set, length-map}
use mathlib.Core.Logic.{dite}
use native.Mathlib.Decide.{dec_le}
use Rattle.pipe_model.specs.declared.event.Event.{Event}
use Rattle.pipe_model.specs.declared.event.Event.TheVariants.{Begin, Advance, Enter, Finish, Stop, Access}
use Rattle.pipe_model.specs.declared.node.NodeId.{NodeId}
use Rattle.pipe_model.specs.declared.status.Status.TheVariants.{Running, Pending}
use Rattle.pipe_model.specs.declared.ticket.BookEntry.{BookEntry}
use Rattle.pipe_model.specs.Orders.OrderMarks.{instance_marks}
use Rattle.pipe_model.specs.Orders.Starts.{IsStarted, started_by, starts_of, start_number}
use Rattle.pipe_model.specs.Races.Columns.{at, nodes_at}
use Rattle.pipe_model.specs.Races.DeterminacyRaces.{Among, Here, Later}
use Rattle.pipe_model.proofs.Members.{none_among}
use Rattle.std.proofs.lemmas.Bool.{eqb-true}
use Rattle.pipe_frame.specs.Replies.{replies_of}
use Rattle.pipe_model.specs.Runs.Allowed.{ControlAllows, IsRunning}
use Rattle.pipe_model.specs.Runs.ControlRun.{ControlRun, EmptyControlRun, ControlRunThen, is_access}
use Rattle.pipe_model.specs.Runs.RunLogs.{columns_after, state_after}
use Rattle.pipe_model.specs.Runs.State.{Frame, State, frame_at, fresh_frame, initial_state, next_state, own_columns}
use Rattle.pipe_model.specs.Runs.TicketLogs.{end_ticket, end_tickets, if_ticket, start_tickets, ticket_at}
use Rattle.pipe_model.specs.Runs.TicketOrder.{end_ticket_of, start_ticket_of}
use Rattle.pipe_frame.specs.RunningTokens.{IsTokenOf, left_joined}
use Rattle.pipe_frame.specs.TokenFields.{TokenFields}
use Rattle.run_laws.proofs.ListOrders.SoundStarts.{control_starts_sound}
use Rattle.run_laws.proofs.ListOrders.StartsOfRuns.{IsStartSound, grew_begin, grew_enter}
use Rattle.run_laws.proofs.LogMerge.InstanceCounts.{control_counts, end_tickets_counted, start_tickets_counted, started_in, ended_in}
use Rattle.run_laws.proofs.LogMerge.InstanceCounts.{ended_by_status}
use Rattle.run_laws.proofs.LogMerge.InstanceTickets.{end_tickets-append, ticket_within, start_has}
use Rattle.run_laws.proofs.RunStates.Frames.{frame_at_other, frame_at_past, frame_at_push, length-update_frame}
use Rattle.run_laws.proofs.RunStates.GrowingColumns.{columns-action}
use Rattle.frame_book.specs.BookStates.{BookState, HasRisingTickets, IsOut, Kept, Out, Spent, timed_access, events_of, item_or}
use Rattle.frame_book.specs.BookStates.{last_ticket, made, replies_at, state_of, stamped, with_events}
use Rattle.frame_book.specs.GivenTokens.{IsOutOf}
use Rattle.frame_book.specs.TokenLaws.{EndsNoneOf}
use Rattle.frame_book.proofs.BookLogs.LogEntries.{below_last, events_of_with, starts_of-push, state_after-push}
use Rattle.frame_book.proofs.StartedInstances.GrownMarks.{left_joined_same, marks_same}
use Rattle.frame_book.proofs.StartedInstances.OtherTokens.{tokens_stay_until_their_ends}
use Rattle.hall_table.specs.SeatViews.{HallConstants, InstanceData, constants_of}
use Rattle.hall_table.specs.Logs.{book_trace, trace_by}
use Rattle.hall_table.specs.BookParts.{HasSeats, KnowsInstance, IsTimelyTrace, StartedBy}
use Rattle.hall_table.specs.Steps.{new_instance}
use Rattle.hall_table.specs.BookCalls.{IsBookCall, LeavesOthers}
use Rattle.pipe_model.specs.Runs.Run.{state_from}
use Rattle.pipe_frame.specs.HallViews.{BeginsWith}
use Rattle.frame_book.specs.CallEffects.{after_stop}
use Rattle.hall_table.proofs.Boards.{begins_more}
use Rattle.hall_table.proofs.ControlPrefixes.{run_state}
use Rattle.hall_table.proofs.CallEffects.{start_stays}
use Rattle.hall_shards.proofs.ListItems.{set_other}

-- ---- lists

pub past : {A : Type 0} (xs : List A) (i : ℕ) (d : A) → length xs ≤ i → get_or xs i d ≡ d
past [] i d l = refl
past (x ∷ xs) zero d l = absurd (omega (arith, l))
past (x ∷ xs) (suc i) d l = past xs i d (omega (arith, l))

pub push_other : {A : Type 0} (xs : List A) (x d : A) (j : ℕ) → j ≢ length xs → get_or (xs ++ x ∷ []) j d ≡ get_or xs j d
push_other [] x d zero ne = absurd (ne refl)
push_other [] x d (suc j) ne = refl
push_other (y ∷ xs) x d zero ne = refl
push_other (y ∷ xs) x d (suc j) ne = push_other xs x d j (λ e. ne (ap suc e))

-- ---- the last event of a control run

pub record LastEvent (limit : ℕ) (es : List Event) (e : Event) : Type 0 where
  pub run : ControlRun limit es (state_after es)
  pub allows : ControlAllows limit (state_after es) e
  pub quiet : is_access e ≡ false
  pub going : (state_after es).stopped ≡ false

pub last_of : {limit : ℕ} {xs : List Event} {c : State} → ControlRun limit xs c → (es : List Event) (e : Event) → xs ≡ es ++ e ∷ []
    → LastEvent limit es e
last_of EmptyControlRun es e q = absurd (no_push es e q)
  where
    no_push : (es : List Event) (e : Event) → [] ≡ es ++ e ∷ [] → ⊥
    no_push [] e q = cc
    no_push (x ∷ es) e q = cc
last_of {limit} (ControlRunThen {events = fs} {c = d} r f n g h) es e q =
    let both = same_from_push fs es f e q in
    let state : d ≡ state_after es = run_state r ∙ ap state_after both.0 in
    record {
      run = subst (λ l. ControlRun limit l (state_after l)) both.0 (subst (λ s. ControlRun limit fs s) (run_state r) r);
      allows = subst (λ s. ControlAllows limit s e) state (subst (λ x. ControlAllows limit d x) both.1 h);
      quiet = ap is_access (sym both.1) ∙ n;
      going = ap (λ (s : State). s.stopped) (sym state) ∙ g;
    }

-- ---- an event of an iteration

-- the event concerns no other iteration
abbrev pub IsOf : ℕ → Event → Type 0
IsOf i (Begin j) = j ≡ i
IsOf i (Access j a) = ⊥
IsOf i (Advance j k n) = j ≡ i
IsOf i (Enter j) = j ≡ i
IsOf i (Finish j e) = j ≡ i
IsOf i Stop = Unit {0}

-- the frames of other iterations stay
frame_other : (limit : ℕ) (s : State) (e : Event) (i j : ℕ) → ControlAllows limit s e → IsOf i e → j ≢ i → (f : Frame)
    → frame_at (next_state s e).frames j ≡ Some f → frame_at s.frames j ≡ Some f
frame_other limit s (Begin k) i j may of ne f is = dite (dec_le (suc j) (length s.frames))
    (λ l. sym (frame_at_push s.frames fresh_frame j l) ∙ is)
    (λ nl. (
    let n = may.number in
    let past : frame_at (s.frames ++ fresh_frame ∷ []) j ≡ None = frame_at_past (s.frames ++ fresh_frame ∷ []) j
    (let w = length_push s.frames fresh_frame in let z : j ≢ length s.frames = λ q. ne (q ∙ (sym n ∙ of)) in omega (arith, w, nl, z)) in
    absurd (let z : None ≡ Some f = sym past ∙ is in cc)))
frame_other limit s (Access k a) i j may of ne f is = absurd of
frame_other limit s (Advance k n m) i j may of ne f is = sym (frame_at_other s.frames k j _ (λ q. ne (q ∙ of))) ∙ is
frame_other limit s (Enter k) i j may of ne f is = sym (frame_at_other s.frames k j _ (λ q. ne (q ∙ of))) ∙ is
frame_other limit s (Finish k e) i j may of ne f is = sym (frame_at_other s.frames k j _ (λ q. ne (q ∙ of))) ∙ is
frame_other limit s Stop i j may of ne f is = is

ends_none : (i : ℕ) (e : Event) (j : ℕ) → IsOf i e → j ≢ i → EndsNoneOf j e
ends_none i (Begin k) j of ne = tt
ends_none i (Access k a) j of ne = tt
ends_none i (Advance k n m) j of ne = λ q. ne (sym q ∙ of)
ends_none i (Enter k) j of ne = tt
ends_none i (Finish k e) j of ne = λ q. ne (sym q ∙ of)
ends_none i Stop j of ne = tt

-- no instance of another iteration ends
no_end : (i : ℕ) (e : Event) (j t : ℕ) → IsOf i e → j ≢ i → end_ticket j e t ≡ []
no_end i (Begin k) j t of ne = refl
no_end i (Access k a) j t of ne = refl
no_end i (Advance k n m) j t of ne = ap (λ b. if_ticket b t) (ne_eqb k j (λ q. ne (sym q ∙ of)))
no_end i (Enter k) j t of ne = refl
no_end i (Finish k e) j t of ne = ap (λ b. if_ticket b t) (ne_eqb k j (λ q. ne (sym q ∙ of)))
no_end i Stop j t of ne = refl

-- the starts of a longer list
number_stays : (xs ys : List NodeId) (i k : ℕ) → start_number xs i k < length xs → start_number (xs ++ ys) i k < length (xs ++ ys)
number_stays [] ys i k l = absurd (omega (arith, l))
number_stays (x ∷ xs) ys i k l = by ((x.iteration == i) && (x.index == k)) l (λ h. number_stays xs ys i k h)
  where
    by : (t : Bool) → cond t 0 (suc (start_number xs i k)) < suc (length xs)
        → (start_number xs i k < length xs → start_number (xs ++ ys) i k < length (xs ++ ys))
        → cond t 0 (suc (start_number (xs ++ ys) i k)) < suc (length (xs ++ ys))
    by true l h = omega arith
    by false l h = let z = h (omega (arith, l)) in omega (arith, z)

-- the marks of the instances that have started
marks_stay : (limit : ℕ) (s : State) (starts : List NodeId) (e : Event) (i k : ℕ) → IsStartSound s.frames starts → ControlAllows limit s e
    → is_access e ≡ false → k < length (nodes_at (own_columns s) i)
    → instance_marks (own_columns (next_state s e)) (starts ++ started_by s e) i k ≡ instance_marks (own_columns s) starts i k
marks_stay limit s starts (Begin j) i k sound may quiet l = marks_same s.frames (next_state s (Begin j)).frames starts (at j 0) sound
    (grew_begin limit s j starts may sound) i k l
marks_stay limit s starts (Enter j) i k sound may quiet l = marks_same s.frames (next_state s (Enter j)).frames starts
    (at j (length (nodes_at (own_columns s) j))) sound (grew_enter s j starts may sound) i k l
marks_stay limit s starts (Advance j m n) i k sound may quiet l = ap₂ (λ c t. instance_marks c t i k) (columns-action s.frames j _ _)
    (append-nil starts)
marks_stay limit s starts (Finish j e) i k sound may quiet l = ap₂ (λ c t. instance_marks c t i k) (columns-action s.frames j _ _)
    (append-nil starts)
marks_stay limit s starts (Access j a) i k sound may quiet l = absurd (let q : true ≡ false = quiet in cc)
marks_stay limit s starts Stop i k sound may quiet l = ap (λ t. instance_marks (own_columns s) t i k) (append-nil starts)

-- their joined indices
joins_stay : (limit : ℕ) (s : State) (starts : List NodeId) (e : Event) (i k : ℕ) → IsStartSound s.frames starts → ControlAllows limit s e
    → is_access e ≡ false → k < length (nodes_at (own_columns s) i)
    → left_joined (own_columns (next_state s e)) i k ≡ left_joined (own_columns s) i k
joins_stay limit s starts (Begin j) i k sound may quiet l = left_joined_same s.frames (next_state s (Begin j)).frames starts (at j 0) sound
    (grew_begin limit s j starts may sound) i k l
joins_stay limit s starts (Enter j) i k sound may quiet l = left_joined_same s.frames (next_state s (Enter j)).frames starts
    (at j (length (nodes_at (own_columns s) j))) sound (grew_enter s j starts may sound) i k l
joins_stay limit s starts (Advance j m n) i k sound may quiet l = ap (λ c. left_joined c i k) (columns-action s.frames j _ _)
joins_stay limit s starts (Finish j e) i k sound may quiet l = ap (λ c. left_joined c i k) (columns-action s.frames j _ _)
joins_stay limit s starts (Access j a) i k sound may quiet l = absurd (let q : true ≡ false = quiet in cc)
joins_stay limit s starts Stop i k sound may quiet l = refl

-- ---- calls without an event

-- a book with the same log
module _ (b c : BookState) (i : ℕ) (constants : constants_of c ≡ constants_of b) (log : c.log ≡ b.log)
    (tokens : (j : ℕ) → j ≢ i → item_or Spent c.tokens j ≡ item_or Spent b.tokens j)
    (traces : (j : ℕ) → j ≢ i → item_or [] c.traces j ≡ item_or [] b.traces j) where
  pub quiet_moves : LeavesOthers b c i
  quiet_moves = record {
    constants = constants;
    added = [];
    log = log ∙ sym (append-nil b.log);
    tokens = tokens;
    traces = traces;
    stays = λ t ne h. subst (λ l. IsTokenOf (events_of l) t) (sym log) h;
    runs = λ j ne h. subst (λ l. IsRunning (state_after (events_of l)) j) log h;
    ends = λ j k end ne e. subst (λ l. end_ticket_of l j k ≡ Some end) log e;
    starts = λ x h. subst (λ l. IsStarted (starts_of (events_of l)) x) (sym log) h;
    marks = λ x h. ap (λ l. instance_marks (columns_after (events_of l)) (starts_of (events_of l)) x.iteration x.index) log;
    joins = λ x h. ap (λ l. left_joined (columns_after (events_of l)) x.iteration x.index) log;
  }

-- ---- calls with an event

module _ (b c : BookState) (i : ℕ) (e : Event) (now : ℕ) (constants : constants_of c ≡ constants_of b)
    (log : c.log ≡ with_events b.log now (e ∷ []))
    (tokens : (j : ℕ) → j ≢ i → item_or Spent c.tokens j ≡ item_or Spent b.tokens j)
    (traces : (j : ℕ) → j ≢ i → item_or [] c.traces j ≡ item_or [] b.traces j)
    (of : IsOf i e) (control : ControlRun c.limit (events_of c.log) (state_of c)) where
  abbrev entry : BookEntry
  entry = record { ticket = suc (max (last_ticket b.log) now); event = e }

  pub events_are : events_of c.log ≡ events_of b.log ++ e ∷ []
  events_are = ap events_of log ∙ events_of_with b.log now e

  pub last_event : LastEvent c.limit (events_of b.log) e
  last_event = last_of control (events_of b.log) e events_are

  pub state_is : state_of c ≡ next_state (state_of b) e
  state_is = ap state_after events_are ∙ state_after-push (events_of b.log) e

  pub starts_are : starts_of (events_of c.log) ≡ starts_of (events_of b.log) ++ started_by (state_of b) e
  starts_are = ap starts_of events_are ∙ starts_of-push (events_of b.log) e

  pub sound_before : IsStartSound (state_of b).frames (starts_of (events_of b.log))
  sound_before = control_starts_sound last_event.run

  pub event_moves : LeavesOthers b c i
  event_moves = record {
    constants = constants;
    added = entry ∷ [];
    log = log;
    tokens = tokens;
    traces = traces;
    stays = λ t ne h. subst (λ es. IsTokenOf es t) (sym events_are)
        (tokens_stay_until_their_ends c.limit (events_of b.log) e t last_event.run last_event.allows last_event.quiet
        (ends_none i e t.iteration of ne) h);
    runs = λ j ne h. (
        let q : IsRunning (next_state (state_of b) e) j = subst (λ s. IsRunning s j) state_is h in
        record { frame = q.frame; is = frame_other c.limit (state_of b) e i j last_event.allows of ne q.frame q.is; runs = q.runs });
    ends = λ j k end ne q. (
        let r : ticket_at (end_tickets j b.log ++ end_tickets j (entry ∷ [])) k ≡ Some end =
        subst (λ l. ticket_at l k ≡ Some end) (ap (end_tickets j) log ∙ end_tickets-append j b.log (entry ∷ [])) q in
        let none : end_tickets j (entry ∷ []) ≡ [] = append-nil (end_ticket j e entry.ticket) ∙ no_end i e j entry.ticket of ne in
        subst (λ l. ticket_at l k ≡ Some end) (ap (λ l. end_tickets j b.log ++ l) none ∙ append-nil (end_tickets j b.log)) r);
    starts = λ x h. subst (λ l. IsStarted l x) (sym starts_are)
        (number_stays (starts_of (events_of b.log)) (started_by (state_of b) e) x.iteration x.index h);
    marks = λ x h. ap₂ (λ cs l. instance_marks cs l x.iteration x.index) (ap own_columns state_is) starts_are
        ∙ marks_stay c.limit (state_of b) (starts_of (events_of b.log)) e x.iteration x.index sound_before last_event.allows
        last_event.quiet (sound_before.ordered.inside x h).1;
    joins = λ x h. ap (λ s. left_joined (own_columns s) x.iteration x.index) state_is
        ∙ joins_stay c.limit (state_of b) (starts_of (events_of b.log)) e x.iteration x.index sound_before last_event.allows
        last_event.quiet (sound_before.ordered.inside x h).1;
  }

-- ---- tickets

among_place : {A : Type 0} (y : A) (xs : List A) (d : A) → Among y xs → (k : ℕ) × (k < length xs) × (get_or xs k d ≡ y)
among_place y [] d m = absurd (none_among y m)
among_place y (x ∷ xs) d Here = (0, omega arith, refl)
among_place y (x ∷ xs) d (Later w m) = let h = among_place y xs d m in (suc h.0, (let l = h.1 in omega (arith, l)), h.2)

-- no entry has a ticket above the last
below : (log : List BookEntry) → HasRisingTickets log → (e : BookEntry) → Among e log → e.ticket ≤ last_ticket log
below log h e m = let p = among_place e log e m in let l = below_last log h p.0 e p.1 in let z = ap (λ (x : BookEntry). x.ticket) p.2 in
    omega (arith, l, z)

there : (xs : List ℕ) (n : ℕ) → n < length xs → (t : ℕ) × (ticket_at xs n ≡ Some t) × Among t xs
there [] n l = absurd (omega (arith, l))
there (x ∷ xs) zero l = (x, refl, Here)
there (x ∷ xs) (suc n) l = let h = there xs n (omega (arith, l)) in (h.0, h.1, Later x h.2)

-- the counts of tickets
started_count : (b : BookState) → ControlRun b.limit (events_of b.log) (state_of b) → (i : ℕ) (f : Frame)
    → frame_at (state_of b).frames i ≡ Some f → length (start_tickets i b.log) ≡ length f.nodes
started_count b r i f is = start_tickets_counted i b.log ∙ ((control_counts r i).starts ∙ ap started_in is)

pub ended_count : (b : BookState) → ControlRun b.limit (events_of b.log) (state_of b) → (i : ℕ) (f : Frame)
    → frame_at (state_of b).frames i ≡ Some f → length (end_tickets i b.log) ≡ ended_by_status f.status (length f.nodes)
ended_count b r i f is = end_tickets_counted i b.log ∙ ((control_counts r i).ends ∙ ap ended_in is)

-- an instance has started by the last ticket
started_now : (b : BookState) (f : TokenFields) → ControlRun b.limit (events_of b.log) (state_of b) → HasRisingTickets b.log
    → IsTokenOf (events_of b.log) f → f.now ≡ last_ticket b.log → StartedBy b.log f.iteration f.index f.now
started_now b f r rise t now =
    let n = started_count b r f.iteration t.running.frame t.running.is in
    let w = t.index in
    let h = there (start_tickets f.iteration b.log) f.index (omega (arith, n, w)) in
    let e = start_has f.iteration b.log h.0 h.2 in
    let l = below b.log rise e.entry e.made in
    let is = e.is in
    record { ticket = h.0; is = h.1; before = omega (arith, l, is, now) }

-- the data of a new token
new_run_is : (b : BookState) (f : TokenFields) → IsOutOf b f → length (replies_at b f.iteration) ≡ f.index
    → StartedBy b.log f.iteration f.index f.now → KnowsInstance b (new_instance b f)
new_run_is b f out parts started = record {
  out = out;
  replies = refl;
  parts = parts;
  started = started;
  rise = tt;
  from_start = λ e m. absurd (none_among e m);
  to_now = λ e m. absurd (none_among e m);
}

-- an instance without accesses
no_trace : (b : BookState) (i k : ℕ) → book_trace b i k ≡ [] → IsTimelyTrace b i k
no_trace b i k e =
    let none : made b.traces i k ≡ [] = ap (map timed_access) e in
    record {
      rise = rw none tt;
      from_start = λ x m. absurd (none_among x (subst (λ l. Among x l) none m));
      to_end = λ x end m q. absurd (none_among x (subst (λ l. Among x l) none m));
    }

-- the number of traces is the number of replies
pub parts_are : (b : BookState) (i : ℕ) → length (replies_at b i) ≡ length (item_or [] b.traces i)
parts_are b i = length-map (item_or [] b.traces i) replies_of

-- the same trace in a longer log, if no instance of the iteration has ended meanwhile
pub timely_stays : (b c : BookState) (added : List BookEntry) (i k : ℕ) → c.log ≡ b.log ++ added → book_trace c i k ≡ book_trace b i k
    → ((end : ℕ) → end_ticket_of c.log i k ≡ Some end → end_ticket_of b.log i k ≡ Some end) → IsTimelyTrace b i k → IsTimelyTrace c i k
timely_stays b c added i k log trace ends h =
    let same : made c.traces i k ≡ made b.traces i k = ap (map timed_access) trace in
    record {
      rise = rw same h.rise;
      from_start = λ x m. (let q = h.from_start x (subst (λ l. Among x l) same m) in
          (q.0, subst (λ l. start_ticket_of l i k ≡ Some q.0) (sym log) (start_stays b.log added i k q.0 q.1), q.2));
      to_end = λ x end m e. h.to_end x end (subst (λ l. Among x l) same m) (ends end e);
    }

-- the events of a log with more
pub events_stamped : (log : List BookEntry) (now : ℕ) (es : List Event) → events_of (with_events log now es) ≡ events_of log ++ es
events_stamped log now es = map-append (λ (b : BookEntry). b.event) log (stamped (max (last_ticket log) now) es)
    ∙ ap (λ l. events_of log ++ l) (all (max (last_ticket log) now) es)
  where
    all : (t : ℕ) (es : List Event) → events_of (stamped t es) ≡ es
    all t [] = refl
    all t (e ∷ es) = ap (λ l. e ∷ l) (all (suc t) es)

-- ---- nothing has changed

pub unchanged_call : (b : BookState) → IsBookCall b None b None
unchanged_call b =
    let i = length b.tokens in
    let none : IsOut b i → ⊥ = λ o. (let q : Spent ≡ Out = sym (past b.tokens i Spent (omega arith)) ∙ o in cc) in
    record {
      iteration = i;
      moves = quiet_moves b b i refl refl (λ j ne. refl) (λ j ne. refl);
      own = λ d e. absurd (let z : None ≡ Some d = e in cc);
      free = λ seats h _ o. none o;
      here = λ seats h at. record {
        run = λ d e. absurd (let z : None ≡ Some d = e in cc);
        out = λ o. absurd (none o);
        timely = h.timely i;
        kept = h.kept i;
        traces = λ n. refl;
        control = h.control;
        rises = h.rises;
        tokens = h.tokens;
        counts = h.traces;
      };
    }

-- ---- the run was stopped

pub stop_call : (b c : BookState) → c ≡ record b { log = with_events b.log 0 (Stop ∷ []) }
    → ControlRun c.limit (events_of c.log) (state_of c) → HasRisingTickets c.log → IsBookCall b None c None
stop_call b c is control rise =
    let i = length b.tokens in
    let constants : constants_of c ≡ constants_of b = ap constants_of is in
    let log : c.log ≡ with_events b.log 0 (Stop ∷ []) = ap (λ (x : BookState). x.log) is in
    let toks : c.tokens ≡ b.tokens = ap (λ (x : BookState). x.tokens) is in
    let trs : c.traces ≡ b.traces = ap (λ (x : BookState). x.traces) is in
    let none : IsOut b i → ⊥ = λ o. (let q : Spent ≡ Out = sym (past b.tokens i Spent (omega arith)) ∙ o in cc) in
    let moves = event_moves b c i Stop 0 constants log (λ j ne. ap (λ l. get_or l j Spent) toks)
    (λ j ne. ap (λ l. get_or l j []) trs) tt control in
    let state = state_is b c i Stop 0 constants log (λ j ne. ap (λ l. get_or l j Spent) toks)
    (λ j ne. ap (λ l. get_or l j []) trs) tt control in
    let frames : length (state_of c).frames ≡ length (state_of b).frames = ap (λ (s : State). length s.frames) state in
    record {
      iteration = i;
      moves = moves;
      own = λ d e. absurd (let z : None ≡ Some d = e in cc);
      free = λ seats h _ o. none o;
      here = λ seats h at. record {
        run = λ d e. absurd (let z : None ≡ Some d = e in cc);
        out = λ o. absurd (none (ap (λ l. get_or l i Spent) (sym toks) ∙ o));
        timely = λ k. timely_stays b c moves.added i k moves.log (ap (λ l. get_or (get_or l i []) k []) trs)
            (λ end e. (let w = ticket_within (end_tickets i c.log) k end e in
            absurd (let n = none_ended h i (omega (arith, h.tokens)) in let m = ap (λ l. length (end_tickets i l)) log in
            let z = end_tickets-append i b.log (record { ticket = suc (max (last_ticket b.log) 0); event = Stop } ∷ []) in
            let y = ap length z in let v = length-append (end_tickets i b.log) [] in omega (arith, w, n, m, y, v)))) (h.timely i k);
        kept = λ f e r. absurd (let q : Spent ≡ Kept f = sym (past b.tokens i Spent (omega arith))
            ∙ (ap (λ l. get_or l i Spent) (sym toks) ∙ e) in cc);
        traces = λ n. ap (λ l. get_or (get_or l i []) n []) trs;
        control = control;
        rises = rise;
        tokens = ap length toks ∙ (h.tokens ∙ sym frames);
        counts = ap length trs ∙ (h.traces ∙ sym frames);
      };
    }
  where
    none_ended : {seats : ℕ → Option InstanceData} → HasSeats b seats → (i : ℕ) → length (state_of b).frames ≤ i
        → length (end_tickets i b.log) ≡ 0
    none_ended h i l = end_tickets_counted i b.log ∙ ((control_counts h.control i).ends ∙ ap ended_in
        (frame_at_past (state_of b).frames i l))

-- ---- an iteration has begun

pub begin_call : (b c : BookState) (f : TokenFields)
    → c ≡ record b { log = with_events b.log 0 (Begin f.iteration ∷ []); traces = b.traces ++ [] ∷ []; tokens = b.tokens ++ Out ∷ [] }
    → length b.tokens ≡ length (state_of b).frames → length b.traces ≡ length (state_of b).frames
    → ControlRun c.limit (events_of c.log) (state_of c) → HasRisingTickets c.log
    → IsOutOf c f → length (replies_at c f.iteration) ≡ f.index → f.now ≡ last_ticket c.log → IsBookCall b None c (Some (new_instance c f))
begin_call b c f is lt lr control rise out parts now =
    let i = f.iteration in
    let log : c.log ≡ with_events b.log 0 (Begin i ∷ []) = ap (λ (x : BookState). x.log) is in
    let toks : c.tokens ≡ b.tokens ++ Out ∷ [] = ap (λ (x : BookState). x.tokens) is in
    let trs : c.traces ≡ b.traces ++ [] ∷ [] = ap (λ (x : BookState). x.traces) is in
    let may = (last_of control (events_of b.log) (Begin i) (ap events_of log ∙ events_of_with b.log 0 (Begin i))).allows in
    let number = may.number in
    let it : i ≡ length b.tokens = omega (arith, number, lt) in
    let ir : i ≡ length b.traces = omega (arith, number, lr) in
    let tokens' = λ (j : ℕ) (ne : j ≢ i). ap (λ l. get_or l j Spent) toks ∙ push_other b.tokens Out Spent j (λ z. ne (z ∙ sym it)) in
    let traces' = λ (j : ℕ) (ne : j ≢ i). ap (λ l. get_or l j []) trs ∙ push_other b.traces [] [] j (λ z. ne (z ∙ sym ir)) in
    let constants : constants_of c ≡ constants_of b = ap constants_of is in
    let moves = event_moves b c i (Begin i) 0 constants log tokens' traces' refl control in
    let state = state_is b c i (Begin i) 0 constants log tokens' traces' refl control in
    let frames : length (state_of c).frames ≡ length (state_of b).frames + 1 = ap (λ (s : State). length s.frames) state
    ∙ length_push (state_of b).frames fresh_frame in
    let here_trace : item_or [] c.traces i ≡ [] = ap (λ l. get_or l i []) trs ∙ get_or_push b.traces [] [] i (sym ir) in
    let old_trace : item_or [] b.traces i ≡ [] = past b.traces i [] (omega (arith, ir)) in
    record {
      iteration = i;
      moves = moves;
      own = λ d e. absurd (let z : None ≡ Some d = e in cc);
      free = λ seats h _ o. absurd (let q : Spent ≡ Out = sym (past b.tokens i Spent (omega (arith, it))) ∙ o in cc);
      here = λ seats h at. record {
        run = λ d e. (let z : new_instance c f ≡ d = cc in subst (λ (x : InstanceData). (x.fields.iteration ≡ i) × KnowsInstance c x) z
            (refl, new_run_is c f out parts (started_now c f control rise out.token now)));
        out = λ o. (new_instance c f, refl);
        timely = λ k. no_trace c i k (ap (λ l. get_or l k []) here_trace);
        kept = λ g e r. absurd (let q : Out ≡ Kept g = sym out.out ∙ e in cc);
        traces = λ n. by n (f.index == n) (ap (λ l. get_or l n []) here_trace) ∙ sym (ap (λ l. get_or l n []) old_trace);
        control = control;
        rises = rise;
        tokens = (let w = ap length toks ∙ length_push b.tokens Out in omega (arith, w, lt, frames));
        counts = (let w = ap length trs ∙ length_push b.traces [] in omega (arith, w, lr, frames));
      };
    }
  where
    by : (n : ℕ) (t : Bool) → book_trace c f.iteration n ≡ [] → cond t [] (book_trace c f.iteration n) ≡ []
    by n true e = refl
    by n false e = e

-- ---- an iteration has entered a stage, or goes on with an instance that was left ready

module _ (b c : BookState) (f : TokenFields) (constants : constants_of c ≡ constants_of b) (toks : c.tokens ≡ set b.tokens f.iteration Out)
    (trs : c.traces ≡ b.traces)
    (out : IsOutOf c f) (parts : length (replies_at c f.iteration) ≡ f.index) where
  abbrev i : ℕ
  i = f.iteration

  tokens_other : (j : ℕ) → j ≢ i → item_or Spent c.tokens j ≡ item_or Spent b.tokens j
  tokens_other j ne = ap (λ l. get_or l j Spent) toks ∙ set_other b.tokens i j Out Spent ne

  traces_other : (j : ℕ) → j ≢ i → item_or [] c.traces j ≡ item_or [] b.traces j
  traces_other j ne = ap (λ l. get_or l j []) trs

  trace_is : (n : ℕ) → trace_by c (Some (new_instance c f)) i n ≡ book_trace b i n
  trace_is n = by (f.index == n) refl
    where
      by : (t : Bool) → (f.index == n) ≡ t → cond t [] (book_trace c i n) ≡ book_trace b i n
      by true e =
          let z : f.index ≡ n = eqb-true f.index n e in
          let p = parts_are c i in
          sym (past (item_or [] b.traces i) n [] (let l = ap (λ ts. length (item_or [] ts i)) trs in omega (arith, p, parts, z, l)))
      by false e = ap (λ ts. get_or (get_or ts i []) n []) trs

  kept_none : (g : TokenFields) → item_or Spent c.tokens i ≡ Kept g → ⊥
  kept_none g e = let q : Out ≡ Kept g = sym out.out ∙ e in cc

  pub enter_call : (now : ℕ) → c.log ≡ with_events b.log now (Enter i ∷ []) → ControlRun c.limit (events_of c.log) (state_of c)
      → HasRisingTickets c.log → f.now ≡ last_ticket c.log
      → IsBookCall b None c (Some (new_instance c f))
  enter_call now log control rise is_now =
      let may = (last_of control (events_of b.log) (Enter i) (ap events_of log ∙ events_of_with b.log now (Enter i))).allows in
      let moves = event_moves b c i (Enter i) now constants log tokens_other traces_other refl control in
      let state = state_is b c i (Enter i) now constants log tokens_other traces_other refl control in
      let frames : length (state_of c).frames ≡ length (state_of b).frames = ap (λ (s : State). length s.frames) state
      ∙ length-update_frame (state_of b).frames i _ in
      record {
        iteration = i;
        moves = moves;
        own = λ d e. absurd (let z : None ≡ Some d = e in cc);
        free = λ seats h _ o. (
            let d = h.out i o in
            let r = (h.run i d.0 d.1).1.out.token.running in
            let at = (h.run i d.0 d.1).0 in
            let there' : frame_at (state_of b).frames i ≡ Some r.frame = subst (λ n. frame_at (state_of b).frames n ≡ Some r.frame) at r.is
            in
            let same : Some r.frame ≡ Some may.frame = sym there' ∙ may.is in
            let z : r.frame ≡ may.frame = cc in
            let q : Running ≡ Pending may.kind may.number = sym r.runs ∙ (ap (λ (x : Frame). x.status) z ∙ may.named) in
            absurd (cc));
        here = λ seats h at. record {
          run = λ d e. (let z : new_instance c f ≡ d = cc in subst (λ (x : InstanceData). (x.fields.iteration ≡ i) × KnowsInstance c x) z
              (refl, new_run_is c f out parts (started_now c f control rise out.token is_now)));
          out = λ o. (new_instance c f, refl);
          timely = λ k. timely_stays b c moves.added i k moves.log (ap (λ ts. get_or (get_or ts i []) k []) trs)
              (λ end e. (let q : ticket_at (end_tickets i b.log ++ []) k ≡ Some end = subst (λ l. ticket_at l k ≡ Some end)
              (ap (end_tickets i) log ∙ end_tickets-append i b.log _) e in subst (λ l. ticket_at l k ≡ Some end)
              (append-nil (end_tickets i b.log)) q)) (h.timely i k);
          kept = λ g e r. absurd (kept_none g e);
          traces = trace_is;
          control = control;
          rises = rise;
          tokens = (let w = ap length toks ∙ length-set b.tokens i Out in let z = h.tokens in omega (arith, w, z, frames));
          counts = (let w = ap length trs in let z = h.traces in omega (arith, w, z, frames));
        };
      }

  pub enter_iteration : (now : ℕ) (l : c.log ≡ with_events b.log now (Enter i ∷ []))
      (r : ControlRun c.limit (events_of c.log) (state_of c)) (h : HasRisingTickets c.log) (n : f.now ≡ last_ticket c.log)
      → (enter_call now l r h n).iteration ≡ i
  unfolding enter_call
  enter_iteration now l r h n = refl

  pub resume_call : c.log ≡ b.log → item_or Spent b.tokens i ≡ Kept f → IsBookCall b None c (Some (new_instance c f))
  resume_call log kept = record {
    iteration = i;
    moves = quiet_moves b c i constants log tokens_other traces_other;
    own = λ d e. absurd (let z : None ≡ Some d = e in cc);
    free = λ seats h _ o. absurd (let q : Kept f ≡ Out = sym kept ∙ o in cc);
    here = λ seats h at. (
        let runs : IsRunning (state_of b) i = subst (λ l. IsRunning (state_after (events_of l)) i) log out.token.running in
        let limit : c.limit ≡ b.limit = ap (λ (a : HallConstants). a.limit) constants in
        let state : state_of c ≡ state_of b = ap (λ l. state_after (events_of l)) log in
        let frames = ap (λ (s : State). length s.frames) state in
        record {
          run = λ d e. (let z : new_instance c f ≡ d = cc in subst (λ (x : InstanceData). (x.fields.iteration ≡ i) × KnowsInstance c x) z
              (refl, new_run_is c f out parts (subst (λ l. StartedBy l i f.index f.now) (sym log) (h.kept i f kept runs))));
          out = λ o. (new_instance c f, refl);
          timely = λ k. timely_stays b c [] i k (log ∙ sym (append-nil b.log)) (ap (λ ts. get_or (get_or ts i []) k []) trs)
              (λ end e. subst (λ l. end_ticket_of l i k ≡ Some end) log e) (h.timely i k);
          kept = λ g e r. absurd (kept_none g e);
          traces = trace_is;
          control = subst (λ l. ControlRun c.limit (events_of l) (state_after (events_of l))) (sym log)
              (subst (λ k. ControlRun k (events_of b.log) (state_of b)) (sym limit) h.control);
          rises = subst HasRisingTickets (sym log) h.rises;
          tokens = (let w = ap length toks ∙ length-set b.tokens i Out in let z = h.tokens in omega (arith, w, z, frames));
          counts = (let w = ap length trs in let z = h.traces in omega (arith, w, z, frames));
        });
  }

-- ---- a stopped run

-- a stopped run stays stopped
stopped_from : (s : State) (es : List Event) → s.stopped ≡ true → (state_from s es).stopped ≡ true
stopped_from s [] h = h
stopped_from s (e ∷ es) h = stopped_from (next_state s e) es (by e)
  where
    by : (e : Event) → (next_state s e).stopped ≡ true
    by (Begin i) = h
    by (Access i a) = h
    by (Advance i k n) = h
    by (Enter i) = h
    by (Finish i x) = h
    by Stop = refl

pub stopped_more : (s : State) (xs ys : List Event) → (state_from s xs).stopped ≡ true → (state_from s (xs ++ ys)).stopped ≡ true
stopped_more s [] ys h = stopped_from s ys h
stopped_more s (x ∷ xs) ys h = stopped_more (next_state s x) xs ys h

pub stopped_later : (seen es : List Event) → BeginsWith es seen → (state_after seen).stopped ≡ true → (state_after es).stopped ≡ true
stopped_later seen es b h = ap (λ l. (state_after l).stopped) b.1 ∙ stopped_more initial_state seen b.0 h

abbrev pub stop_events : Bool → List Event
stop_events t = cond t [] (Stop ∷ [])

-- a call of `stop`
pub halted_call : (b c : BookState) → c ≡ after_stop b → ControlRun c.limit (events_of c.log) (state_of c) → HasRisingTickets c.log
    → IsBookCall b None c None
halted_call b c e control rise = by (state_of b).stopped e
  where
    by : (t : Bool) → c ≡ record b { log = with_events b.log 0 (cond t [] (Stop ∷ [])) } → IsBookCall b None c None
    by true q = subst (λ x. IsBookCall b None x None) (sym (q ∙ ap (λ l. record b { log = l }) (append-nil b.log))) (unchanged_call b)
    by false q = stop_call b c q control rise

pub halted_seen : (b c : BookState) (seen : List Event) → c ≡ after_stop b → BeginsWith (events_of b.log) seen
    → BeginsWith (events_of c.log) seen
halted_seen b c seen e h =
    let es = stop_events (state_of b).stopped in
    let q : events_of c.log ≡ events_of b.log ++ es = ap (λ (x : BookState). events_of x.log) e ∙ events_stamped b.log 0 es in
    begins_more seen (events_of b.log) (events_of c.log) h (es, q)

pub halted_stops : (b c : BookState) → c ≡ after_stop b → (state_of c).stopped ≡ true
halted_stops b c e = by (state_of b).stopped refl e
  where
    by : (t : Bool) → (state_of b).stopped ≡ t → c ≡ record b { log = with_events b.log 0 (cond t [] (Stop ∷ [])) }
        → (state_of c).stopped ≡ true
    by true is q = ap (λ (x : BookState). (state_of x).stopped) q ∙ (ap (λ l. (state_after (events_of l)).stopped) (append-nil b.log) ∙ is)
    by false is q = ap (λ (x : BookState). (state_of x).stopped) q
        ∙ (ap (λ l. (state_after l).stopped) (events_of_with b.log 0 Stop) ∙ ap (λ (x : State). x.stopped)
        (state_after-push (events_of b.log) Stop))
