-- A stop whose ticket was raised keeps the facts of a hall.
use Rattle.std.proofs.Common.{◌≡◌, ℕ, List, [], ◌∷◌, ◌++◌, ◌+◌, ◌<◌, ◌*◌, length, max, refl, sym, ap, ◌∙◌, subst, arith, Option, Some, None}
use Rattle.std.proofs.Common.{Bool, true, false}
use Rattle.std.proofs.Math.Nat.{le-max_right}
use Rattle.pipe_model.specs.declared.access.Access.{Access}
use Rattle.pipe_model.specs.declared.event.Event.{Event}
use Rattle.pipe_model.specs.declared.event.Event.TheVariants.{Begin, Advance, Enter, Finish, Stop, Access as AccessEvent}
use Rattle.pipe_model.specs.declared.node.NodeId.{NodeId}
use Rattle.pipe_model.specs.declared.ticket.BookEntry.{BookEntry}
use Rattle.pipe_model.specs.Language.Programs.{store_of}
use Rattle.pipe_model.specs.Language.SyntaxTree.{tree_of}
use Rattle.pipe_model.specs.Orders.OrderMarks.{instance_marks}
use Rattle.pipe_model.specs.Orders.Starts.{IsStarted, starts_of}
use Rattle.pipe_model.specs.Runs.Allowed.{IsRunning}
use Rattle.pipe_model.specs.Runs.ControlRun.{ControlRun, EmptyControlRun, ControlRunThen, is_access}
use Rattle.pipe_model.specs.Runs.State.{State, next_state}
use Rattle.pipe_model.specs.Orders.TwoOrders.{down_first_log, down_place, right_first_log, right_place}
use Rattle.pipe_frame.specs.HallViews.{BeginsWith}
use Rattle.pipe_frame.specs.Ties.{SeenLists}
use Rattle.access_history.specs.KeptInstances.{IsHistoryAfter}
use Rattle.frame_book.proofs.BookLogs.LogEntries.{last_ticket_raised}
use Rattle.pipe_model.specs.Runs.RunLogs.{columns_after, state_after}
use Rattle.pipe_model.specs.Runs.TicketLogs.{start_ticket, end_ticket, start_tickets, end_tickets, ticket_at}
use Rattle.pipe_model.specs.Runs.TicketOrder.{start_ticket_of, end_ticket_of}
use Rattle.pipe_frame.specs.RunningTokens.{IsTokenOf, left_joined}
use Rattle.frame_book.specs.BookStates.{BookState, events_of, last_ticket, state_of, with_last_raised}
use Rattle.frame_book.proofs.Keeping.RaiseStop.{events_raised, length_raised, rise_raised}
use Rattle.hall_table.specs.SeatViews.{HallConstants, HallStart, InstanceData, constants_of, start_of}
use Rattle.hall_shards.specs.ShardValues.{ShardValue, history_at}
use Rattle.hall_table.specs.BookParts.{HasSeats, KnowsInstance, StartedBy}
use Rattle.hall_calls.specs.Closing.{EndedHall, LastStops, StopIsLast, raised, shard_in}
use Rattle.hall_shards.specs.Learning.{HasLearned, HasSeenAll}
use Rattle.hall_table.specs.Steps.{ClosedHall}
use Rattle.hall_calls.proofs.Closing.{learned_hall}
use Rattle.hall_table.specs.Logs.{noted_to, of_shard, trace_by}
use Rattle.hall_table.specs.ShardParts.{HasShard, IsShardOf}

starts_raised : (i least : ℕ) (log : List BookEntry) → LastStops log → start_tickets i (with_last_raised log least) ≡ start_tickets i log
starts_raised i least [] h = refl
starts_raised i least (b ∷ []) h =
    let x : BookEntry = record b { ticket = max b.ticket least } in
    ap (λ (e : Event). start_ticket i e x.ticket ++ []) h ∙ sym (ap (λ (e : Event). start_ticket i e b.ticket ++ []) h)
starts_raised i least (b ∷ (c ∷ bs)) h = ap (λ l. start_ticket i b.event b.ticket ++ l) (starts_raised i least (c ∷ bs) h)

ends_raised : (i least : ℕ) (log : List BookEntry) → LastStops log → end_tickets i (with_last_raised log least) ≡ end_tickets i log
ends_raised i least [] h = refl
ends_raised i least (b ∷ []) h =
    let x : BookEntry = record b { ticket = max b.ticket least } in
    ap (λ (e : Event). end_ticket i e x.ticket ++ []) h ∙ sym (ap (λ (e : Event). end_ticket i e b.ticket ++ []) h)
ends_raised i least (b ∷ (c ∷ bs)) h = ap (λ l. end_ticket i b.event b.ticket ++ l) (ends_raised i least (c ∷ bs) h)

module _ (b : BookState) (least : ℕ) (last : LastStops b.log) where
  same : events_of (raised b least).log ≡ events_of b.log
  same = events_raised b.log least

  start_same : (i k : ℕ) → start_ticket_of (raised b least).log i k ≡ start_ticket_of b.log i k
  start_same i k = ap (λ l. ticket_at l k) (starts_raised i least b.log last)

  end_same : (i k : ℕ) → end_ticket_of (raised b least).log i k ≡ end_ticket_of b.log i k
  end_same i k = ap (λ l. ticket_at l k) (ends_raised i least b.log last)

  started : (i k now : ℕ) → StartedBy b.log i k now → StartedBy (raised b least).log i k now
  started i k now h = record { ticket = h.ticket; is = start_same i k ∙ h.is; before = h.before }

  run : (d : InstanceData) → KnowsInstance b d → KnowsInstance (raised b least) d
  run d h = record {
    out = record {
      out = h.out.out;
      token = subst (λ es. IsTokenOf es d.fields) (sym same) h.out.token;
      now = (let n = h.out.now in let l = length_raised b.log least in omega (arith, n, l));
    };
    replies = h.replies;
    parts = h.parts;
    started = started d.fields.iteration d.fields.index d.fields.now h.started;
    rise = h.rise;
    from_start = λ e m. (let q = h.from_start e m in (q.0, start_same d.fields.iteration d.fields.index ∙ q.1, q.2));
    to_now = h.to_now;
  }

  pub raised_seats : (seats : ℕ → Option InstanceData) → HasSeats b seats → HasSeats (raised b least) seats
  raised_seats seats h = record {
    control = subst (λ es. ControlRun b.limit es (state_after es)) (sym same) h.control;
    rises = rise_raised b.log least h.rises;
    tokens = h.tokens ∙ ap (λ es. length (state_after es).frames) (sym same);
    traces = h.traces ∙ ap (λ es. length (state_after es).frames) (sym same);
    run = λ i d e. ((h.run i d e).0, run d (h.run i d e).1);
    out = h.out;
    timely = λ i k. (let q = h.timely i k in record {
      rise = q.rise;
      from_start = λ x m. (let w = q.from_start x m in (w.0, start_same i k ∙ w.1, w.2));
      to_end = λ x end m e. q.to_end x end m (sym (end_same i k) ∙ e);
    });
    kept = λ i f e r. started i f.index f.now (h.kept i f e (subst (λ es. IsRunning (state_after es) i) same r));
  }

  trace_is : (o : Option InstanceData) (i n : ℕ) → trace_by (raised b least) o i n ≡ trace_by b o i n
  trace_is None i n = refl
  trace_is (Some d) i n = refl

  pub raised_shard : (seats : ℕ → Option InstanceData) (before : List Access) (k : ℕ) (x : ShardValue) → HasShard before b seats k x
      → HasShard before (raised b least) seats k x
  raised_shard seats before k x h = record {
    shard = subst (λ es. IsShardOf before (store_of (tree_of b.program))
        (λ (y : NodeId). instance_marks (columns_after es) (starts_of es) y.iteration y.index)
        (λ (y : NodeId). left_joined (columns_after es) y.iteration y.index) k x) (sym same) h.shard;
    identities = h.identities;
    named = h.named;
    traces = λ i n. h.traces i n ∙ ap (of_shard k) (sym (trace_is (seats i) i n));
    started = λ e m. subst (λ es. IsStarted (starts_of es) e.node) (sym same) (h.started e m);
  }

-- ---- the end of a stopped run

-- only a stop leads to a stopped state
stops : (s : State) (e : Event) → s.stopped ≡ false → (next_state s e).stopped ≡ true → is_access e ≡ false → e ≡ Stop
stops s (Begin i) going stopped quiet = absurd (let z : false ≡ true = sym going ∙ stopped in cc)
stops s (Advance i k n) going stopped quiet = absurd (let z : false ≡ true = sym going ∙ stopped in cc)
stops s (Enter i) going stopped quiet = absurd (let z : false ≡ true = sym going ∙ stopped in cc)
stops s (Finish i e) going stopped quiet = absurd (let z : false ≡ true = sym going ∙ stopped in cc)
stops s (AccessEvent i a) going stopped quiet = absurd (let z : true ≡ false = quiet in cc)
stops s Stop going stopped quiet = refl

last_is_stop : (log : List BookEntry) (es : List Event) (e : Event) → events_of log ≡ es ++ e ∷ [] → e ≡ Stop → LastStops log
last_is_stop [] [] e is stop = cc
last_is_stop [] (x ∷ es) e is stop = cc
last_is_stop (b ∷ []) [] e is stop = (let z : b.event ≡ e = cc in z ∙ stop)
last_is_stop (b ∷ []) (x ∷ es) e is stop = absurd (nothing_more es e (let z : [] ≡ es ++ e ∷ [] = cc in z))
  where
    nothing_more : (es : List Event) (e : Event) → [] ≡ es ++ e ∷ [] → ⊥
    nothing_more [] e q = cc
    nothing_more (y ∷ es) e q = cc
last_is_stop (b ∷ (c ∷ bs)) [] e is stop = absurd (cc)
last_is_stop (b ∷ (c ∷ bs)) (x ∷ es) e is stop = last_is_stop (c ∷ bs) es e (let z : events_of (c ∷ bs) ≡ es ++ e ∷ [] = cc in z) stop

stop_is_last : {limit : ℕ} {events : List Event} {c : State} → ControlRun limit events c → (log : List BookEntry) → events_of log ≡ events
    → c.stopped ≡ true → LastStops log
stop_is_last EmptyControlRun log is stopped = absurd (let z : false ≡ true = stopped in cc)
stop_is_last (ControlRunThen {events = es} {c = d} r e quiet going may) log is stopped = last_is_stop log es e is
    (stops d e going stopped quiet)

not_empty : (log : List BookEntry) → LastStops log → 0 < length log
not_empty [] h = absurd h
not_empty (b ∷ bs) h = omega arith

-- the facts of an ended hall stay, and the raised ticket is above the tickets of all accesses
module _ (start : HallStart) (seen : List Event) (b : BookState) (shard : ℕ → ShardValue) (h : EndedHall start seen b shard) (least : ℕ)
    (stopped : (state_of b).stopped ≡ true) (above : (k : ℕ) → k < 16 → (shard k).last < least) where
  last : LastStops b.log
  last = stop_is_last h.closed.has_seats.control b.log refl stopped

  seen_all : (l : SeenLists) → HasSeenAll b l → HasSeenAll (raised b least) l
  seen_all l q = subst (λ es. (l.down_log ≡ down_first_log (starts_of es))
      × (l.right_log ≡ right_first_log (columns_after es) (starts_of es)))
      (sym (events_raised b.log least)) q

  pub raised_hall : EndedHall start seen (raised b least) shard
  raised_hall = record {
    closed = record {
      seats = h.closed.seats;
      constants = h.closed.constants;
      has_seats = raised_seats b least last h.closed.seats h.closed.has_seats;
      has_shards = λ k l. raised_shard b least last h.closed.seats start.before k (shard k) (h.closed.has_shards k l);
      seen = subst (λ es. BeginsWith es seen) (sym (events_raised b.log least)) h.closed.seen;
    };
    all = λ k l. seen_all (shard k).lists (h.all k l);
    histories = λ k l. subst (λ es. (slot : ℕ) → IsHistoryAfter (down_place (starts_of es)) (right_place (columns_after es) (starts_of es))
        (noted_to (k + 16 * slot) (shard k).log) (history_at (shard k).histories slot)) (sym (events_raised b.log least)) (h.histories k l);
  }

  pub raised_stop : StopIsLast (raised b least) shard
  raised_stop is k l e m =
      let low = (h.closed.has_shards k l).shard.most e m in
      let a = above k l in
      let t = last_ticket_raised b.log least (not_empty b.log last) in
      let most = le-max_right (last_ticket b.log) least in
      omega (arith, low, a, t, most)

-- a hall that was not stopped has no stop
pub no_stop : (b : BookState) (shard : ℕ → ShardValue) → (state_of b).stopped ≡ false → StopIsLast b shard
no_stop b shard going stopped = absurd (let z : false ≡ true = sym going ∙ stopped in cc)

-- what `close` ensures, of a hall whose shards have learned, and whose stop may have been raised
pub record IsClosed (start : HallStart) (seen : List Event) (b : BookState) (shard : ℕ → ShardValue) : Type 0 where
  pub ended : EndedHall (start_of b start.before) seen b shard
  pub constants : start.constants ≡ constants_of b
  pub stop : StopIsLast b shard

by_book : (start : HallStart) (seen : List Event) (b : BookState) (shard : ℕ → ShardValue) → EndedHall start seen b shard
    → EndedHall (start_of b start.before) seen b shard
by_book start seen b shard h =
    subst (λ s. EndedHall s seen b shard) (ap (λ (k : HallConstants). let s : HallStart = record { constants = k; before = start.before }
    in s) (sym h.closed.constants)) h

pub closed_by : (start : HallStart) (seen : List Event) (b c : BookState) (shard : ℕ → ShardValue) → EndedHall start seen b shard
    → ((state_of b).stopped ≡ false → c ≡ b)
    → ((state_of b).stopped ≡ true → (least : ℕ) × (c ≡ raised b least) × ((k : ℕ) → k < 16 → (shard k).last < least))
    → IsClosed start seen c shard
closed_by start seen b c shard h going stopped = by (state_of b).stopped refl
  where
    by : (t : Bool) → (state_of b).stopped ≡ t → IsClosed start seen c shard
    by false e = subst (λ x. IsClosed start seen x shard) (sym (going e))
        (record { ended = by_book start seen b shard h; constants = sym h.closed.constants; stop = no_stop b shard e })
    by true e =
        let q = stopped e in
        let r = raised_hall start seen b shard h q.0 e q.2 in
        subst (λ x. IsClosed start seen x shard) (sym q.1)
        (record {
          ended = by_book start seen (raised b q.0) shard r;
          constants = sym h.closed.constants;
          stop =
              raised_stop start seen b shard h q.0 e q.2;
        })

pub close_is : (start : HallStart) (seen : List Event) (b d c : BookState) (xs ys zs : List ShardValue)
    → ClosedHall start seen b (shard_in xs)
    → ((k : ℕ) → k < 16 → HasLearned b (shard_in xs k) (shard_in ys k)) → length ys ≡ 16 → zs ≡ ys → d ≡ b
    → ((state_of d).stopped ≡ false → c ≡ d)
    → ((state_of d).stopped ≡ true → (least : ℕ) × (c ≡ raised d least) × ((k : ℕ) → k < length zs → (shard_in zs k).last < least))
    → IsClosed start seen c (shard_in ys)
close_is start seen b d c xs ys zs h learned len is same going stopped =
    let before = ap (λ (x : BookState). (state_of x).stopped) same in
    closed_by start seen b c (shard_in ys) (learned_hall start seen b (shard_in xs) (shard_in ys) h learned)
    (λ e. going (before ∙ e) ∙ same)
    (λ e. (let q = stopped (before ∙ e) in (
      q.0,
      q.1 ∙ ap (λ x. raised x q.0) same,
      (λ k l. subst (λ ws. (shard_in ws k).last < q.0) is (q.2 k (let n = ap length is in omega (arith, n, len, l)))),
    )))
