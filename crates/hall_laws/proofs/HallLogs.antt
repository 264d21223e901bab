-- The logs of a closed hall meet what is required of the logs of a closed run.
use Rattle.std.proofs.Common.{◌≡◌, ◌∙◌, refl, sym, ap, subst, ℕ, ◌<◌, ◌%◌, List, [], ◌∷◌, ◌++◌, length, map, All, arith, inl, inr}
use Rattle.std.proofs.Common.{append-nil, append_assoc, true}
use Rattle.std.proofs.lemmas.Bool.{cases_lt, false≢true}
use Rattle.std.proofs.lemmas.List.{get_or_past, map-append}
use Rattle.std.proofs.lemmas.Nat.{mod_below}
use Rattle.pipe_model.specs.declared.access.Access.{Access as Cell_access}
use Rattle.pipe_model.specs.declared.event.Event.{Event}
use Rattle.pipe_model.specs.declared.event.Event.TheVariants.{Stop}
use Rattle.pipe_model.specs.declared.node.NodeId.{NodeId}
use Rattle.pipe_model.specs.declared.ticket.BookEntry.{BookEntry}
use Rattle.pipe_model.specs.declared.ticket.Entry.{Entry}
use Rattle.pipe_model.specs.declared.ticket.ShardEntry.{ShardEntry}
use Rattle.pipe_model.specs.Language.Programs.{store_of}
use Rattle.pipe_model.specs.Language.SyntaxTree.{tree_of}
use Rattle.pipe_model.specs.Pipelines.Behaviour.{Accessed}
use Rattle.pipe_model.specs.Pipelines.Store.{HasReply, InitialStore}
use Rattle.pipe_model.specs.Races.Columns.{at}
use Rattle.pipe_model.specs.Races.DeterminacyRaces.{Among, Here, Later}
use Rattle.pipe_model.specs.Runs.ControlRun.{ControlRun}
use Rattle.pipe_model.specs.Runs.RunLogs.{state_after}
use Rattle.pipe_model.specs.Runs.State.{State, initial_state, own_columns}
use Rattle.pipe_model.specs.Runs.TicketLogs.{ClosedLogs, TimedAction}
use Rattle.pipe_model.proofs.Members.{among_right, none_among}
use Rattle.frame_book.specs.BookStates.{BookState, events_of, last_ticket, made, state_of, timed_access}
use Rattle.frame_book.proofs.BookLogs.LogEntries.{last_ticket-push}
use Rattle.schedule_laws.proofs.BookOrder.{rising_tickets_are_in_order}
use Rattle.schedule_laws.proofs.TicketPaths.{ordered_tickets_merge}
use Rattle.run_laws.proofs.LogMerge.ControlStates.{IsAllowedAt, allowed_at, control_state_is}
use Rattle.run_laws.proofs.RunStates.FrontAndBack.{state_from-push}
use Rattle.run_record.proofs.RisingLists.{among_map}
use Rattle.run_record.specs.MergedLogs.{shard_at}
use Rattle.hall_laws.specs.ClosedHalls.{ClosedHall, HasShardLogs, IsOutInstance, NoTokenIsOut, ReadsAreRight, entry_in_trace, trace_of}
use Rattle.hall_laws.specs.HallRuns.{pipeline_after}
use Rattle.hall_laws.proofs.TraceEntries.{all_among, entry_is_of_trace, map_has, shard_entry_of, shard_has_trace, trace_has_entry}
use Rattle.hall_laws.proofs.TraceEntries.{trace_is_of_shard}

-- ---- shards

-- a shard with an entry exists
shard_there : (shards : List (List ShardEntry)) (k : ℕ) (e : ShardEntry) → Among e (shard_at shards k) → k < length shards
shard_there shards k e m = elim (cases_lt k (length shards)) [
  | inl less ↦ less
  | inr past ↦ absurd (none_among e (subst (λ l. Among e l) (get_or_past shards k [] past) m))
]

-- ---- entries and traces

module _ (v : BookState) (before : List Cell_access) (shards : List (List ShardEntry)) (h : HasShardLogs v before shards)
    (none : NoTokenIsOut v) where
  no_instance_out : (x : NodeId) → IsOutInstance v x → ⊥
  no_instance_out x o = none x.iteration o.out

  -- an entry of a shard is in the trace of its instance, and its cell is in the shard
  entry_traced : (k : ℕ) (e : ShardEntry) → Among e (shard_at shards k) → Among (entry_in_trace e) (trace_of v e.node)
      × (e.access.cell.0 % length shards ≡ k)
  entry_traced k e m =
      entry_is_of_trace (length shards) k (entry_in_trace e) (trace_of v e.node)
      (subst (λ l. Among (entry_in_trace e) l) (h.traces e.node k (shard_there shards k e m) (no_instance_out e.node))
      (shard_has_trace e (shard_at shards k) m))

  -- an entry of a trace is in the shard of its cell
  trace_entered : (x : NodeId) (t : Entry) → Among t (trace_of v x) → Among (shard_entry_of x t)
      (shard_at shards (t.access.cell.0 % length shards))
  trace_entered x t m =
      let k = t.access.cell.0 % length shards in
      let there : k < length shards = mod_below t.access.cell.0 (length shards) h.some in
      trace_is_of_shard x t (shard_at shards k)
      (subst (λ l. Among t l) (sym (h.traces x k there (no_instance_out x))) (trace_has_entry (length shards) t (trace_of v x) m))

  pub in_trace : (k : ℕ) (e : ShardEntry) → Among e (shard_at shards k)
      → Among (timed_access (entry_in_trace e)) (made v.traces e.node.iteration e.node.index)
  in_trace k e m = map_has timed_access (entry_in_trace e) (trace_of v e.node) (entry_traced k e m).0

  pub cell_of_entry : (k : ℕ) (e : ShardEntry) → Among e (shard_at shards k) → e.access.cell.0 % length shards ≡ k
  cell_of_entry k e m = (entry_traced k e m).1

  pub of_trace : (i k : ℕ) (x : TimedAction) → Among x (made v.traces i k)
      → (a : Cell_access) × (x.action ≡ Accessed a) × Among (record
      { ticket = x.ticket; node = record { iteration = i; index = k }; access = a }) (shard_at shards (a.cell.0 % length shards))
  of_trace i k x m =
      let t = among_map timed_access x (trace_of v (at i k)) m in
      let entered = trace_entered (at i k) t.0 t.1 in (
        t.0.access,
        ap (λ (y : TimedAction). y.action) (sym t.2),
        subst (λ n. Among (record { ticket = n; node = at i k; access = t.0.access }) (shard_at shards (t.0.access.cell.0 % length shards)))
            (ap (λ (y : TimedAction). y.ticket) t.2) entered,
      )

-- ---- reads

-- each read of the list has the value after the accesses before it
reads_at : (store : InitialStore) (before : List Cell_access) (earlier rest : List ShardEntry) (e : ShardEntry)
    → ReadsAreRight store before (earlier ++ e ∷ rest)
    → HasReply store (before ++ map (λ x. x.access) earlier) e.access
reads_at store before [] rest e h = subst (λ l. HasReply store l e.access) (sym (append-nil before)) h.0
reads_at store before (x ∷ earlier) rest e h =
    subst (λ l. HasReply store l e.access) (append_assoc before (x.access ∷ []) (map (λ (y : ShardEntry). y.access) earlier))
    (reads_at store (before ++ x.access ∷ []) earlier rest e h.1)

shard_reads : (store : InitialStore) (before : List Cell_access) (shards : List (List ShardEntry)) → All (ReadsAreRight store before) shards
    → (k : ℕ) (earlier rest : List ShardEntry) (e : ShardEntry) → shard_at shards k ≡ earlier ++ e ∷ rest
    → HasReply store (before ++ map (λ x. x.access) earlier) e.access
shard_reads store before shards h k earlier rest e is =
    let there : k < length shards = shard_there shards k e (subst (λ l. Among e l) (sym is) (among_right e earlier (e ∷ rest) Here)) in
    let all : ReadsAreRight store before (shard_at shards k) = h k [] there in
    reads_at store before earlier rest e (subst (λ l. ReadsAreRight store before l) is all)

-- ---- `Stop`

-- an element of a list with what is before and after it
record IsPlaced {A : Type 0} (x : A) (xs : List A) : Type 0 where
  pub earlier : List A
  pub rest : List A
  pub is : xs ≡ earlier ++ x ∷ rest

placed : {A : Type 0} (x : A) (xs : List A) → Among x xs → IsPlaced x xs
placed x [] m = absurd (none_among x m)
placed x (y ∷ xs) Here = record { earlier = []; rest = xs; is = refl }
placed x (y ∷ xs) (Later z m) =
    let p = placed x xs m in
    record { earlier = y ∷ p.earlier; rest = p.rest; is = ap (λ l. y ∷ l) p.is }

-- a book with `Stop` was stopped, and `Stop` has its last ticket
record IsStoppedAt (log : List BookEntry) (c : State) (t : ℕ) : Type 0 where
  pub stopped : c.stopped ≡ true
  pub last : t ≡ last_ticket log

stopped_at : (limit : ℕ) (log : List BookEntry) (c : State) (t : ℕ) → ControlRun limit (events_of log) c
    → Among (record { ticket = t; event = Stop }) log → IsStoppedAt log c t
stopped_at limit log c t r m = by_rest p.rest p.is
  where
    b : BookEntry
    b = record { ticket = t; event = Stop }

    p : IsPlaced b log
    p = placed b log m

    events_at : (rest : List BookEntry) → log ≡ p.earlier ++ b ∷ rest → events_of log ≡ events_of p.earlier ++ Stop ∷ events_of rest
    events_at rest is = ap events_of is ∙ map-append (λ (x : BookEntry). x.event) p.earlier (b ∷ rest)

    after_stop : (earlier : List Event) → (state_after (earlier ++ Stop ∷ [])).stopped ≡ true
    after_stop earlier = ap (λ (s : State). s.stopped) (state_from-push initial_state earlier Stop)

    by_rest : (rest : List BookEntry) → log ≡ p.earlier ++ b ∷ rest → IsStoppedAt log c t
    by_rest [] is = record {
      stopped = ap (λ (s : State). s.stopped) (control_state_is r ∙ ap state_after (events_at [] is)) ∙ after_stop (events_of p.earlier);
      last = sym (ap last_ticket is ∙ last_ticket-push p.earlier b);
    }
    by_rest (y ∷ rest) is =
        let earlier = events_of p.earlier ++ Stop ∷ [] in
        let events : events_of log ≡ earlier ++ y.event ∷ events_of rest =
        events_at (y ∷ rest) is ∙ sym (append_assoc (events_of p.earlier) (Stop ∷ []) (y.event ∷ events_of rest)) in
        let next : IsAllowedAt limit earlier y.event = allowed_at r earlier y.event (events_of rest) events in
        let over : next.state.stopped ≡ true = ap (λ (s : State). s.stopped) (control_state_is next.before)
        ∙ after_stop (events_of p.earlier) in
        absurd (false≢true (sym next.going ∙ over))

-- ---- all together

pub closed_logs : (v : BookState) (before : List Cell_access) (shards : List (List ShardEntry)) → ClosedHall v before shards
    → NoTokenIsOut v
    → ClosedLogs (pipeline_after v before) v.limit (length shards) v.log (shard_at shards) (made v.traces) (state_of v)
closed_logs v before shards h none = record {
  control = h.book.control;
  order = ordered_tickets_merge (own_columns (state_of v)) v.log (shard_at shards) (made v.traces)
      (rising_tickets_are_in_order v.limit v.log (shard_at shards) (made v.traces) (state_of v) h.book.control h.logs.tickets);
  stop_last = λ t m k e n. (
      let s = stopped_at v.limit v.log (state_of v) t h.book.control m in
      let less : e.ticket < last_ticket v.log = all_among (λ (x : ShardEntry). x.ticket < last_ticket v.log) e (shard_at shards k)
      (h.stop s.stopped k [] (shard_there shards k e n)) n in
      let last = s.last in
      omega (arith, less, last));
  cells = cell_of_entry v before shards h.logs none;
  replies = shard_reads (store_of (tree_of v.program)) before shards h.logs.reads;
  in_trace = in_trace v before shards h.logs none;
  of_trace = of_trace v before shards h.logs none;
  program = h.book.performs;
}
