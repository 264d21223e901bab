-- Entries with one ticket are of different logs and of different instances.
use Rattle.std.proofs.Common.{◌≡◌, ◌∙◌, refl, sym, ap, subst, ℕ, ◌<◌, ◌%◌, List, ◌∷◌, ◌++◌, length, Option, Some, None, arith, inl, inr}
use Rattle.pipe_model.specs.declared.access.Access.{Access as Cell_access}
use Rattle.pipe_model.specs.declared.node.NodeId.{NodeId}
use Rattle.pipe_model.specs.declared.ticket.BookEntry.{BookEntry}
use Rattle.pipe_model.specs.declared.ticket.ShardEntry.{ShardEntry}
use Rattle.pipe_model.specs.Pipelines.Behaviour.{Accessed}
use Rattle.pipe_model.specs.Races.DeterminacyRaces.{Among, Here, Later}
use Rattle.pipe_model.specs.Runs.TicketLogs.{ClosedLogs, InOrder, LogEntry, OfBook, OfShard, TimedAction, rank_of, ticket_of}
use Rattle.pipe_model.proofs.Members.{among_right}
use Rattle.frame_book.specs.BookStates.{BookState, made, state_of}
use Rattle.run_laws.proofs.LogMerge.Entries.{timed}
use Rattle.run_laws.proofs.LogMerge.MergeSplits.{among_shard, order_after}
use Rattle.run_record.specs.MergedLogs.{shard_at}
use Rattle.run_laws.proofs.LogMerge.RisingTraces.{same_ticket}
use Rattle.hall_laws.specs.HallRuns.{AccessesIt, EndsIt, EqualTicketsAreApart, IsOfInstance, StartsIt, pipeline_after}
use Rattle.hall_laws.proofs.HallLogs.{closed_logs}

same_some : (o : Option ℕ) (s t : ℕ) → o ≡ Some s → o ≡ Some t → s ≡ t
same_some None s t p q = absurd (cc)
same_some (Some o) s t p q = cc

module _ (v : BookState) (before : List Cell_access) (shards : List (List ShardEntry))
    (closed : ClosedLogs (pipeline_after v before) v.limit (length shards) v.log (shard_at shards) (made v.traces) (state_of v)) where
  -- an access of an instance is among all accesses of the instance
  access_in : (k : ℕ) (e : ShardEntry) (n : NodeId) → Among e (shard_at shards k) → e.node ≡ n
      → Among (timed e.ticket (Accessed e.access)) (made v.traces n.iteration n.index)
  access_in k e n m is = subst (λ (x : NodeId). Among (timed e.ticket (Accessed e.access)) (made v.traces x.iteration x.index)) is
      (closed.in_trace k e m)

  -- an event and an access of one instance have different tickets
  event_apart : (b : BookEntry) (k : ℕ) (e : ShardEntry) (n : NodeId) → Among e (shard_at shards k) → e.node ≡ n → b.ticket ≡ e.ticket
      → IsOfInstance v.log n (OfBook b) → ⊥
  event_apart b k e n m is same (StartsIt _ starts) =
      let begun = closed.order.after_start n.iteration n.index (timed e.ticket (Accessed e.access)) (access_in k e n m is) in
      let equal = same_some _ begun.0 b.ticket begun.1 starts in
      let less = begun.2 in
      omega (arith, equal, less, same)
  event_apart b k e n m is same (EndsIt _ ends) =
      let less = closed.order.before_end n.iteration n.index (timed e.ticket (Accessed e.access)) b.ticket (access_in k e n m is) ends in
      omega (arith, less, same)

  -- so have two accesses of different shards
  accesses_apart : (j k : ℕ) (d e : ShardEntry) (n : NodeId) → Among d (shard_at shards j) → Among e (shard_at shards k) → d.node ≡ n
      → e.node ≡ n
      → d.ticket ≡ e.ticket → j ≡ k
  accesses_apart j k d e n m o di ei same =
      let one : timed d.ticket (Accessed d.access) ≡ timed e.ticket (Accessed e.access) =
      same_ticket (made v.traces n.iteration n.index) (timed d.ticket (Accessed d.access)) (timed e.ticket (Accessed e.access))
      (closed.order.rise n.iteration n.index)
      (access_in j d n m di) (access_in k e n o ei) same in
      let actions : Accessed d.access ≡ Accessed e.access = ap (λ (x : TimedAction). x.action) one in
      let access : d.access ≡ e.access = cc in
      sym (closed.cells j d m) ∙ ap (λ (a : Cell_access). a.cell.0 % length shards) access ∙ closed.cells k e o

  instances_apart : (x y : LogEntry) (n : NodeId) → rank_of x < rank_of y → ticket_of x ≡ ticket_of y
      → ((k : ℕ) (e : ShardEntry) → x ≡ OfShard k e → Among e (shard_at shards k))
      → ((k : ℕ) (e : ShardEntry) → y ≡ OfShard k e → Among e (shard_at shards k))
      → IsOfInstance v.log n x → IsOfInstance v.log n y → ⊥
  instances_apart x (OfBook b) n less same xs ys p q = omega (arith, less)
  instances_apart (OfBook a) (OfShard k e) n less same xs ys p (AccessesIt _ _ is) = event_apart a k e n (ys k e refl) is same p
  instances_apart (OfShard j d) (OfShard k e) n less same xs ys (AccessesIt _ _ di) (AccessesIt _ _ ei) =
      let equal = accesses_apart j k d e n (xs j d refl) (ys k e refl) di ei same in
      omega (arith, less, equal)

pub equal_tickets_are_apart : EqualTicketsAreApart
equal_tickets_are_apart v before shards merged h none merge earlier between rest x y is same =
    let closed = closed_logs v before shards h none in
    let after : Among y (between ++ y ∷ rest) = among_right y between (y ∷ rest) Here in
    let there : Among x merged = subst (λ l. Among x l) (sym is) (among_right x earlier (x ∷ (between ++ y ∷ rest)) Here) in
    let also : Among y merged = subst (λ l. Among y l) (sym is) (among_right y earlier (x ∷ (between ++ y ∷ rest)) (Later x after)) in
    let entry : (z : LogEntry) → Among z merged → (k : ℕ) (e : ShardEntry) → z ≡ OfShard k e → Among e (shard_at shards k) = λ z m k e q.
    subst (λ l. Among e l) (merge.shard_is k) (among_shard merged k e (subst (λ w. Among w merged) q m)) in
    elim (order_after earlier x (between ++ y ∷ rest) (subst InOrder is merge.order) y after) [
      | inl less ↦ absurd (omega (arith, less, same))
      | inr tie ↦ (let ranks = tie.1 in record {
        logs = λ e. omega (arith, ranks, e);
        instances = λ n m p q e. instances_apart v before shards closed x y m ranks same (entry x there) (entry y also)
            (subst (λ i. IsOfInstance v.log i x) e p) q;
      })
    ]
