-- The entries of instances and of shards, and the replies to reads, as `pipe_hall` and `hall_laws` state them.
use Rattle.std.proofs.Common.{◌≡◌, refl, sym, ap, subst, ℕ, ◌%◌, List, [], ◌∷◌, ◌++◌, map, Bool, true, false, ◌==◌, cond, filter}
use Rattle.std.proofs.Common.{append-nil, append_assoc, if◌then◌else◌}
use Rattle.pipe_model.specs.declared.access.Access.{Access}
use Rattle.pipe_model.specs.declared.node.NodeId.{NodeId}
use Rattle.pipe_model.specs.declared.ticket.Entry.{Entry}
use Rattle.pipe_model.specs.declared.ticket.ShardEntry.{ShardEntry}
use Rattle.pipe_model.specs.Pipelines.Store.{HasReply, InitialStore}
use Rattle.hall_laws.specs.ClosedHalls.{ReadsAreRight, entries_of_instance, entries_of_shard, entry_in_trace, is_same_node}
use Rattle.hall_table.specs.Logs.{accesses_of, of_node, of_shard}

pub entries_of_instance_are : (x : NodeId) (log : List ShardEntry) → entries_of_instance x log ≡ of_node x.iteration x.index log
entries_of_instance_are x [] = refl
entries_of_instance_are x (e ∷ log) = by_test (is_same_node e.node x) (entries_of_instance_are x log)
  where
    by_test : (b : Bool) → entries_of_instance x log ≡ of_node x.iteration x.index log
        → map entry_in_trace (cond b (e ∷ filter (λ (d : ShardEntry). is_same_node d.node x) log)
        (filter (λ (d : ShardEntry). is_same_node d.node x) log))
        ≡ (if b then entry_in_trace e ∷ of_node x.iteration x.index log else of_node x.iteration x.index log)
    by_test true h = ap (λ l. entry_in_trace e ∷ l) h
    by_test false h = h

pub entries_of_shard_are : (k : ℕ) (trace : List Entry) → entries_of_shard 16 k trace ≡ of_shard k trace
entries_of_shard_are k [] = refl
entries_of_shard_are k (t ∷ trace) = by_test (t.access.cell.0 % 16 == k) (entries_of_shard_are k trace)
  where
    by_test : (b : Bool) → entries_of_shard 16 k trace ≡ of_shard k trace
        → cond b (t ∷ entries_of_shard 16 k trace) (entries_of_shard 16 k trace) ≡ (if b then t ∷ of_shard k trace else of_shard k trace)
    by_test true h = ap (λ l. t ∷ l) h
    by_test false h = h

-- if each access of a log has its reply after those before it, the reads are right
pub reads_are_right : (store : InitialStore) (before : List Access) (log : List ShardEntry)
    → ((earlier rest : List ShardEntry) (e : ShardEntry) → log ≡ earlier ++ e ∷ rest → HasReply store
    (before ++ accesses_of earlier) e.access)
    → ReadsAreRight store before log
reads_are_right store before [] h = tt
reads_are_right store before (e ∷ log) h = (
  subst (λ l. HasReply store l e.access) (append-nil before) (h [] log e refl),
  reads_are_right store (before ++ e.access ∷ []) log (λ earlier rest f is.
      subst (λ l. HasReply store l f.access) (sym (append_assoc before (e.access ∷ []) (accesses_of earlier)))
      (h (e ∷ earlier) rest f (ap (λ l. e ∷ l) is))),
)
