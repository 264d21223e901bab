-- A hall that has ended is a closed hall.
use mathlib.Core.Logic.{dite}
use native.Mathlib.Decide.{ℕ_discrete}
use Rattle.std.proofs.Common.{◌≡◌, ◌∙◌, refl, sym, ap, subst, ℕ, suc, ◌<◌, ◌≤◌, List, [], length, get_or, All, Option, Some, None, arith}
use Rattle.std.proofs.Common.{inl, inr, cond, ne_eqb}
use Rattle.std.proofs.lemmas.Bool.{cases_lt}
use Rattle.std.proofs.lemmas.List.{get_or-map, get_or_default, get_or_past, length-map}
use Rattle.pipe_model.specs.declared.access.Access.{Access}
use Rattle.pipe_model.specs.declared.node.NodeId.{NodeId}
use Rattle.pipe_model.specs.declared.ticket.ShardEntry.{ShardEntry}
use Rattle.pipe_model.specs.Language.Programs.{store_of}
use Rattle.pipe_model.specs.Language.SyntaxTree.{tree_of}
use Rattle.pipe_model.specs.Races.Columns.{nodes_at}
use Rattle.pipe_model.specs.Runs.State.{own_columns}
use Rattle.pipe_model.proofs.Members.{among_at}
use Rattle.run_laws.proofs.RunStates.Frames.{nodes_at_frame}
use Rattle.frame_book.specs.BookStates.{BookState, IsOut, last_ticket, state_of}
use Rattle.run_record.specs.MergedLogs.{ShardRises, shard_at}
use Rattle.hall_laws.specs.ClosedHalls.{HasShardLogs, IsOutInstance, ReadsAreRight, entries_of_instance, entries_of_shard, trace_of}
use Rattle.hall_laws.specs.ClosedHalls as laws
use Rattle.hall_laws.proofs.HallRuns.{logs_can_be_merged}
use Rattle.hall_table.specs.BookParts.{HasSeats}
use Rattle.hall_calls.specs.Closing.{no_shard, shard_in}
use Rattle.hall_table.specs.Logs.{book_trace, of_shard, trace_by}
use Rattle.hall_table.specs.SeatViews.{InstanceData}
use Rattle.hall_shards.specs.ShardValues.{ShardValue}
use Rattle.hall_table.specs.ShardParts.{HasShard}
use Rattle.hall_headline.specs.HallEnds.{HallEndsAreClosed, IsHallEnd, LogsOfHallEndsCanBeMerged, logs_of}
use Rattle.hall_headline.proofs.EntryLists.{entries_of_instance_are, entries_of_shard_are, reads_are_right}

-- ---- traces

-- an instance that is not out has no seat, so its trace is the one in the book
trace_by_book : (b : BookState) (seats : ℕ → Option InstanceData) → HasSeats b seats → (x : NodeId) → (IsOutInstance b x → ⊥)
    → trace_by b (seats x.iteration) x.iteration x.index ≡ trace_of b x
trace_by_book b seats h x not_out = by_seat (seats x.iteration) refl
  where
    of_seat : (d : InstanceData) → seats x.iteration ≡ Some d → d.fields.index ≡ x.index → IsOutInstance b x
    of_seat d e same =
        let r = h.run x.iteration d e in
        let token = r.1.out.token in
        let nodes : length (nodes_at (own_columns (state_of b)) d.fields.iteration) ≡ suc x.index =
        ap length (nodes_at_frame (state_of b).frames d.fields.iteration token.running.frame token.running.is) ∙ token.index
        ∙ ap suc same in
        record {
          out = subst (IsOut b) r.0 r.1.out.out;
          last = subst (λ i. length (nodes_at (own_columns (state_of b)) i) ≡ suc x.index) r.0 nodes;
        }

    by_seat : (o : Option InstanceData) → seats x.iteration ≡ o → trace_by b o x.iteration x.index ≡ trace_of b x
    by_seat None e = refl
    by_seat (Some d) e = dite (ℕ_discrete d.fields.index x.index)
        (λ same. absurd (not_out (of_seat d e same)))
        (λ other. ap (λ t. cond t d.entries (book_trace b x.iteration x.index)) (ne_eqb d.fields.index x.index other))

-- ---- logs

module _ (before : List Access) (b : BookState) (shards : List ShardValue) (h : IsHallEnd before b shards) where
  pub width : length (logs_of shards) ≡ 16
  width = length-map shards (λ (x : ShardValue). x.log) ∙ h.count

  pub log_is : (k : ℕ) → k < 16 → shard_at (logs_of shards) k ≡ (shard_in shards k).log
  log_is k l = let count = h.count in get_or-map (λ (x : ShardValue). x.log) shards k no_shard [] (omega (arith, l, count))

  pub log_past : (k : ℕ) → 16 ≤ k → shard_at (logs_of shards) k ≡ []
  log_past k past = let w = width in get_or_past (logs_of shards) k [] (omega (arith, past, w))

  pub has_shard : (k : ℕ) → k < 16 → HasShard before b h.ended.closed.seats k (shard_in shards k)
  has_shard = h.ended.closed.has_shards

  rises : (k : ℕ) → ShardRises (shard_at (logs_of shards) k)
  rises k = elim (cases_lt k 16) [
    | inl less ↦ subst ShardRises (sym (log_is k less)) (has_shard k less).shard.rises
    | inr past ↦ subst ShardRises (sym (log_past k past)) (λ i j d l w. absurd (omega (arith, w)))
  ]

  traces : (x : NodeId) (k : ℕ) → k < 16 → (IsOutInstance b x → ⊥)
      → entries_of_instance x (shard_at (logs_of shards) k) ≡ entries_of_shard 16 k (trace_of b x)
  traces x k l not_out =
      ap (entries_of_instance x) (log_is k l) ∙ entries_of_instance_are x (shard_in shards k).log
      ∙ (has_shard k l).traces x.iteration x.index
      ∙ ap (of_shard k) (trace_by_book b h.ended.closed.seats h.ended.closed.has_seats x not_out)
      ∙ sym (entries_of_shard_are k (trace_of b x))

  reads : (k : ℕ) → k < 16 → ReadsAreRight (store_of (tree_of b.program)) before (shard_at (logs_of shards) k)
  reads k l = subst (ReadsAreRight (store_of (tree_of b.program)) before) (sym (log_is k l))
      (reads_are_right (store_of (tree_of b.program)) before (shard_in shards k).log (has_shard k l).shard.replies)

  pub shard_logs : HasShardLogs b before (logs_of shards)
  shard_logs =
      let seats = h.ended.closed.has_seats in
      let w = width in
      record {
        some = omega (arith, w);
        traces = λ x k l not_out. traces x k (omega (arith, l, w)) not_out ∙ ap (λ n. entries_of_shard n k (trace_of b x)) (sym w);
        tickets = record {
          in_book = seats.rises;
          in_shards = rises;
          in_instance = λ i k. (seats.timely i k).rise;
          from_start = λ i k x m. (seats.timely i k).from_start x m;
          to_end = λ i k x end m e. (seats.timely i k).to_end x end m e;
        };
        reads = λ k d l. subst (ReadsAreRight (store_of (tree_of b.program)) before) (get_or_default (logs_of shards) k [] d l)
            (reads k (omega (arith, l, w)));
      }

  -- the ticket of `Stop`, by the list of the logs
  stop_is_last : laws.StopIsLast b (logs_of shards)
  stop_is_last stopped k d l =
      let w = width in
      let less : k < 16 = omega (arith, l, w) in
      subst (All (λ (e : ShardEntry). e.ticket < last_ticket b.log)) (sym (log_is k less) ∙ get_or_default (logs_of shards) k [] d l)
      (λ n f m. h.stop stopped k less (get_or (shard_in shards k).log n f) (among_at (shard_in shards k).log n f m))

pub hall_ends_are_closed : HallEndsAreClosed
hall_ends_are_closed before b shards h = record {
  book = h.book;
  logs = shard_logs before b shards h;
  stop =
      stop_is_last before b shards h;
}

pub logs_of_hall_ends_can_be_merged : LogsOfHallEndsCanBeMerged
logs_of_hall_ends_can_be_merged before b shards h = logs_can_be_merged b before (logs_of shards) (shard_logs before b shards h)
