-- A call on the book keeps what is known of the book, of the seats and of the shards.
use Rattle.std.proofs.Common.{◌≡◌, ◌≢◌, ℕ, ◌+◌, ◌*◌, ◌≤◌, List, [], ◌++◌, map, length, get_or, refl, sym, ap, ◌∙◌, ◌==◌, subst, arith}
use Rattle.std.proofs.Common.{cond, Option, Some, None}
use Rattle.std.proofs.lemmas.List.{length-append}
use mathlib.Core.Logic.{dite}
use native.Mathlib.Decide.{ℕ_discrete}
use Rattle.pipe_model.specs.declared.access.Access.{Access}
use Rattle.pipe_model.specs.declared.marks.Marks.{Marks}
use Rattle.pipe_model.specs.declared.node.NodeId.{NodeId}
use Rattle.pipe_model.specs.declared.ticket.BookEntry.{BookEntry}
use Rattle.pipe_model.specs.declared.ticket.ShardEntry.{ShardEntry}
use Rattle.pipe_model.specs.Language.Programs.{store_of}
use Rattle.pipe_model.specs.Language.SyntaxTree.{tree_of}
use Rattle.pipe_model.specs.Orders.GrowingLists.{AreIn}
use Rattle.pipe_model.specs.Pipelines.Store.{InitialStore}
use Rattle.pipe_model.specs.Races.DeterminacyRaces.{Among}
use Rattle.pipe_model.specs.Runs.TicketLogs.{start_tickets, ticket_at}
use Rattle.pipe_model.specs.Runs.TicketOrder.{start_ticket_of}
use Rattle.pipe_frame.specs.Replies.{replies_of}
use Rattle.pipe_frame.specs.Ties.{SeenLists}
use Rattle.run_laws.proofs.LogMerge.InstanceTickets.{start_tickets-append}
use Rattle.access_history.specs.declared.history.History.{History}
use Rattle.access_history.specs.declared.history.MarkedNode.{MarkedNode}
use Rattle.access_history.specs.KeptInstances.{AgreeOn}
use Rattle.access_history.specs.KnownOrder.{AgreeOnKnown}
use Rattle.frame_book.specs.BookStates.{BookState, IsOut, item_or, timed_access}
use Rattle.schedule_laws.proofs.BookOrder.{ticket_stays}
use Rattle.hall_table.specs.SeatViews.{HallConstants, InstanceData}
use Rattle.hall_shards.specs.ShardValues.{ShardValue, down_list, right_list, history_at}
use Rattle.hall_table.specs.Logs.{trace_by, of_shard, with_at}
use Rattle.hall_table.specs.BookParts.{HasSeats, IsTimelyToken, KnowsInstance, IsTimelyTrace, StartedBy, joined_in, marks_in}
use Rattle.hall_table.specs.ShardParts.{HasShard, IsCellHistory, IsOfLog, IsShardOf, who_of}
use Rattle.hall_table.specs.BookCalls.{IsIterationAfter, IsBookCall}
use Rattle.hall_table.proofs.Boards.{with_here, with_else}
use Rattle.hall_shards.proofs.ShardAccesses.{all_kept}

-- ---- tickets of a longer log

pub start_stays : (log added : List BookEntry) (i k t : ℕ) → start_ticket_of log i k ≡ Some t → start_ticket_of (log ++ added) i k ≡ Some t
start_stays log added i k t e = subst (λ l. ticket_at l k ≡ Some t) (sym (start_tickets-append i log added))
    (ticket_stays (start_tickets i log) (start_tickets i added) k t e)

-- ---- a history at equal marks

module _ (marks marks' : NodeId → Marks) (joined joined' : NodeId → ℕ) (log : List ShardEntry)
    (same : (e : ShardEntry) → Among e log → marks' e.node ≡ marks e.node)
    (joins : (e : ShardEntry) → Among e log → joined' e.node ≡ joined e.node) where
  who_same : (e : ShardEntry) → Among e log → who_of marks' e ≡ who_of marks e
  who_same e m = ap (λ (k : Marks). let w : MarkedNode = record { node = e.node; marks = k } in w) (same e m)

  cell_history_same : (lists : SeenLists) (c : ℕ) (h : History) → IsCellHistory marks joined lists log c h
      → IsCellHistory marks' joined' lists log c h
  cell_history_same lists c h q = record {
    kept = all_kept (IsOfLog marks log) (IsOfLog marks' log) h (λ w p. (p.0, p.1, p.2 ∙ sym (who_same p.0 p.1))) q.kept;
    after = λ down right agree known. q.after down right
        (λ e f a b. subst (λ (x : MarkedNode). AgreeOn (down_list lists) (right_list lists) down right x (who_of marks f)) (who_same e a)
        (subst (λ (y : MarkedNode). AgreeOn (down_list lists) (right_list lists) down right (who_of marks' e) y) (who_same f b)
        (agree e f a b)))
        (λ e f a b. subst (λ n. AgreeOnKnown (Some n) down right e.node f.node) (joins e a) (known e f a b));
  }

  pub shard_same : (before : List Access) (store : InitialStore) (k : ℕ) (x : ShardValue) → x.log ≡ log
      → IsShardOf before store marks joined k x → IsShardOf before store marks' joined' k x
  shard_same before store k x is h = record {
    number = h.number;
    part = h.part;
    cells = h.cells;
    own = h.own;
    there = h.there;
    replies = h.replies;
    rises = h.rises;
    last = h.last;
    most = h.most;
    bound = h.bound;
    seen = λ e m. subst (λ (z : Marks). AreIn (down_list x.lists) (right_list x.lists) z) (sym (same e (subst (λ l. Among e l) is m)))
        (h.seen e m);
    room = h.room;
    histories = λ slot. subst (λ l. IsCellHistory marks' joined' x.lists l (k + 16 * slot) (history_at x.histories slot)) (sym is)
        (cell_history_same x.lists (k + 16 * slot) (history_at x.histories slot)
        (subst (λ l. IsCellHistory marks joined x.lists l (k + 16 * slot) (history_at x.histories slot)) is (h.histories slot)));
  }

-- ---- a call

-- the trace at equal traces of the book
trace_same : (b c : BookState) (o : Option InstanceData) (i n : ℕ) → item_or [] c.traces i ≡ item_or [] b.traces i
    → trace_by c o i n ≡ trace_by b o i n
trace_same b c None i n e = ap (λ ts. get_or ts n []) e
trace_same b c (Some d) i n e = ap (λ ts. cond (d.fields.index == n) d.entries (get_or ts n [])) e

module _ (b c : BookState) (back given : Option InstanceData) (seats : ℕ → Option InstanceData) (t : IsBookCall b back c given)
    (h : HasSeats b seats) (at : seats t.iteration ≡ back) where
  abbrev i : ℕ
  i = t.iteration

  abbrev seats' : ℕ → Option InstanceData
  seats' = with_at seats i given

  abbrev here : IsIterationAfter b back c given i
  here = t.here seats h at

  longer : length b.log ≤ length c.log
  longer = let a = length-append b.log t.moves.added in let e = ap length t.moves.log in omega (arith, a, e)

  start_later : (j k s : ℕ) → start_ticket_of b.log j k ≡ Some s → start_ticket_of c.log j k ≡ Some s
  start_later j k s e = subst (λ l. start_ticket_of l j k ≡ Some s) (sym t.moves.log) (start_stays b.log t.moves.added j k s e)

  started_later : (j k now : ℕ) → StartedBy b.log j k now → StartedBy c.log j k now
  started_later j k now q = record { ticket = q.ticket; is = start_later j k q.ticket q.is; before = q.before }

  run_later : (d : InstanceData) → d.fields.iteration ≢ i → KnowsInstance b d → KnowsInstance c d
  run_later d ne q = record {
    out = record {
      out = t.moves.tokens d.fields.iteration ne ∙ q.out.out;
      token = t.moves.stays d.fields ne q.out.token;
      now =
          (let a = q.out.now in let l = longer in omega (arith, a, l));
    };
    replies = q.replies ∙ ap (λ ts. map replies_of ts) (sym (t.moves.traces d.fields.iteration ne));
    parts = q.parts;
    started = started_later d.fields.iteration d.fields.index d.fields.now q.started;
    rise = q.rise;
    from_start = λ e m. (let a = q.from_start e m in (a.0, start_later d.fields.iteration d.fields.index a.0 a.1, a.2));
    to_now = q.to_now;
  }

  timely_later : (j k : ℕ) → j ≢ i → IsTimelyTrace b j k → IsTimelyTrace c j k
  timely_later j k ne q =
      let same = ap (λ ts. map timed_access (get_or ts k [])) (t.moves.traces j ne) in
      record {
        rise = rw same q.rise;
        from_start = λ x m. (let a = q.from_start x (subst (λ l. Among x l) same m) in (a.0, start_later j k a.0 a.1, a.2));
        to_end = λ x end m e. q.to_end x end (subst (λ l. Among x l) same m) (t.moves.ends j k end ne e);
      }

  pub seats_after_call : HasSeats c seats'
  seats_after_call = record {
    control = here.control;
    rises = here.rises;
    tokens = here.tokens;
    traces = here.counts;
    run = λ k d e. dite (ℕ_discrete k i)
        (λ s. (let q = here.run d (sym (with_here seats i given) ∙ (ap seats' (sym s) ∙ e)) in (q.0 ∙ sym s, q.1)))
        (λ ne. (let q = h.run k d (sym (with_else seats i given k ne) ∙ e) in (q.0, run_later d (λ z. ne (sym q.0 ∙ z)) q.1)));
    out = λ k o. dite (ℕ_discrete k i)
        (λ s. (let q = here.out (subst (λ n. IsOut c n) s o) in (q.0, ap seats' s ∙ (with_here seats i given ∙ q.1))))
        (λ ne. (let q = h.out k (sym (t.moves.tokens k ne) ∙ o) in (q.0, with_else seats i given k ne ∙ q.1)));
    timely = λ k n. dite (ℕ_discrete k i) (λ s. subst (λ j. IsTimelyTrace c j n) (sym s) (here.timely n))
        (λ ne. timely_later k n ne (h.timely k n));
    kept = λ k. dite (ℕ_discrete k i) (λ s. subst (λ j. IsTimelyToken c j) (sym s) here.kept)
        (λ ne f e r. started_later k f.index f.now (h.kept k f (sym (t.moves.tokens k ne) ∙ e) (t.moves.runs k ne r)));
  }

  pub shard_after_call : (before : List Access) (k : ℕ) (x : ShardValue) → HasShard before b seats k x → HasShard before c seats' k x
  shard_after_call before k x q = record {
    shard = subst (λ (a : HallConstants). IsShardOf before (store_of (tree_of a.program)) (marks_in c) (joined_in c) k x)
        (sym t.moves.constants)
        (shard_same (marks_in b) (marks_in c) (joined_in b) (joined_in c) x.log (λ e m. t.moves.marks e.node (q.started e m))
        (λ e m. t.moves.joins e.node (q.started e m)) before (store_of (tree_of b.program)) k x refl q.shard);
    identities = subst (λ (a : HallConstants). (x.lists.down ≡ a.lists.down) × (x.lists.right ≡ a.lists.right))
        (sym t.moves.constants) q.identities;
    named = q.named;
    traces = λ j n. q.traces j n ∙ ap (of_shard k) (dite (ℕ_discrete j i)
        (λ s. (
        let new : trace_by c (seats' j) j n ≡ trace_by c given i n = ap (λ m. trace_by c (seats' m) m n) s
        ∙ ap (λ o. trace_by c o i n) (with_here seats i given) in
        let old : trace_by b (seats j) j n ≡ trace_by b back i n = ap (λ m. trace_by b (seats m) m n) s ∙ ap (λ o. trace_by b o i n) at in
        old ∙ (sym (here.traces n) ∙ sym new)))
        (λ ne. sym (ap (λ o. trace_by c o j n) (with_else seats i given j ne) ∙ trace_same b c (seats j) j n (t.moves.traces j ne))));
    started = λ e m. t.moves.starts e.node (q.started e m);
  }
