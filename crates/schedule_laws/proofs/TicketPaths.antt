-- Tickets that are in order along parents are in order along paths.
use Rattle.std.proofs.Common.{◌≡◌, ◌∙◌, sym, subst, refl, ℕ, zero, suc, List, Bool, true, false, inl, inr, ◌<◌, ◌≤◌, ◌+◌, Some, arith}
use Rattle.std.proofs.Common.{nat_lt}
use Rattle.std.proofs.lemmas.Bool.{cases_lt, lt-ltb}
use Rattle.pipe_model.specs.declared.node.Node.{Node}
use Rattle.pipe_model.specs.declared.node.NodeId.{NodeId}
use Rattle.pipe_model.specs.Races.Columns.{AreColumns}
use Rattle.pipe_model.specs.Races.Dag.{Edge, DownEdge, AcrossEdge, Precedes, ByEdge, ByPath}
use Rattle.pipe_model.specs.Orders.LeftParent.{joined_at, left_parent}
use Rattle.pipe_model.specs.Runs.TicketLogs.{TimedAction}
use Rattle.pipe_model.specs.declared.ticket.BookEntry.{BookEntry}
use Rattle.pipe_model.specs.declared.ticket.ShardEntry.{ShardEntry}
use Rattle.run_laws.proofs.ListOrders.JoinedPlaces.{reach_here, reach_left}
use Rattle.run_laws.proofs.ListOrders.PrecedingPlaces.{below_path}
use Rattle.run_laws.proofs.ListOrders.Reach.{reach}
use Rattle.pipe_model.specs.Runs.TicketOrder.{StartsAfterEnd, TicketsAreInOrder, end_ticket_of, start_ticket_of}
use Rattle.schedule_laws.specs.TicketOrderLaws.{OrderedTicketsMerge, PrecedingInstancesEndFirst}

module _ (columns : List (List Node)) (book : List BookEntry) (shards : ℕ → List ShardEntry) (made : ℕ → ℕ → List TimedAction) where
  -- an earlier instance of the column ended no later
  ended_before : TicketsAreInOrder columns book shards made → (i k end : ℕ) → end_ticket_of book i k ≡ Some end → (j : ℕ) → j ≤ k
      → (e : ℕ) × (end_ticket_of book i j ≡ Some e) × (e ≤ end)
  ended_before h i zero end is j le = let z : j ≡ 0 = omega (arith, le) in (end, (rw z is), omega arith)
  ended_before h i (suc k) end is j le = elim (cases_lt j (suc k)) [
    | inl less ↦ (
        let s = h.instances.from_start_to_end i (suc k) end is in
        let n : suc k ≡ k + 1 = omega arith in
        let u = h.instances.up i k s.0 (subst (λ m. start_ticket_of book i m ≡ Some s.0) n s.1) in
        let at_start : start_ticket_of book i (k + 1) ≡ Some s.0 = subst (λ m. start_ticket_of book i m ≡ Some s.0) n s.1 in
        let starts = u.starts in
        let same : u.start ≡ s.0 = cc in
        let r = ended_before h i k u.end u.ends j (omega (arith, less)) in
        let a = r.2 in
        let b = u.later in
        let c = s.2 in
        (r.0, r.1, omega (arith, a, b, c, same)))
    | inr more ↦ (let z : j ≡ suc k = omega (arith, le, more) in (end, (rw z is), omega arith))
  ]

  -- an instance that starts after the end of one starts after the ends of those above it
  starts_after : TicketsAreInOrder columns book shards made → (i j l m n start end : ℕ) → start_ticket_of book m n ≡ Some start
      → end_ticket_of book i l ≡ Some end → end < start → j ≤ l
      → StartsAfterEnd book i j m n
  starts_after h i j l m n start end starts ends later le =
      let r = ended_before h i l end ends j le in
      let a = r.2 in
      record { start = start; end = r.0; starts = starts; ends = r.1; later = omega (arith, later, a) }

  -- an instance starts after the ends of the instances of the left column that precede it
  left_ended : TicketsAreInOrder columns book shards made → (i k start : ℕ) → start_ticket_of book (suc i) k ≡ Some start → (j : ℕ)
      → j ≤ joined_at columns i k
      → StartsAfterEnd book i j (suc i) k
  left_ended h i zero start is j le =
      let u = h.instances.left i 0 0 start refl is in
      let z : j ≡ 0 = omega (arith, le) in
      rw z u
  left_ended h i (suc k) start is j le =
      by_test (nat_lt (joined_at columns i k) (joined_at columns i (suc k))) refl (λ s at_start q. left_ended h i k s at_start j q)
    where
      by_test : (b : Bool) → nat_lt (joined_at columns i k) (joined_at columns i (suc k)) ≡ b
          → ((s : ℕ) → start_ticket_of book (suc i) k ≡ Some s → j ≤ joined_at columns i k → StartsAfterEnd book i j (suc i) k)
          → StartsAfterEnd book i j (suc i) (suc k)
      by_test true t again =
          let parent : left_parent columns (suc i) (suc k) ≡ Some (joined_at columns i (suc k)) = rw t in
          let u = h.instances.left i (joined_at columns i (suc k)) (suc k) start parent is in
          starts_after h i j (joined_at columns i (suc k)) (suc i) (suc k) u.start u.end u.starts u.ends u.later le
      by_test false t again =
          let n : suc k ≡ k + 1 = omega arith in
          let u = h.instances.up (suc i) k start (subst (λ m. start_ticket_of book (suc i) m ≡ Some start) n is) in
          let s = h.instances.from_start_to_end (suc i) k u.end u.ends in
          let bounded : j ≤ joined_at columns i k = elim (cases_lt (joined_at columns i k) (joined_at columns i (suc k))) [
            | inl more ↦ absurd (let x = lt-ltb (joined_at columns i k) (joined_at columns i (suc k)) more in cc)
            | inr same ↦ omega (arith, same, le)
          ] in
          let r = again s.0 s.1 bounded in
          let starts = r.starts in
          let first = s.1 in
          let e : r.start ≡ s.0 = cc in
          let a = r.later in
          let b = s.2 in
          let c = u.later in
          record {
            start = u.start;
            end = r.end;
            starts = subst (λ m. start_ticket_of book (suc i) m ≡ Some u.start) (sym n) u.starts;
            ends = r.ends;
            later = omega (arith, a, b, c, e);
          }

  -- along an edge
  edge_ended : AreColumns columns → TicketsAreInOrder columns book shards made → (x y : NodeId) (start : ℕ) → Edge columns x y
      → start_ticket_of book y.iteration y.index ≡ Some start
      → StartsAfterEnd book x.iteration x.index y.iteration y.index
  edge_ended ok h x y start (DownEdge i k l) is = h.instances.up i k start is
  edge_ended ok h x y start (AcrossEdge i j k c) is =
      let b = below_path ok (ByEdge (AcrossEdge i j k c)) in
      let n : i + 1 ≡ suc i = omega arith in
      let within : j ≤ reach columns (i + 1) k i = b.within (omega arith) in
      let near : j ≤ reach columns (suc i) k i = subst (λ m. j ≤ reach columns m k i) n within in
      let r : reach columns (suc i) k i ≡ joined_at columns i k = reach_left columns i k i (omega arith)
      ∙ reach_here columns i (joined_at columns i k) in
      subst (λ m. StartsAfterEnd book i j m k) (sym n)
      (left_ended h i k start (subst (λ m. start_ticket_of book m k ≡ Some start) n is) j (omega (arith, near, r)))

  -- along a path
  path_ended : AreColumns columns → TicketsAreInOrder columns book shards made → (x y : NodeId) (start : ℕ) → Precedes columns x y
      → start_ticket_of book y.iteration y.index ≡ Some start
      → StartsAfterEnd book x.iteration x.index y.iteration y.index
  path_ended ok h x y start (ByEdge e) is = edge_ended ok h x y start e is
  path_ended ok h x y start (ByPath {y = m} p e) is =
      let u = edge_ended ok h m y start e is in
      let s = h.instances.from_start_to_end m.iteration m.index u.end u.ends in
      let r = path_ended ok h x m s.0 p s.1 in
      let starts = r.starts in
      let first = s.1 in
      let same : r.start ≡ s.0 = cc in
      let a = r.later in
      let b = s.2 in
      let c = u.later in
      record { start = u.start; end = r.end; starts = u.starts; ends = r.ends; later = omega (arith, a, b, c, same) }

pub preceding_instances_end_first : PrecedingInstancesEndFirst
preceding_instances_end_first columns book shards made ok h x y start p is = path_ended columns book shards made ok h x y start p is

pub ordered_tickets_merge : OrderedTicketsMerge
ordered_tickets_merge columns book shards made h = record {
  rise = h.logs.in_instance;
  after_start = h.logs.from_start;
  before_end = h.logs.to_end;
  start_end = h.instances.from_start_to_end;
  down = λ i k t s ends starts. (
      let u = h.instances.up i k s starts in
      let a = u.ends in
      let b = u.starts in
      let same : Some u.end ≡ Some t = sym a ∙ ends in
      let other : Some u.start ≡ Some s = sym b ∙ starts in
      let e : u.end ≡ t = cc in
      let f : u.start ≡ s = cc in
      let l = u.later in
      omega (arith, e, f, l));
}
