-- The actions of an iteration in a merge rise, so they are its trace.
use Rattle.std.proofs.Common.{List, ◌≡◌, [], ◌∷◌, inl, sym, ◌∙◌, inr, ap, arith, refl, ℕ, ◌<◌, ◌%◌, Bool, ◌++◌, true, false, subst, ◌==◌}
use Rattle.std.proofs.Common.{map}
use Rattle.pipe_model.specs.Pipelines.Behaviour.{Staged, Ended, Accessed, Action, Performs}
use Rattle.pipe_model.specs.Runs.ControlRun.{is_access}
use Rattle.run_laws.proofs.LogMerge.EventParts.{actions_at}
use Rattle.pipe_model.specs.Pipelines.Pipeline.{Pipeline}
use Rattle.pipe_model.specs.Races.DeterminacyRaces.{Among, Here, Later}
use Rattle.pipe_model.specs.Runs.State.{State}
use Rattle.pipe_model.specs.Runs.TicketLogs.{if_end, end_action, TimedAction, TicketsRise, LogEntry, ticket_of, OfBook, OfShard, rank_of}
use Rattle.pipe_model.specs.Runs.TicketLogs.{InOrder}
use Rattle.pipe_model.specs.declared.ticket.ShardEntry.{ShardEntry}
use Rattle.pipe_model.specs.Runs.TicketLogs.{IsMerge, book_in, event_of}
use Rattle.pipe_model.specs.declared.ticket.BookEntry.{BookEntry}
use Rattle.pipe_model.specs.declared.access.Access.{Access as Cell_access}
use Rattle.pipe_model.specs.declared.event.Event.{Event}
use Rattle.pipe_model.specs.declared.event.Event.TheVariants.{Begin, Access, Advance, Enter, Finish, Stop}
use Rattle.run_laws.proofs.LogMerge.FittingLogs.{FitTogether}
use Rattle.run_laws.proofs.LogMerge.MergeSplits.{cells_of}
use Rattle.run_laws.proofs.LogMerge.MergedActions.{timed_in_entry, timed_if, timed_in_merge, comes_from}
use Rattle.run_laws.proofs.LogMerge.MergedActions.{action_of_entry, action_merged, timed_are_actions}
use Rattle.pipe_model.proofs.Members.{none_among, among_either, only_one}
use Rattle.run_laws.proofs.LogMerge.Entries.{timed}

-- in a rising list equal tickets belong to one action
pub same_ticket : (xs : List TimedAction) (x y : TimedAction) → TicketsRise xs → Among x xs → Among y xs
    → x.ticket ≡ y.ticket → x ≡ y
same_ticket [] x y r m n e = absurd (none_among x m)
same_ticket (z ∷ xs) x y r m n e = elim (among_either x (z ∷ []) xs m) [
  | inl a ↦ elim (among_either y (z ∷ []) xs n) [
    | inl b ↦ only_one x z a ∙ sym (only_one y z b)
    | inr b ↦ (
        let up = r.0 y b in
        let q = ap (λ (w : TimedAction). w.ticket) (only_one x z a) in
        absurd (omega (arith, up, q, e)))
  ]
  | inr a ↦ elim (among_either y (z ∷ []) xs n) [
    | inl b ↦ (
        let up = r.0 x a in
        let q = ap (λ (w : TimedAction). w.ticket) (only_one y z b) in
        absurd (omega (arith, up, q, e)))
    | inr b ↦ same_ticket xs x y r.1 a b e
  ]
]

-- two rising lists with the same elements are equal
same_rising : (xs ys : List TimedAction) → TicketsRise xs → TicketsRise ys
    → ((z : TimedAction) → Among z xs → Among z ys) → ((z : TimedAction) → Among z ys → Among z xs) → xs ≡ ys
same_rising [] [] r q f g = refl
same_rising [] (y ∷ ys) r q f g = absurd (none_among y (g y Here))
same_rising (x ∷ xs) [] r q f g = absurd (none_among x (f x Here))
same_rising (x ∷ xs) (y ∷ ys) r q f g =
    let same : x ≡ y = elim (among_either x (y ∷ []) ys (f x Here)) [
      | inl a ↦ only_one x y a
      | inr a ↦ elim (among_either y (x ∷ []) xs (g y Here)) [
        | inl b ↦ sym (only_one y x b)
        | inr b ↦ (let up = q.0 x a in let down = r.0 y b in absurd (omega (arith, up, down)))
      ]
    ] in
    let tails : xs ≡ ys = same_rising xs ys r.1 q.1
    (λ z m. elim (among_either z (y ∷ []) ys (f z (Later x m))) [
      | inl a ↦ (
          let up = r.0 z m in
          let e = ap (λ (w : TimedAction). w.ticket) (only_one z y a ∙ sym same) in
          absurd (omega (arith, up, e)))
      | inr b ↦ b
    ])
    (λ z m. elim (among_either z (x ∷ []) xs (g z (Later y m))) [
      | inl a ↦ (
          let up = q.0 z m in
          let e = ap (λ (w : TimedAction). w.ticket) (only_one z x a ∙ same) in
          absurd (omega (arith, up, e)))
      | inr b ↦ b
    ]) in
    cc

-- an action has the ticket of its entry
timed_ticket : (i : ℕ) (y : LogEntry) (x : TimedAction) → Among x (timed_in_entry i y) → x.ticket ≡ ticket_of y
timed_ticket i (OfBook b) x m = by_event b.event m
  where
    by_event : (e : Event) → Among x (end_action i e b.ticket) → x.ticket ≡ b.ticket
    by_event (Begin j) o = absurd (none_among x o)
    by_event (Access j a) o = absurd (none_among x o)
    by_event (Advance j k n) o = ap (λ (w : TimedAction). w.ticket) (timed_if (j == i) b.ticket (Staged k n) x o).is
    by_event (Enter j) o = absurd (none_among x o)
    by_event (Finish j e) o = ap (λ (w : TimedAction). w.ticket) (timed_if (j == i) b.ticket (Ended e) x o).is
    by_event Stop o = absurd (none_among x o)
timed_ticket i (OfShard k e) x m =
    ap (λ (w : TimedAction). w.ticket) (timed_if (e.node.iteration == i) e.ticket (Accessed e.access) x m).is

-- an action of the book is not an access
book_has_no_access : (i : ℕ) (e : Event) (t : ℕ) (x : TimedAction) (a : Cell_access) → Among x (end_action i e t)
    → x.action ≡ Accessed a → ⊥
book_has_no_access i (Begin j) t x a o q = none_among x o
book_has_no_access i (Access j b) t x a o q = none_among x o
book_has_no_access i (Advance j k n) t x a o q =
    let w = ap (λ (w : TimedAction). w.action) (timed_if (j == i) t (Staged k n) x o).is in
    cc
book_has_no_access i (Enter j) t x a o q = none_among x o
book_has_no_access i (Finish j e) t x a o q =
    let w = ap (λ (w : TimedAction). w.action) (timed_if (j == i) t (Ended e) x o).is in
    cc
book_has_no_access i Stop t x a o q = none_among x o

-- entries with one ticket in two logs do not have the same action
logs_differ : (width i : ℕ) (y w : LogEntry) (x : TimedAction) → rank_of y < rank_of w
    → ((k : ℕ) (e : ShardEntry) → y ≡ OfShard k e → e.access.cell.0 % width ≡ k)
    → ((k : ℕ) (e : ShardEntry) → w ≡ OfShard k e → e.access.cell.0 % width ≡ k)
    → Among x (timed_in_entry i y) → Among x (timed_in_entry i w) → ⊥
logs_differ width i y (OfBook b) x l cy cw m n = omega (arith, l)
logs_differ width i (OfBook b) (OfShard k e) x l cy cw m n =
    book_has_no_access i b.event b.ticket x e.access m
    (ap (λ (w : TimedAction). w.action) (timed_if (e.node.iteration == i) e.ticket (Accessed e.access) x n).is)
logs_differ width i (OfShard j d) (OfShard k e) x l cy cw m n =
    let a = ap (λ (w : TimedAction). w.action)
    (timed_if (d.node.iteration == i) d.ticket (Accessed d.access) x m).is in
    let b = ap (λ (w : TimedAction). w.action)
    (timed_if (e.node.iteration == i) e.ticket (Accessed e.access) x n).is in
    let same : d.access ≡ e.access = cc in
    let u = cy j d refl in
    let v = cw k e refl in
    let cell = ap (λ (z : Cell_access). z.cell.0 % width) same in
    omega (arith, l, u, v, cell)

-- a rising list with one more action at its front
rises_push_one : (b : Bool) (t : ℕ) (x : Action) (rest : List TimedAction)
    → ((u v : TimedAction) → Among u (if_end b t x) → Among v rest → u.ticket < v.ticket) → TicketsRise rest
    → TicketsRise (if_end b t x ++ rest)
rises_push_one true t x rest less r = ((λ v m. less (timed t x) v Here m), r)
rises_push_one false t x rest less r = r

-- a rising list with the action of one more entry at its front
rises_push_entry : (i : ℕ) (y : LogEntry) (rest : List TimedAction)
    → ((u v : TimedAction) → Among u (timed_in_entry i y) → Among v rest → u.ticket < v.ticket) → TicketsRise rest
    → TicketsRise (timed_in_entry i y ++ rest)
rises_push_entry i (OfBook b) rest less r = by_event b.event less
  where
    by_event : (e : Event)
        → ((u v : TimedAction) → Among u (end_action i e b.ticket) → Among v rest → u.ticket < v.ticket)
        → TicketsRise (end_action i e b.ticket ++ rest)
    by_event (Begin j) l = r
    by_event (Access j a) l = r
    by_event (Advance j k n) l = rises_push_one (j == i) b.ticket (Staged k n) rest l r
    by_event (Enter j) l = r
    by_event (Finish j e) l = rises_push_one (j == i) b.ticket (Ended e) rest l r
    by_event Stop l = r
rises_push_entry i (OfShard k e) rest less r =
    rises_push_one (e.node.iteration == i) e.ticket (Accessed e.access) rest less r

-- the actions of an iteration rise
merged_rises : (width i : ℕ) (trace : List TimedAction) → TicketsRise trace → (xs : List LogEntry) → InOrder xs
    → ((y : LogEntry) (x : TimedAction) → Among y xs → Among x (timed_in_entry i y) → Among x trace)
    → ((y : LogEntry) → Among y xs → (k : ℕ) (e : ShardEntry) → y ≡ OfShard k e → e.access.cell.0 % width ≡ k)
    → TicketsRise (timed_in_merge i xs)
merged_rises width i trace r [] order inside cells = tt
merged_rises width i trace r (y ∷ xs) order inside cells =
    rises_push_entry i y (timed_in_merge i xs)
    (λ x z m n.
    let from = comes_from i xs z n in
    let tx = timed_ticket i y x m in
    let tz = timed_ticket i from.stamp z from.one in
    elim (order.0 from.stamp from.made) [
      | inl less ↦ omega (arith, tx, tz, less)
      | inr tie ↦ (
          let t = tie.0 in
          let same : x ≡ z =
          same_ticket trace x z r (inside y x Here m) (inside from.stamp z (Later y from.made) from.one)
          (omega (arith, tx, tz, t)) in
          absurd (logs_differ width i y from.stamp x tie.1 (cells y Here) (cells from.stamp (Later y from.made)) m
          (subst (λ w. Among w (timed_in_entry i from.stamp)) (sym same) from.one)))
    ])
    (merged_rises width i trace r xs order.1 (λ w x m o. inside w x (Later y m) o) (λ w m. cells w (Later y m)))

-- the actions of an iteration in the merge are what its behaviour performs
pub merged_program : (p : Pipeline) (limit width : ℕ) (book : List BookEntry)
    (shards : ℕ → List ShardEntry) (c : State) (merged : List LogEntry)
    → FitTogether p limit width book shards c → IsMerge book shards merged
    → ((b : BookEntry) → Among b (book_in merged) → is_access b.event ≡ false)
    → (i : ℕ) → Performs (p.behaviour i) (actions_at i (map event_of merged))
merged_program p limit width book shards c merged fit merge silent i =
    let t = fit.traces i in
    let trace = t.0 in
    let inside : (y : LogEntry) (x : TimedAction) → Among y merged → Among x (timed_in_entry i y) → Among x trace =
    λ y x m o. t.1.all x (action_of_entry book shards merged merge i y x m o) in
    let rises = merged_rises width i trace t.1.rises merged merge.order inside
    (cells_of p limit width book shards c merged fit merge) in
    let same : timed_in_merge i merged ≡ trace = same_rising (timed_in_merge i merged) trace rises t.1.rises
    (λ z m. (let from = comes_from i merged z m in inside from.stamp z from.made from.one))
    (λ z m. action_merged book shards merged merge i z (t.1.only z m)) in
    subst (λ l. Performs (p.behaviour i) l)
    (sym (timed_are_actions i merged silent ∙ ap (λ l. map (λ (y : TimedAction). y.action) l) same)) t.1.performs
