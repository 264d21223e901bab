-- Taking everything.
use mathlib.Core.Logic.{dite}
use native.Mathlib.Decide.{ℕ_discrete}
use Rattle.std.proofs.Common.{◌≡◌, ℕ, zero, suc, ◌+◌, ◌<◌, ◌≤◌, ◌^◌, List, [], ◌∷◌, ◌++◌, length, set, length-set, get_or-set_same, refl}
use Rattle.std.proofs.Common.{sym, ap, ◌∙◌, subst, arith, Option, ◌↔◌}
use Rattle.std.proofs.lemmas.List.{length-append}
use Rattle.pipe_model.specs.Races.DeterminacyRaces.{Among, Here, Later}
use Rattle.frame_book.specs.BookStates.{BookState, events_of}
use Rattle.hall_table.specs.SeatViews.{HallStart, InstanceData, SeatView, TheBook, TheShard}
use Rattle.hall_shards.specs.ShardValues.{ShardValue}
use Rattle.pipe_model.specs.declared.access.Access.{Access}
use Rattle.pipe_model.specs.Orders.OrderList.{IsBeforeIn, list_of_log}
use Rattle.pipe_model.specs.Orders.Starts.{starts_of}
use Rattle.pipe_model.specs.Orders.TwoOrders.{down_place, right_place}
use Rattle.pipe_model.specs.Runs.RunLogs.{columns_after}
use Rattle.hall_table.specs.BookParts.{HasSeats, joined_in, marks_in}
use Rattle.hall_table.specs.ShardParts.{HasShard}
use Rattle.hall_calls.specs.Closing.{EndedHall, HasHistories, no_shard, shard_in}
use Rattle.hall_shards.specs.Learning.{HasLearned, HasSeenAll}
use Rattle.hall_table.specs.Steps.{ClosedHall, HoldsAll, holding}
use Rattle.pipe_model.specs.declared.event.Event.{Event}
use Rattle.pipe_model.specs.Language.Programs.{store_of}
use Rattle.pipe_model.specs.Language.SyntaxTree.{tree_of}
use Rattle.hall_shards.proofs.ListItems.{set_other}
use Rattle.hall_calls.proofs.KnownBefore.{known_before}
use Rattle.hall_table.proofs.Sharding.{shard_met}

-- the seat has taken the book and the first k shards
pub record HoldsFirst (start : SeatView) (b : BookState) (xs : List ShardValue) (k : ℕ) (v : SeatView) : Type 0 where
  pub len : length xs ≡ k
  pub seen : v.seen ≡ start.seen
  pub book : Among (0, TheBook b) v.held
  pub each : (j : ℕ) → j < k → Among (suc j, TheShard (shard_in xs j)) v.held

pub at_more : (xs : List ShardValue) (x : ShardValue) (j : ℕ) → j < length xs → shard_in (xs ++ x ∷ []) j ≡ shard_in xs j
at_more [] x j l = absurd (omega (arith, l))
at_more (y ∷ ys) x zero l = refl
at_more (y ∷ ys) x (suc j) l = at_more ys x j (omega (arith, l))

pub at_end_is : (xs : List ShardValue) (x : ShardValue) → shard_in (xs ++ x ∷ []) (length xs) ≡ x
at_end_is [] x = refl
at_end_is (y ∷ ys) x = at_end_is ys x

pub first_none : (v w : SeatView) (b : BookState) → w ≡ holding v 0 (TheBook b) → HoldsFirst w b [] 0 w
first_none v w b e = record {
  len = refl;
  seen = refl;
  book = subst (λ (u : SeatView). Among (0, TheBook b) u.held) (sym e) Here;
  each = λ j l. absurd (omega (arith, l));
}

pub first_more : (start v w : SeatView) (b : BookState) (xs : List ShardValue) (k : ℕ) (x : ShardValue)
    → w ≡ holding v (1 + k) (TheShard x) → HoldsFirst start b xs k v → HoldsFirst start b (xs ++ x ∷ []) (k + 1) w
first_more start v w b xs k x e h = subst (HoldsFirst start b (xs ++ x ∷ []) (k + 1)) (sym e) (record {
  len = (let n = length-append xs (x ∷ []) in let l = h.len in omega (arith, n, l));
  seen = h.seen;
  book = Later _ h.book;
  each = λ j l. dite (ℕ_discrete j k)
      (λ s. (let q : shard_in (xs ++ x ∷ []) j ≡ x = ap (shard_in (xs ++ x ∷ [])) (s ∙ sym h.len) ∙ at_end_is xs x in
      let n : suc j ≡ 1 + k = (omega (arith, s)) in
      subst (λ (y : ShardValue). Among (suc j, TheShard y) ((1 + k, TheShard x) ∷ v.held)) (sym q)
      (subst (λ m. Among (m, TheShard x) ((1 + k, TheShard x) ∷ v.held)) (sym n) Here)))
      (λ ne. (let n = h.len in let below : j < length xs = omega (arith, l, ne, n) in let small : j < k = omega (arith, l, ne) in
      subst (λ (y : ShardValue). Among (suc j, TheShard y) ((1 + k, TheShard x) ∷ v.held)) (sym (at_more xs x j below))
      (Later _ (h.each j small))));
})

pub holds_all : (start v : SeatView) (b : BookState) (xs : List ShardValue) → HoldsFirst start b xs 16 v → HoldsAll v.held b (shard_in xs)
holds_all start v b xs h = record { book = h.book; shards = h.each }

-- ---- histories

pub histories_at_end : (before : List Access) (b : BookState) (seats : ℕ → Option InstanceData) (k : ℕ) (x : ShardValue) → HasSeats b seats
    → HasShard before b seats k x → HasSeenAll b x.lists → HasHistories b k x
histories_at_end before b seats k x s h all slot =
    let starts = starts_of (events_of b.log) in
    let columns = columns_after (events_of b.log) in
    (h.shard.histories slot).after (down_place starts) (right_place columns starts) (λ e f me mf. record {
      in_down = subst (λ l. IsBeforeIn (list_of_log l) (marks_in b f.node).down_first (marks_in b e.node).down_first ↔
          (down_place starts f.node < down_place starts e.node)) (sym all.0) ((λ p. p), (λ p. p));
      in_right = subst (λ l. IsBeforeIn (list_of_log l) (marks_in b f.node).right_first (marks_in b e.node).right_first ↔
          (right_place columns starts f.node < right_place columns starts e.node)) (sym all.1) ((λ p. p), (λ p. p));
    }) (λ e f me mf. known_before b s.control e.node f.node (h.started e me) (h.started f mf))

-- ---- learning

pub learned_shard : (before : List Access) (b : BookState) (seats : ℕ → Option InstanceData) (k : ℕ) (x y : ShardValue) → HasLearned b x y
    → HasShard before b seats k x → HasShard before b seats k y
learned_shard before b seats k x y l h = subst (HasShard before b seats k) (sym l.is) (record {
  shard = shard_met before (store_of (tree_of b.program)) (marks_in b) (joined_in b) k x l.lists l.grown h.shard;
  identities = (l.grown.identities.0 ∙ h.identities.0, l.grown.identities.1 ∙ h.identities.1);
  named = ((h.named.0.0, h.named.0.1, l.grown.identities.0 ∙ h.named.0.2), (h.named.1.0, h.named.1.1, l.grown.identities.1 ∙ h.named.1.2));
  traces = h.traces;
  started = h.started;
})

-- the first k shards have learned, and the others are as they were
pub record LearnedFirst (b : BookState) (xs ys : List ShardValue) (k : ℕ) : Type 0 where
  pub len : length ys ≡ 16
  pub learned : (j : ℕ) → j < k → HasLearned b (shard_in xs j) (shard_in ys j)
  pub rest : (j : ℕ) → k ≤ j → shard_in ys j ≡ shard_in xs j

pub learned_none : (b : BookState) (xs : List ShardValue) → length xs ≡ 16 → LearnedFirst b xs xs 0
learned_none b xs len = record { len = len; learned = λ j l. absurd (omega (arith, l)); rest = λ j l. refl }

pub learned_more : (b : BookState) (xs ys : List ShardValue) (k : ℕ) (y : ShardValue) → k < 16 → HasLearned b (shard_in ys k) y
    → LearnedFirst b xs ys k
    → LearnedFirst b xs (set ys k y) (k + 1)
learned_more b xs ys k y small l h =
    let here : shard_in (set ys k y) k ≡ y = get_or-set_same ys k y no_shard (let n = h.len in omega (arith, n, small)) in
    record {
      len = length-set ys k y ∙ h.len;
      learned = λ j s. dite (ℕ_discrete j k)
          (λ e. subst (λ n. HasLearned b (shard_in xs n) (shard_in (set ys k y) n)) (sym e) (subst (HasLearned b (shard_in xs k)) (sym here)
          (subst (λ (z : ShardValue). HasLearned b z y) (h.rest k (omega arith)) l)))
          (λ ne. subst (HasLearned b (shard_in xs j)) (sym (set_other ys k j y no_shard ne)) (h.learned j (omega (arith, s, ne))));
      rest = λ j s. set_other ys k j y no_shard (λ e. (omega (arith, s, e))) ∙ h.rest j (omega (arith, s));
    }

-- ---- the end

-- a hall whose shards have learned
module _ (start : HallStart) (seen : List Event) (b : BookState) (shard new : ℕ → ShardValue) (h : ClosedHall start seen b shard)
    (learned : (k : ℕ) → k < 16 → HasLearned b (shard k) (new k)) where
  has_seen : (k : ℕ) → k < 16 → HasSeenAll b (new k).lists
  has_seen k l = (let q = learned k l in subst (λ (z : ShardValue). HasSeenAll b z.lists) (sym q.is) q.all)

  new_shards : (k : ℕ) → k < 16 → HasShard start.before b h.seats k (new k)
  new_shards k l = learned_shard start.before b h.seats k (shard k) (new k) (learned k l) (h.has_shards k l)

  pub learned_hall : EndedHall start seen b new
  learned_hall = record {
    closed = record { seats = h.seats; constants = h.constants; has_seats = h.has_seats; has_shards = new_shards; seen = h.seen };
    all = has_seen;
    histories = λ k l. histories_at_end start.before b h.seats k (new k) h.has_seats (new_shards k l) (has_seen k l);
  }

-- the tickets of a closed hall's shards are bounded
pub shards_bounded : (start : HallStart) (seen : List Event) (b : BookState) (shard : ℕ → ShardValue) → EndedHall start seen b shard
    → (k : ℕ) → k < 16 → (shard k).last ≤ 2 ^ 62
shards_bounded start seen b shard h k l = (h.closed.has_shards k l).shard.bound
