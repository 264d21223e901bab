-- A new hall obeys the rule.
use Rattle.std.proofs.Common.{◌≡◌, ℕ, ℤ, zero, suc, ◌+◌, ◌*◌, ◌<◌, List, [], ◌∷◌, ◌++◌, get_or, length, map, refl, sym, ap, ◌∙◌, subst}
use Rattle.std.proofs.Common.{arith, Option, Some, None, append-nil, replicate}
use mathlib.Core.Logic.{dite}
use native.Mathlib.Decide.{ℕ_discrete}
use Rattle.hall_calls.proofs.Closing.{at_end_is, at_more}
use mathlib.Core.Option.{some}
use lib.ListN.{get_elem?}
use Rattle.std.proofs.lemmas.List.{length-map}
use Rattle.atomic_table.specs.Table.{opening}
use Rattle.pipe_model.specs.declared.access.Access.{Access}
use Rattle.pipe_model.specs.declared.tree.Program.{Program}
use Rattle.pipe_model.specs.Language.Programs.{store_of}
use Rattle.pipe_model.specs.Language.SyntaxTree.{tree_of}
use Rattle.pipe_model.specs.Runs.ControlRun.{EmptyControlRun}
use Rattle.pipe_frame.specs.Ties.{ListIdentities, SeenLists}
use Rattle.cell_store.specs.ShardState.{IsStateAfter}
use Rattle.access_history.specs.declared.history.History.{History}
use Rattle.access_history.specs.KeptInstances.{IsHistoryAfter, nothing_kept}
use Rattle.frame_book.specs.BookStates.{BookState, Spent, Kept, Out}
use Rattle.frame_book.specs.NewBooks.{new_book}
use Rattle.hall_table.specs.SeatViews.{HallStart, InstanceData, start_of}
use Rattle.hall_shards.specs.ShardValues.{ShardValue}
use Rattle.std.specs.Prelude.{AllPairs}
use Rattle.pipe_model.specs.declared.ticket.ShardEntry.{ShardEntry}
use Rattle.pipe_model.specs.Races.DeterminacyRaces.{Among}
use Rattle.hall_table.specs.Logs.{accesses_of, noted_to, of_node}
use Rattle.hall_table.specs.HallRule.{Board, IsHall, IsRightView, first_view, place, lock_count, slot_of, value_at, width}
use Rattle.hall_table.specs.BookParts.{HasSeats, joined_in, marks_in}
use Rattle.hall_table.specs.ShardParts.{HasShard, HaveIdentities, IsCellHistory, last_of}
use Rattle.hall_calls.specs.NewShards.{IsNewShard, shard_slots}
use Rattle.hall_calls.specs.Closing.{shard_in}
use Rattle.hall_table.specs.declared.slot.Slot.TheVariants as slots
use Rattle.hall_table.specs.declared.view.View.{View}
use Rattle.hall_table.specs.declared.slot.Slot.{Slot}
use Rattle.pipe_model.proofs.Members.{none_among}
use Rattle.hall_table.proofs.Boards.{begins_none}

mapped : {A : Type 0} (xs : List A) (i : ℕ) (x : A) → get_elem? xs i ≡ some x → get_elem? (map some xs) i ≡ some (some x)
mapped [] i x e = absurd (cc)
mapped (y ∷ ys) zero x e = (let z : y ≡ x = cc in ap (λ u. some (some u)) z)
mapped (y ∷ ys) (suc i) x e = mapped ys i x e

no_pairs : AllPairs (λ (u : ShardEntry) (v : ShardEntry). u.ticket < v.ticket) []
no_pairs i j d l m = absurd (omega (arith, m))

abbrev nobody : ℕ → Option InstanceData
nobody i = None

module _ (p : Program) (input : List ℤ) (limit : ℕ) (lists : ListIdentities) where
  abbrev b : BookState
  b = new_book p input limit lists

  new_seats : HasSeats b nobody
  new_seats = record {
    control = EmptyControlRun;
    rises = λ i j d l m. absurd (omega (arith, m));
    tokens = refl;
    traces = refl;
    run = λ i d e. absurd (let z : None ≡ Some d = e in cc);
    out = λ i o. absurd (let z : Spent ≡ Out = o in cc);
    timely = λ i k. record { rise = tt; from_start = λ x m. absurd (none_among x m); to_end = λ x end m e. absurd (none_among x m) };
    kept = λ i f e r. absurd (let z : Spent ≡ Kept f = e in cc);
  }

  new_shard : (before : List Access) (seen : SeenLists) (k : ℕ) (x : ShardValue) → (seen.down ≡ lists.down) × (seen.right ≡ lists.right)
      → HaveIdentities seen
      → IsNewShard before (tree_of p) seen k x → HasShard before b nobody k x
  new_shard before seen k x of named h =
      let log = h.log in
      record {
        shard = record {
          number = h.number;
          part = h.part;
          cells = subst (λ l. IsStateAfter (store_of (tree_of p)) (before ++ accesses_of l) x.cells) (sym log)
              (subst (λ l. IsStateAfter (store_of (tree_of p)) l x.cells) (sym (append-nil before)) h.cells);
          own = λ e m. absurd (none_in e m);
          replies = λ front rest e s. absurd (never front rest e (sym log ∙ s));
          rises = subst (λ l. AllPairs (λ (u : ShardEntry) (v : ShardEntry). u.ticket < v.ticket) l) (sym log) no_pairs;
          there = λ e m. absurd (none_in e m);
          last = h.last ∙ ap last_of (sym log);
          most = λ e m. absurd (none_in e m);
          bound = (let z = h.last in omega (arith, z));
          seen = λ e m. absurd (none_in e m);
          room = h.room;
          histories = λ slot. subst (λ (y : History). IsCellHistory (marks_in b) (joined_in b) x.lists x.log (k + 16 * slot) y)
              (sym (h.histories slot)) (record {
                kept = record { writer = tt; rightmost = tt; downmost = tt };
                after = λ down right agree known. subst (λ l. IsHistoryAfter down right (noted_to (k + 16 * slot) l) nothing_kept) (sym log)
                    (record { kept = refl; report = refl });
              });
        };
        identities = (ap (λ (l : SeenLists). l.down) h.lists ∙ of.0, ap (λ (l : SeenLists). l.right) h.lists ∙ of.1);
        named = subst HaveIdentities (sym h.lists) named;
        traces = λ i n. ap (of_node i n) log;
        started = λ e m. absurd (none_in e m);
      }
    where
      none_in : (e : ShardEntry) → Among e x.log → ⊥
      none_in e m = none_among e (subst (Among e) h.log m)

      never : (front rest : List ShardEntry) (e : ShardEntry) → [] ≡ front ++ e ∷ rest → ⊥
      never [] rest e s = cc
      never (f ∷ fs) rest e s = cc

  -- the table
  module _ {M : Type 0} (before : List Access) (shard : ℕ → ShardValue) (words : List ℕ) (values : List (Slot M))
      (wide : length words ≡ width) (free : (i : ℕ) → get_or words i 0 ≡ 0)
      (full : length values ≡ lock_count) (home : (i : ℕ) → i < 17 → get_elem? values i ≡ some (slot_of (value_at b shard i))) where
    abbrev start : HallStart
    start = start_of b before

    new_board : Board (opening words values (first_view start)) b shard nobody
    new_board = record {
      number = λ i. 0;
      holder = λ i. 0;
      words = wide;
      homes = length-map values some ∙ full;
      places = λ i l. record {
        home = λ z. mapped values i (slot_of (value_at b shard i)) (home i l);
        away =
            λ ne. absurd (ne (free (place i)));
      };
      right = λ j v at. first_right j v at;
      each_seat = λ i d e. absurd (let z : None ≡ Some d = e in cc);
    }
      where
        first_right : (j : ℕ) (v : View) → get_elem? (first_view start ∷ []) j ≡ some v → IsRightView words b shard nobody (λ i. 0)
            (λ i. 0) j v.it
        first_right zero v at =
            let same : first_view start ≡ v = cc in
            subst (λ (u : View). IsRightView words b shard nobody (λ i. 0) (λ i. 0) 0 u.it) same (record {
              constants = λ a e. (let z : Some start.constants ≡ Some a = e in let w : a ≡ start.constants = cc in w);
              seen = begins_none [];
              met = begins_none [];
              run = λ d e. absurd (let z : None ≡ Some d = e in cc);
              held = λ i x m. absurd (none_among (i, x) m);
            })
        first_right (suc j) v at = absurd (cc)

    opens : ((k : ℕ) → k < 16 → HasShard before b nobody k (shard k)) → IsHall start (opening words values (first_view start))
    opens h = record { book = b; shard = shard; seats = nobody; constants = refl; board = new_board; has_seats = new_seats; has_shards = h }

-- the slots of a hall: the book, and then the shards
module _ (M : Type 0) where
  abbrev hall_slots : BookState → List ShardValue → List (Slot M)
  hall_slots b xs = slots.Book b ∷ shard_slots xs

  shard_at : (xs : List ShardValue) (k : ℕ) → k < length xs → get_elem? (shard_slots {M = M} xs) k ≡ some (slots.Shard (shard_in xs k))
  shard_at [] k l = absurd (omega (arith, l))
  shard_at (y ∷ ys) zero l = refl
  shard_at (y ∷ ys) (suc k) l = shard_at ys k (omega (arith, l))

  home_at : (b : BookState) (xs : List ShardValue) (i : ℕ) → i < suc (length xs)
      → get_elem? (hall_slots b xs) i ≡ some (slot_of (value_at b (shard_in xs) i))
  home_at b xs zero l = refl
  home_at b xs (suc k) l = shard_at xs k (omega (arith, l))

  slots_long : (xs : List ShardValue) → length (shard_slots {M = M} xs) ≡ length xs
  slots_long [] = refl
  slots_long (x ∷ xs) = ap suc (slots_long xs)

  pub all_slots : (b : BookState) (xs : List ShardValue) (values : List (Slot M)) → values ≡ hall_slots b xs → length xs ≡ 16
      → length values ≡ lock_count
  all_slots b xs values are len = let a = ap length are in let n = slots_long xs in omega (arith, a, n, len)

  pub halls_open : (before : List Access) (b : BookState) (seen : SeenLists) (xs : List ShardValue) (words : List ℕ)
      (values : List (Slot M))
      → b ≡ new_book b.program b.input b.limit b.lists → (seen.down ≡ b.lists.down) × (seen.right ≡ b.lists.right) → HaveIdentities seen
      → length words ≡ width → ((i : ℕ) → get_or words i 0 ≡ 0) → values ≡ hall_slots b xs → length xs ≡ 16
      → ((k : ℕ) → k < 16 → IsNewShard before (tree_of b.program) seen k (shard_in xs k)) → IsHall (start_of b before)
      (opening words values (first_view (start_of b before)))
  halls_open before b seen xs words values new of named wide free are len each =
      let c = new_book b.program b.input b.limit b.lists in
      let full = all_slots b xs values are len in
      subst (λ (z : BookState). IsHall {M = M} (start_of z before) (opening words values (first_view (start_of z before)))) (sym new)
      (opens b.program b.input b.limit b.lists before (shard_in xs) words values wide free full
      (λ i l. subst (λ vs. get_elem? vs i ≡ some (slot_of (value_at c (shard_in xs) i))) (sym are)
      (subst (λ (z : BookState). get_elem? (hall_slots z xs) i ≡ some (slot_of (value_at c (shard_in xs) i))) (sym new)
      (home_at c xs i (omega (arith, l, len)))))
      (λ k l. new_shard b.program b.input b.limit b.lists before seen k (shard_in xs k) of named (each k l)))

abbrev pub zeros : ℕ → List ℕ
zeros n = replicate n 0

pub zeros_at : (n i : ℕ) → get_or (zeros n) i 0 ≡ 0
zeros_at zero i = refl
zeros_at (suc n) zero = refl
zeros_at (suc n) (suc i) = zeros_at n i

-- one shard more at the end
pub shard_more : (M : Type 0) (xs : List ShardValue) (x : ShardValue)
    → shard_slots {M = M} (xs ++ x ∷ []) ≡ shard_slots xs ++ slots.Shard x ∷ []
shard_more M [] x = refl
shard_more M (y ∷ ys) x = ap (λ l. slots.Shard y ∷ l) (shard_more M ys x)

pub new_more : (K : ℕ → ShardValue → Type 0) (xs : List ShardValue) (x : ShardValue) (n : ℕ) → length xs ≡ n
    → ((k : ℕ) → k < n → K k (shard_in xs k)) → K n x → (k : ℕ) → k < n + 1 → K k (shard_in (xs ++ x ∷ []) k)
new_more K xs x n len each here k l = dite (ℕ_discrete k n)
    (λ e. subst (λ j. K j (shard_in (xs ++ x ∷ []) j)) (sym e)
    (subst (λ (y : ShardValue). K n y) (sym (ap (shard_in (xs ++ x ∷ [])) (sym len) ∙ at_end_is xs x)) here))
    (λ ne. subst (λ (y : ShardValue). K k y) (sym (at_more xs x k (omega (arith, l, ne, len)))) (each k (omega (arith, l, ne))))
