-- If tickets rise in the book and in each shard, the sorted entries are the merge of the logs, and there is no other.
use Rattle.std.proofs.Common.{◌≡◌, ◌≢◌, ◌∙◌, refl, sym, ap, subst, ℕ, zero, suc, ◌+◌, ◌<◌, ◌≤◌, List, [], ◌∷◌, ◌++◌, map, get_or}
use Rattle.std.proofs.Common.{Bool, true, false, eq-eqb, nat_lt, if◌then◌else◌, arith, inl, inr, ◌⊎◌, All, AllPairs}
use Rattle.std.specs.Prelude.{◌||◌, ◌&&◌, ◌==◌}
use Rattle.std.proofs.lemmas.Bool.{cases_lt, eqb-true, false≢true}
use Rattle.std.proofs.lemmas.Bool.Decides.{nat_tests}
use Rattle.pipe_model.specs.declared.ticket.BookEntry.{BookEntry}
use Rattle.pipe_model.specs.declared.ticket.ShardEntry.{ShardEntry}
use Rattle.pipe_model.specs.Races.DeterminacyRaces.{Among, Here, Later}
use Rattle.pipe_model.specs.declared.event.Event.{Event}
use Rattle.pipe_model.specs.Runs.TicketLogs.{ComesBefore, InOrder, IsMerge, LogEntry, OfBook, OfShard, book_in, if_shard, rank_of, shard_in}
use Rattle.pipe_model.specs.Runs.TicketLogs.{event_of, ticket_of}
use Rattle.pipe_model.proofs.Members.{among_either, none_among, only_one}
use Rattle.run_record.specs.MergedLogs.{AreMerged, BookRises, ShardRises, shard_at}
use Rattle.run_record.specs.SortedEntries.{MergesAreSorted, comes_before, entries_from}
use Rattle.run_record.specs.SortedEntries.{merged_entries, merged_events, sorted_entries, with_entry}
use Rattle.run_record.proofs.MergeSteps.{book_member, shard_member}
use Rattle.run_record.proofs.RisingLists.{after_next, among_map}

-- ---- which of two entries comes first

-- two entries of one log, of which the first has the lower ticket; those of different logs may be in either order
abbrev RisesTo : LogEntry → LogEntry → Type 0
RisesTo x y = rank_of x ≡ rank_of y → ticket_of x < ticket_of y

below : (t u : ℕ) → nat_lt t u ≡ true → t < u
below t u e = grind (arith, nat_tests)

not_below : (t u : ℕ) → nat_lt t u ≡ false → u ≤ t
not_below t u e = grind (arith, nat_tests)

tested_below : (t u : ℕ) → t < u → nat_lt t u ≡ true
tested_below t u less = grind (arith, nat_tests)

tested : (t u r s : ℕ) → (nat_lt t u || ((t == u) && nat_lt r s)) ≡ true → (t < u) ⊎ ((t ≡ u) × (r < s))
tested t u r s e = by_ticket (nat_lt t u) refl e
  where
    by_rank : (b : Bool) → (t == u) ≡ b → (b && nat_lt r s) ≡ true → (t < u) ⊎ ((t ≡ u) × (r < s))
    by_rank true same less = inr (eqb-true t u same, below r s less)
    by_rank false same less = absurd (false≢true less)

    by_ticket : (b : Bool) → nat_lt t u ≡ b → (b || ((t == u) && nat_lt r s)) ≡ true → (t < u) ⊎ ((t ≡ u) × (r < s))
    by_ticket true less test = inl (below t u less)
    by_ticket false most test = by_rank (t == u) refl test

not_tested : (t u r s : ℕ) → (r ≡ s → t < u) → (nat_lt t u || ((t == u) && nat_lt r s)) ≡ false → (u < t) ⊎ ((u ≡ t) × (s < r))
not_tested t u r s rises e = by_ticket (nat_lt t u) refl e
  where
    equal : t ≡ u → nat_lt r s ≡ false → (u < t) ⊎ ((u ≡ t) × (s < r))
    equal same most = elim (cases_lt s r) [
      | inl less ↦ inr (sym same, less)
      | inr past ↦ (
          let low = not_below r s most in
          let rise = rises (omega (arith, past, low)) in
          absurd (omega (arith, rise, same)))
    ]

    by_rank : (b : Bool) → (t == u) ≡ b → u ≤ t → (b && nat_lt r s) ≡ false → (u < t) ⊎ ((u ≡ t) × (s < r))
    by_rank true same most test = equal (eqb-true t u same) test
    by_rank false other most test = elim (cases_lt u t) [
      | inl less ↦ inl less
      | inr past ↦ absurd (false≢true (sym other ∙ eq-eqb t u (omega (arith, most, past))))
    ]

    by_ticket : (b : Bool) → nat_lt t u ≡ b → (b || ((t == u) && nat_lt r s)) ≡ false → (u < t) ⊎ ((u ≡ t) × (s < r))
    by_ticket true less test = absurd (false≢true (sym test))
    by_ticket false most test = by_rank (t == u) refl (not_below t u most) test

pub is_first : (x y : LogEntry) → comes_before x y ≡ true → ComesBefore x y
is_first x y e = tested (ticket_of x) (ticket_of y) (rank_of x) (rank_of y) e

pub is_second : (x y : LogEntry) → RisesTo x y → comes_before x y ≡ false → ComesBefore y x
is_second x y rises e = not_tested (ticket_of x) (ticket_of y) (rank_of x) (rank_of y) rises e

then_third : (t u v r s w : ℕ) → (t < u) ⊎ ((t ≡ u) × (r < s)) → (u < v) ⊎ ((u ≡ v) × (s < w)) → (t < v) ⊎ ((t ≡ v) × (r < w))
then_third t u v r s w (inl a) (inl b) = inl (omega (arith, a, b))
then_third t u v r s w (inl a) (inr b) = (let same = b.0 in inl (omega (arith, a, same)))
then_third t u v r s w (inr a) (inl b) = (let same = a.0 in inl (omega (arith, same, b)))
then_third t u v r s w (inr a) (inr b) = (let low = a.1 in let high = b.1 in inr (a.0 ∙ b.0, omega (arith, low, high)))

comes_later : (x y z : LogEntry) → ComesBefore x y → ComesBefore y z → ComesBefore x z
comes_later x y z p q = then_third (ticket_of x) (ticket_of y) (ticket_of z) (rank_of x) (rank_of y) (rank_of z) p q

never_both : (t u r s : ℕ) → (t < u) ⊎ ((t ≡ u) × (r < s)) → (u < t) ⊎ ((u ≡ t) × (s < r)) → ⊥
never_both t u r s (inl a) (inl b) = omega (arith, a, b)
never_both t u r s (inl a) (inr b) = (let same = b.0 in omega (arith, a, same))
never_both t u r s (inr a) (inl b) = (let same = a.0 in omega (arith, same, b))
never_both t u r s (inr a) (inr b) = (let low = a.1 in let high = b.1 in omega (arith, low, high))

-- an entry of the same log with a higher ticket comes after it
rising_is_first : (t u : ℕ) (other : Bool) → t < u → (nat_lt t u || other) ≡ true
rising_is_first t u other less = ap (λ b. b || other) (tested_below t u less)

same_log : (x y : LogEntry) → RisesTo x y → rank_of x ≡ rank_of y → comes_before x y ≡ false → ⊥
same_log x y rises same e =
    false≢true (sym e ∙ rising_is_first (ticket_of x) (ticket_of y) ((ticket_of x == ticket_of y) && nat_lt (rank_of x) (rank_of y))
    (rises same))

-- ---- one more entry

pub among_with : (x z : LogEntry) (ys : List LogEntry) → Among z (with_entry x ys) → (z ≡ x) ⊎ Among z ys
among_with x z [] m = inl (only_one z x m)
among_with x z (y ∷ ys) m = by_test (comes_before x y) (among_with x z ys) m
  where
    by_test : (b : Bool) → (Among z (with_entry x ys) → (z ≡ x) ⊎ Among z ys) → Among z (if b then x ∷ y ∷ ys else y ∷ with_entry x ys)
        → (z ≡ x) ⊎ Among z (y ∷ ys)
    by_test true rest n = elim (among_either z (x ∷ []) (y ∷ ys) n) [ inl here ↦ inl (only_one z x here) | inr there ↦ inr there ]
    by_test false rest n = elim (among_either z (y ∷ []) (with_entry x ys) n) [
      | inl here ↦ inr (subst (λ w. Among z (w ∷ ys)) (only_one z y here) Here)
      | inr there ↦ elim (rest there) [ inl same ↦ inl same | inr later ↦ inr (Later y later) ]
    ]

in_order_with : (x : LogEntry) (ys : List LogEntry) → InOrder ys → ((y : LogEntry) → Among y ys → RisesTo x y) → InOrder (with_entry x ys)
in_order_with x [] order rises = (λ y m. absurd (none_among y m), tt)
in_order_with x (y ∷ ys) order rises = by_test (comes_before x y) refl (in_order_with x ys order.1 (λ z m. rises z (Later y m)))
  where
    first : comes_before x y ≡ true → (z : LogEntry) → Among z (y ∷ ys) → ComesBefore x z
    first e z m = elim (among_either z (y ∷ []) ys m) [
      | inl here ↦ subst (ComesBefore x) (sym (only_one z y here)) (is_first x y e)
      | inr there ↦ comes_later x y z (is_first x y e) (order.0 z there)
    ]

    later : comes_before x y ≡ false → (z : LogEntry) → Among z (with_entry x ys) → ComesBefore y z
    later e z m = elim (among_with x z ys m) [
      | inl same ↦ subst (ComesBefore y) (sym same) (is_second x y (rises y Here) e)
      | inr there ↦ order.0 z there
    ]

    by_test : (b : Bool) → comes_before x y ≡ b → InOrder (with_entry x ys) → InOrder (if b then x ∷ y ∷ ys else y ∷ with_entry x ys)
    by_test true e rest = (first e, order)
    by_test false e rest = (later e, rest)

-- the entries of the book are those of the list with the entry at its front
book_with : (x : LogEntry) (ys : List LogEntry) → ((y : LogEntry) → Among y ys → RisesTo x y) → book_in (with_entry x ys) ≡ book_in (x ∷ ys)
book_with x [] rises = refl
book_with x (y ∷ ys) rises = by_test (comes_before x y) refl (book_with x ys (λ z m. rises z (Later y m)))
  where
    moved : (x y : LogEntry) → (rank_of x ≡ rank_of y → ⊥) → (es : List LogEntry) → book_in es ≡ book_in (x ∷ ys)
        → book_in (y ∷ es) ≡ book_in (x ∷ y ∷ ys)
    moved (OfBook b) (OfBook d) other es same = absurd (other refl)
    moved (OfBook b) (OfShard i f) other es same = same
    moved (OfShard j e) (OfBook d) other es same = ap (λ l. d ∷ l) same
    moved (OfShard j e) (OfShard i f) other es same = same

    by_test : (b : Bool) → comes_before x y ≡ b → book_in (with_entry x ys) ≡ book_in (x ∷ ys)
        → book_in (if b then x ∷ y ∷ ys else y ∷ with_entry x ys) ≡ book_in (x ∷ y ∷ ys)
    by_test true e rest = refl
    by_test false e rest = moved x y (λ same. same_log x y (rises y Here) same e) (with_entry x ys) rest

-- so are those of each shard
shard_with : (k : ℕ) (x : LogEntry) (ys : List LogEntry) → ((y : LogEntry) → Among y ys → RisesTo x y)
    → shard_in k (with_entry x ys) ≡ shard_in k (x ∷ ys)
shard_with k x [] rises = refl
shard_with k x (y ∷ ys) rises = by_test (comes_before x y) refl (shard_with k x ys (λ z m. rises z (Later y m)))
  where
    exchanged : (e f : ShardEntry) (a b : Bool) (es : List ShardEntry) → (a ≡ true → b ≡ true → ⊥)
        → if_shard b f (if_shard a e es) ≡ if_shard a e (if_shard b f es)
    exchanged e f true true es apart = absurd (apart refl refl)
    exchanged e f true false es apart = refl
    exchanged e f false b es apart = refl

    moved : (x y : LogEntry) → (rank_of x ≡ rank_of y → ⊥) → (es : List LogEntry) → shard_in k es ≡ shard_in k (x ∷ ys)
        → shard_in k (y ∷ es) ≡ shard_in k (x ∷ y ∷ ys)
    moved (OfBook b) (OfBook d) other es same = same
    moved (OfBook b) (OfShard i f) other es same = ap (if_shard (i == k) f) same
    moved (OfShard j e) (OfBook d) other es same = same
    moved (OfShard j e) (OfShard i f) other es same =
        ap (if_shard (i == k) f) same
        ∙ exchanged e f (j == k) (i == k) (shard_in k ys)
        (λ first second. other (ap suc (eqb-true j k first ∙ sym (eqb-true i k second))))

    by_test : (b : Bool) → comes_before x y ≡ b → shard_in k (with_entry x ys) ≡ shard_in k (x ∷ ys)
        → shard_in k (if b then x ∷ y ∷ ys else y ∷ with_entry x ys) ≡ shard_in k (x ∷ y ∷ ys)
    by_test true e rest = refl
    by_test false e rest = moved x y (λ same. same_log x y (rises y Here) same e) (with_entry x ys) rest

-- ---- all entries

-- in each log tickets rise
abbrev pub LogsRise : List LogEntry → Type 0
LogsRise [] = Unit {0}
LogsRise (x ∷ xs) = ((y : LogEntry) → Among y xs → RisesTo x y) × LogsRise xs

among_sorted : (z : LogEntry) (xs : List LogEntry) → Among z (sorted_entries xs) → Among z xs
among_sorted z [] m = absurd (none_among z m)
among_sorted z (x ∷ xs) m = elim (among_with x z (sorted_entries xs) m) [
  | inl same ↦ subst (λ w. Among z (w ∷ xs)) same Here
  | inr there ↦ Later x (among_sorted z xs there)
]

sorted_rise : (x : LogEntry) (xs : List LogEntry) → ((y : LogEntry) → Among y xs → RisesTo x y) → (y : LogEntry)
    → Among y (sorted_entries xs) → RisesTo x y
sorted_rise x xs rises y m = rises y (among_sorted y xs m)

sorted_order : (xs : List LogEntry) → LogsRise xs → InOrder (sorted_entries xs)
sorted_order [] rise = tt
sorted_order (x ∷ xs) rise = in_order_with x (sorted_entries xs) (sorted_order xs rise.1) (sorted_rise x xs rise.0)

sorted_book : (xs : List LogEntry) → LogsRise xs → book_in (sorted_entries xs) ≡ book_in xs
sorted_book [] rise = refl
sorted_book (x ∷ xs) rise = book_with x (sorted_entries xs) (sorted_rise x xs rise.0) ∙ front x (sorted_book xs rise.1)
  where
    front : (x : LogEntry) → book_in (sorted_entries xs) ≡ book_in xs → book_in (x ∷ sorted_entries xs) ≡ book_in (x ∷ xs)
    front (OfBook b) same = ap (λ l. b ∷ l) same
    front (OfShard j e) same = same

sorted_shard : (k : ℕ) (xs : List LogEntry) → LogsRise xs → shard_in k (sorted_entries xs) ≡ shard_in k xs
sorted_shard k [] rise = refl
sorted_shard k (x ∷ xs) rise = shard_with k x (sorted_entries xs) (sorted_rise x xs rise.0) ∙ front x (sorted_shard k xs rise.1)
  where
    front : (x : LogEntry) → shard_in k (sorted_entries xs) ≡ shard_in k xs → shard_in k (x ∷ sorted_entries xs) ≡ shard_in k (x ∷ xs)
    front (OfBook b) same = same
    front (OfShard j e) same = ap (if_shard (j == k) e) same

-- one more log in front of others
log_in_front : {A : Type 0} (entry : A → LogEntry) (log : List A) (rest : List LogEntry)
    → AllPairs (λ (a : A) (b : A). ticket_of (entry a) < ticket_of (entry b)) log
    → ((a : A) (y : LogEntry) → Among y rest → rank_of (entry a) ≢ rank_of y) → LogsRise rest → LogsRise (map entry log ++ rest)
log_in_front entry [] rest up apart rise = rise
log_in_front {A} entry (a ∷ log) rest up apart rise = (
  first,
  log_in_front entry log rest (λ i j d less within. up (suc i) (suc j) d (omega (arith, less)) (omega (arith, within))) apart rise,
)
  where
    first : (y : LogEntry) → Among y (map entry log ++ rest) → RisesTo (entry a) y
    first y m same = elim (among_either y (map entry log) rest m) [
      | inl own ↦ (
          let r = among_map entry y log own in
          subst (λ z. ticket_of (entry a) < ticket_of z) r.2
          (after_next (λ (x : A). ticket_of (entry x)) (a ∷ log) 0 a r.0 up refl r.1))
      | inr other ↦ absurd (apart a y other same)
    ]

-- entries of shards from number k on have higher ranks than those before
ranks_from : (k : ℕ) (shards : List (List ShardEntry)) (y : LogEntry) → Among y (entries_from k shards) → suc k ≤ rank_of y
ranks_from k [] y m = absurd (none_among y m)
ranks_from k (shard ∷ shards) y m = elim (among_either y (map (OfShard k) shard) (entries_from (suc k) shards) m) [
  | inl own ↦ (let r = among_map (OfShard k) y shard own in let rank = ap rank_of r.2 in omega (arith, rank))
  | inr other ↦ (let later = ranks_from (suc k) shards y other in omega (arith, later))
]

shards_rise : (k : ℕ) (shards : List (List ShardEntry)) → All ShardRises shards → LogsRise (entries_from k shards)
shards_rise k [] h = tt
shards_rise k (shard ∷ shards) h =
    log_in_front (OfShard k) shard (entries_from (suc k) shards) (h 0 [] (omega arith))
    (λ a y m same. (let later = ranks_from (suc k) shards y m in absurd (omega (arith, later, same))))
    (shards_rise (suc k) shards (λ i d less. h (suc i) d (omega (arith, less))))

logs_rise : (book : List BookEntry) (shards : List (List ShardEntry)) → BookRises book → All ShardRises shards
    → LogsRise (map OfBook book ++ entries_from 0 shards)
logs_rise book shards up each =
    log_in_front OfBook book (entries_from 0 shards) up
    (λ a y m same. (let later = ranks_from 0 shards y m in absurd (omega (arith, later, same))))
    (shards_rise 0 shards each)

-- ---- each log among all entries

book_of_shard : (k : ℕ) (shard : List ShardEntry) (rest : List LogEntry) → book_in (map (OfShard k) shard ++ rest) ≡ book_in rest
book_of_shard k [] rest = refl
book_of_shard k (e ∷ shard) rest = book_of_shard k shard rest

book_of_shards : (k : ℕ) (shards : List (List ShardEntry)) → book_in (entries_from k shards) ≡ []
book_of_shards k [] = refl
book_of_shards k (shard ∷ shards) = book_of_shard k shard (entries_from (suc k) shards) ∙ book_of_shards (suc k) shards

book_of_all : (book : List BookEntry) (rest : List LogEntry) → book_in rest ≡ [] → book_in (map OfBook book ++ rest) ≡ book
book_of_all [] rest none = none
book_of_all (b ∷ book) rest none = ap (λ l. b ∷ l) (book_of_all book rest none)

shard_of_book : (k : ℕ) (book : List BookEntry) (rest : List LogEntry) → shard_in k (map OfBook book ++ rest) ≡ shard_in k rest
shard_of_book k [] rest = refl
shard_of_book k (b ∷ book) rest = shard_of_book k book rest

own_shard : (k : ℕ) (shard : List ShardEntry) (rest : List LogEntry) → shard_in k rest ≡ []
    → shard_in k (map (OfShard k) shard ++ rest) ≡ shard
own_shard k [] rest none = none
own_shard k (e ∷ shard) rest none =
    ap (λ b. if_shard b e (shard_in k (map (OfShard k) shard ++ rest))) (eq-eqb k k refl) ∙ ap (λ l. e ∷ l) (own_shard k shard rest none)

other_shard : (k j : ℕ) (shard : List ShardEntry) (rest : List LogEntry) → j ≢ k
    → shard_in k (map (OfShard j) shard ++ rest) ≡ shard_in k rest
other_shard k j [] rest apart = refl
other_shard k j (e ∷ shard) rest apart = by_test (j == k) refl (other_shard k j shard rest apart)
  where
    by_test : (b : Bool) → (j == k) ≡ b → shard_in k (map (OfShard j) shard ++ rest) ≡ shard_in k rest
        → if_shard b e (shard_in k (map (OfShard j) shard ++ rest)) ≡ shard_in k rest
    by_test true same others = absurd (apart (eqb-true j k same))
    by_test false same others = others

no_lower_shard : (k n : ℕ) (shards : List (List ShardEntry)) → k < n → shard_in k (entries_from n shards) ≡ []
no_lower_shard k n [] less = refl
no_lower_shard k n (shard ∷ shards) less =
    other_shard k n shard (entries_from (suc n) shards) (λ same. omega (arith, less, same))
    ∙ no_lower_shard k (suc n) shards (omega (arith, less))

shard_from : (k n i : ℕ) (shards : List (List ShardEntry)) → k ≡ n + i → shard_in k (entries_from n shards) ≡ get_or shards i []
shard_from k n i [] is = refl
shard_from k n zero (shard ∷ shards) is =
    let same : n ≡ k = omega (arith, is) in
    subst (λ m. shard_in m (entries_from n (shard ∷ shards)) ≡ shard) same
    (own_shard n shard (entries_from (suc n) shards) (no_lower_shard n (suc n) shards (omega arith)))
shard_from k n (suc i) (shard ∷ shards) is =
    other_shard k n shard (entries_from (suc n) shards) (λ same. omega (arith, is, same))
    ∙ shard_from k (suc n) i shards (omega (arith, is))

-- ---- the merge

pub sorted_logs_are_merged : (book : List BookEntry) (shards : List (List ShardEntry)) → BookRises book → All ShardRises shards
    → IsMerge book (shard_at shards) (merged_entries book shards)
sorted_logs_are_merged book shards up each =
    let all = map OfBook book ++ entries_from 0 shards in
    let rise = logs_rise book shards up each in
    record {
      order = sorted_order all rise;
      book_is = sorted_book all rise ∙ book_of_all book (entries_from 0 shards) (book_of_shards 0 shards);
      shard_is = λ k. sorted_shard k all rise ∙ (shard_of_book k book (entries_from 0 shards) ∙ shard_from k 0 k shards (omega arith));
    }

-- ---- there is only one

of_book : (b : BookEntry) (xs : List LogEntry) → Among b (book_in xs) → Among (OfBook b) xs
of_book b [] m = absurd (none_among b m)
of_book b (OfShard k e ∷ xs) m = Later (OfShard k e) (of_book b xs m)
of_book b (OfBook d ∷ xs) m = elim (among_either b (d ∷ []) (book_in xs) m) [
  | inl here ↦ subst (λ y. Among (OfBook b) (OfBook y ∷ xs)) (only_one b d here) Here
  | inr there ↦ Later (OfBook d) (of_book b xs there)
]

of_shard : (k : ℕ) (e : ShardEntry) (xs : List LogEntry) → Among e (shard_in k xs) → Among (OfShard k e) xs
of_shard k e [] m = absurd (none_among e m)
of_shard k e (OfBook b ∷ xs) m = Later (OfBook b) (of_shard k e xs m)
of_shard k e (OfShard j f ∷ xs) m = by_test (j == k) refl (of_shard k e xs) m
  where
    own : j ≡ k → e ≡ f → Among (OfShard k e) (OfShard j f ∷ xs)
    own number same = subst (λ y. Among (OfShard k e) (y ∷ xs)) (ap (OfShard k) same ∙ ap (λ i. OfShard i f) (sym number)) Here

    by_test : (b : Bool) → (j == k) ≡ b → (Among e (shard_in k xs) → Among (OfShard k e) xs) → Among e (if_shard b f (shard_in k xs))
        → Among (OfShard k e) (OfShard j f ∷ xs)
    by_test true number later n = elim (among_either e (f ∷ []) (shard_in k xs) n) [
      | inl here ↦ own (eqb-true j k number) (only_one e f here)
      | inr there ↦ Later (OfShard j f) (later there)
    ]
    by_test false number later n = Later (OfShard j f) (later n)

-- the lists have the same entries of the book, and the same of each shard
record HaveSameLogs (xs ys : List LogEntry) : Type 0 where
  book : book_in xs ≡ book_in ys
  shards : (k : ℕ) → shard_in k xs ≡ shard_in k ys

among_same : (z : LogEntry) (xs ys : List LogEntry) → HaveSameLogs xs ys → Among z xs → Among z ys
among_same (OfBook b) xs ys h m = of_book b ys (subst (λ l. Among b l) h.book (book_member b xs m))
among_same (OfShard k e) xs ys h m = of_shard k e ys (subst (λ l. Among e l) (h.shards k) (shard_member k e xs m))

after_same : (x : LogEntry) (xs ys : List LogEntry) → HaveSameLogs (x ∷ xs) (x ∷ ys) → HaveSameLogs xs ys
after_same (OfBook b) xs ys h = record { book = (let same = h.book in cc); shards = h.shards }
after_same (OfShard j e) xs ys h = record { book = h.book; shards = λ k. by_test k (j == k) (h.shards k) }
  where
    by_test : (k : ℕ) (b : Bool) → if_shard b e (shard_in k xs) ≡ if_shard b e (shard_in k ys) → shard_in k xs ≡ shard_in k ys
    by_test k true same = cc
    by_test k false same = same

nothing_more : (y : LogEntry) (ys : List LogEntry) → HaveSameLogs [] (y ∷ ys) → ⊥
nothing_more y ys h = none_among y (among_same y (y ∷ ys) [] (record { book = sym h.book; shards = λ k. sym (h.shards k) }) Here)

same_order : (xs ys : List LogEntry) → InOrder xs → InOrder ys → HaveSameLogs xs ys → xs ≡ ys
same_order [] [] first second h = refl
same_order [] (y ∷ ys) first second h = absurd (nothing_more y ys h)
same_order (x ∷ xs) [] first second h =
    absurd (nothing_more x xs (record { book = sym h.book; shards = λ k. sym (h.shards k) }))
same_order (x ∷ xs) (y ∷ ys) first second h =
    ap (λ z. z ∷ xs) front
    ∙ ap (λ l. y ∷ l)
    (same_order xs ys first.1 second.1 (after_same y xs ys (subst (λ z. HaveSameLogs (z ∷ xs) (y ∷ ys)) front h)))
  where
    back : HaveSameLogs (y ∷ ys) (x ∷ xs)
    back = record { book = sym h.book; shards = λ k. sym (h.shards k) }

    front : x ≡ y
    front = elim (among_either x (y ∷ []) ys (among_same x (x ∷ xs) (y ∷ ys) h Here)) [
      | inl here ↦ only_one x y here
      | inr later ↦ elim (among_either y (x ∷ []) xs (among_same y (y ∷ ys) (x ∷ xs) back Here)) [
        | inl here ↦ sym (only_one y x here)
        | inr other ↦ absurd (never_both (ticket_of x) (ticket_of y) (rank_of x) (rank_of y) (first.0 y other) (second.0 x later))
      ]
    ]

merges_are_one : (book : List BookEntry) (shards : ℕ → List ShardEntry) (xs ys : List LogEntry) → IsMerge book shards xs
    → IsMerge book shards ys → xs ≡ ys
merges_are_one book shards xs ys first second =
    same_order xs ys first.order second.order
    (record { book = first.book_is ∙ sym second.book_is; shards = λ k. first.shard_is k ∙ sym (second.shard_is k) })

pub merges_are_sorted : (book : List BookEntry) (shards : List (List ShardEntry)) (events : List Event) → BookRises book
    → All ShardRises shards → AreMerged book shards events → events ≡ merged_events book shards
merges_are_sorted book shards events up each merged =
    merged.are
    ∙ ap (λ l. map event_of l)
    (merges_are_one book (shard_at shards) merged.entries (merged_entries book shards) merged.merge
    (sorted_logs_are_merged book shards up each))

pub sorted_events_are_merged : (book : List BookEntry) (shards : List (List ShardEntry)) → BookRises book → All ShardRises shards
    → AreMerged book shards (merged_events book shards)
sorted_events_are_merged book shards up each = record {
  entries = merged_entries book shards;
  merge = sorted_logs_are_merged book shards up each;
  are = refl;
}

pub merges_are_those : MergesAreSorted
merges_are_those book shards events up each = (
  merges_are_sorted book shards events up each,
  λ same. subst (AreMerged book shards) (sym same) (sorted_events_are_merged book shards up each),
)
