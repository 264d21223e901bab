-- The list of the iterations that have not ended, by the numbers of the iterations.
use Rattle.std.proofs.Common.{◌≡◌, ◌≢◌, ◌∙◌, ap, ap₂, subst, sym, refl, arith, ℕ, ℤ, zero, suc, ◌+◌, ◌-◌, ◌<◌}
use Rattle.std.proofs.Common.{◌≤◌, List, [], ◌∷◌, ◌++◌, Bool, true, false}
use Rattle.std.proofs.Common.{not, ◌&&◌, ◌||◌, if◌then◌else◌, cond, length, map, filter, count_by, nat_lt, slice_index_or}
use Rattle.std.proofs.Common.{eqb, int_eq}
use Rattle.std.specs.Prelude.{◌==◌, int_lt, slice_set}
use denote.Enum.Bare.{sameb}
use Rattle.schedule_play.specs.contracts.turns.Readiness.{the_type as readinesses}
use Rattle.std.specs.List.{list_all, prefix_len, remove}
use Rattle.std.proofs.lemmas.Bool.{eq-eqb, eqb-true}
use Rattle.std.specs.List.Sorted.{IsPartitionedBy}
use Rattle.std.proofs.lemmas.List.Sorted.{IsPartitionedBy-ltb}
use Rattle.std.proofs.lemmas.List.Sums.{prefix_len_is, sum_by-cons}
use Rattle.pipe_model.specs.declared.status.Status.{Status}
use Rattle.pipe_model.specs.declared.status.Status.TheVariants as statuses
use Rattle.pipe_model.specs.Runs.State.{Frame, State}
use Rattle.schedule_play.specs.declared.changes.Change.{Change}
use Rattle.schedule_play.specs.declared.changes.Change.TheVariants.{Named, Entered, Ended}
use Rattle.schedule_play.specs.declared.turns.Alive.{Alive}
use Rattle.schedule_play.specs.declared.turns.Readiness.{Readiness}
use Rattle.schedule_play.specs.declared.turns.Readiness.TheVariants.{Running, MayEnter, MustWait}
use Rattle.schedule_play.specs.AliveChanges.{after_change, changed_iteration, is_other, passes_left, released}
use Rattle.schedule_play.specs.AliveLists.{IsRising, RisesFrom, altered}
use Rattle.schedule_play.specs.Turns.{alive_entry, alive_from, alive_iterations, is_ready, is_running, may_go}
use Rattle.schedule_play.proofs.ChangedEntries.{apart_eqb, ended_other, entered_other, named_other}

-- ---- the numbers rise

rises_lower : (n m : ℕ) (entries : List Alive) → n ≤ m → RisesFrom m entries → RisesFrom n entries
rises_lower n m [] le h = tt
rises_lower n m (a ∷ rest) le h = let first = h.0 in (omega (arith, le, first), h.1)

rising_from : (all : List Frame) (i : ℕ) (fs : List Frame) → RisesFrom i (alive_from all i fs)
rising_from all i [] = tt
rising_from all i (f ∷ fs) = by f.status (rising_from all (i + 1) fs)
  where
    by : (w : Status) → RisesFrom (i + 1) (alive_from all (i + 1) fs)
        → RisesFrom i (alive_entry all i w f.nodes ++ alive_from all (i + 1) fs)
    by statuses.Running rest = (omega arith, rest)
    by (statuses.Pending kind n) rest = (omega arith, rest)
    by (statuses.Completed e) rest = rises_lower i (i + 1) (alive_from all (i + 1) fs) (omega arith) rest

pub rising : (s : State) → IsRising (alive_iterations s)
rising s = rising_from s.frames 0 s.frames

-- a change keeps the numbers
same_iteration : (c : Change) (a : Alive) → (after_change c a).iteration ≡ a.iteration
same_iteration (Named i n free) a = by (a.iteration == i) (a.iteration == i + 1) refl
  where
    by : (own right : Bool) → (a.iteration == i) ≡ own
        → (if own then record { iteration = i; number = n; readiness = if free then MayEnter else MustWait }
        else (if right then record a { readiness = released (int_lt a.number n) a.readiness } else a)).iteration ≡ a.iteration
    by true right e = sym (eqb-true a.iteration i e)
    by false true e = refl
    by false false e = refl
same_iteration (Entered i) a = by (a.iteration == i) refl
  where
    by : (own : Bool) → (a.iteration == i) ≡ own
        → (if own then record { iteration = i; number = a.number; readiness = Running } else a).iteration ≡ a.iteration
    by true e = sym (eqb-true a.iteration i e)
    by false e = refl
same_iteration (Ended i) a = by (a.iteration == i + 1)
  where
    by : (right : Bool) → (if right then record a { readiness = released true a.readiness } else a).iteration ≡ a.iteration
    by true = refl
    by false = refl

-- the numbers of the entries rise after a change
pub rising_changed : (c : Change) (n : ℕ) (entries : List Alive) → RisesFrom n entries → RisesFrom n (map (after_change c) entries)
rising_changed c n [] h = tt
rising_changed c n (a ∷ rest) h =
    subst (λ m. (n ≤ m) × RisesFrom (m + 1) (map (after_change c) rest)) (sym (same_iteration c a))
    (h.0, rising_changed c (a.iteration + 1) rest h.1)

-- ---- an entry by its index

pub altered_within : (change : Alive → Alive) (entries : List Alive) (k : ℕ) (d : Alive) → k < length entries
    → slice_set entries k (change (slice_index_or entries k d)) ≡ altered change entries k
altered_within change [] k d lt = absurd (omega (arith, lt))
altered_within change (a ∷ rest) zero d lt = refl
altered_within change (a ∷ rest) (suc k) d lt = ap (λ l. a ∷ l) (altered_within change rest k d (omega (arith, lt)))

pub altered_past : (change : Alive → Alive) (entries : List Alive) (k : ℕ) → length entries ≤ k → entries ≡ altered change entries k
altered_past change [] k le = refl
altered_past change (a ∷ rest) zero le = absurd (omega (arith, le))
altered_past change (a ∷ rest) (suc k) le = ap (λ l. a ∷ l) (altered_past change rest k (omega (arith, le)))

pub altered_same : (change : Alive → Alive) (entries : List Alive) (k : ℕ) (d : Alive)
    → change (slice_index_or entries k d) ≡ slice_index_or entries k d → entries ≡ altered change entries k
altered_same change [] k d stays = refl
altered_same change (a ∷ rest) zero d stays = ap (λ x. x ∷ rest) (sym stays)
altered_same change (a ∷ rest) (suc k) d stays = ap (λ l. a ∷ l) (altered_same change rest k d stays)

-- what an unequal test says of two entries
same_readiness : (r s : Readiness) → sameb readinesses r s ≡ true → r ≡ s
same_readiness Running Running e = refl
same_readiness Running MayEnter e = absurd (cc (e))
same_readiness Running MustWait e = absurd (cc (e))
same_readiness MayEnter Running e = absurd (cc (e))
same_readiness MayEnter MayEnter e = refl
same_readiness MayEnter MustWait e = absurd (cc (e))
same_readiness MustWait Running e = absurd (cc (e))
same_readiness MustWait MayEnter e = absurd (cc (e))
same_readiness MustWait MustWait e = refl

same_number : (m n : ℤ) → int_eq m n ≡ true → m ≡ n
same_number m n e = grind (arith, e)

pub same_entry : (a b : Alive)
    → not (eqb a.iteration b.iteration && (sameb readinesses a.readiness b.readiness && int_eq a.number b.number)) ≡ false → a ≡ b
same_entry a b e =
    by (eqb a.iteration b.iteration) (sameb readinesses a.readiness b.readiness) (int_eq a.number b.number) refl refl refl e
  where
    entry : ℕ → Readiness → ℤ → Alive
    entry i r n = record { iteration = i; readiness = r; number = n }

    by : (i r n : Bool) → eqb a.iteration b.iteration ≡ i → sameb readinesses a.readiness b.readiness ≡ r
        → int_eq a.number b.number ≡ n
        → not (i && (r && n)) ≡ false → a ≡ b
    by true true true i r n e =
        ap (λ x. entry x a.readiness a.number) (eqb-true a.iteration b.iteration i)
        ∙ ap (λ x. entry b.iteration x a.number) (same_readiness a.readiness b.readiness r)
        ∙ ap (entry b.iteration b.readiness) (same_number a.number b.number n)
    by true true false i r n e = absurd (cc (e))
    by true false m i r n e = absurd (cc (e))
    by false q m i r n e = absurd (cc (e))

-- ---- the entries with smaller numbers

-- how many entries have a number smaller than i
abbrev pub place : ℕ → List Alive → ℕ
place i entries = prefix_len (λ (a : Alive). nat_lt a.iteration i) entries

less : (a i : ℕ) → nat_lt a i ≡ true → a < i
less a i e = grind (arith, e)

not_less : (a i : ℕ) → nat_lt a i ≡ false → i ≤ a
not_less a i e = grind (arith, e)

-- an entry has no smaller number than the least that is possible
not_below : (n : ℕ) (entries : List Alive) (k : ℕ) (d : Alive) → RisesFrom n entries → k < length entries
    → n ≤ (slice_index_or entries k d).iteration
not_below n [] k d h lt = absurd (omega (arith, lt))
not_below n (a ∷ rest) zero d h lt = h.0
not_below n (a ∷ rest) (suc k) d h lt =
    let first = h.0 in
    let later = not_below (a.iteration + 1) rest k d h.1 (omega (arith, lt)) in
    omega (arith, first, later)

-- a later entry has no smaller number
in_order : (n : ℕ) (entries : List Alive) (k m : ℕ) (d : Alive) → RisesFrom n entries → k ≤ m → m < length entries
    → (slice_index_or entries k d).iteration ≤ (slice_index_or entries m d).iteration
in_order n [] k m d h le lt = absurd (omega (arith, lt))
in_order n (a ∷ rest) zero zero d h le lt = omega arith
in_order n (a ∷ rest) zero (suc m) d h le lt =
    let later = not_below (a.iteration + 1) rest m d h.1 (omega (arith, lt)) in omega (arith, later)
in_order n (a ∷ rest) (suc k) zero d h le lt = absurd (omega (arith, le))
in_order n (a ∷ rest) (suc k) (suc m) d h le lt = in_order (a.iteration + 1) rest k m d h.1 (omega (arith, le)) (omega (arith, lt))

-- an earlier entry has a smaller number
smaller_before : (n : ℕ) (entries : List Alive) (k m : ℕ) (d : Alive) → RisesFrom n entries → k < m → m < length entries
    → (slice_index_or entries k d).iteration < (slice_index_or entries m d).iteration
smaller_before n [] k m d h before lt = absurd (omega (arith, lt))
smaller_before n (a ∷ rest) k zero d h before lt = absurd (omega (arith, before))
smaller_before n (a ∷ rest) zero (suc m) d h before lt =
    let later = not_below (a.iteration + 1) rest m d h.1 (omega (arith, lt)) in omega (arith, later)
smaller_before n (a ∷ rest) (suc k) (suc m) d h before lt =
    smaller_before (a.iteration + 1) rest k m d h.1 (omega (arith, before)) (omega (arith, lt))

-- the entry of iteration i is where those with smaller numbers end
pub place_found : (i : ℕ) (entries : List Alive) (k : ℕ) (d : Alive) → IsRising entries → k < length entries
    → (slice_index_or entries k d).iteration ≡ i → place i entries ≡ k
place_found i entries k d h lt is =
    prefix_len_is (λ (a : Alive). nat_lt a.iteration i) entries k d (omega (arith, lt))
    (λ m before. let smaller = smaller_before 0 entries m k d h before lt in grind (arith, smaller, is))
    (λ within. grind (arith, is))

-- the entries with smaller numbers are the first ones
pub smaller_first : (i : ℕ) (entries : List Alive) → IsRising entries → IsPartitionedBy (λ (a : Alive). nat_lt a.iteration i) entries
smaller_first i entries h =
    IsPartitionedBy-ltb (λ (a : Alive). a.iteration) entries i (λ k m d le lt. in_order 0 entries k m d h le lt)

-- ---- a change

unconcerned : (c : Change) (a : Alive) → a.iteration ≢ changed_iteration c → a.iteration ≢ changed_iteration c + 1 → after_change c a ≡ a
unconcerned (Named i n free) a own right = named_other i n free a own right
unconcerned (Entered i) a own right = entered_other i a own
unconcerned (Ended i) a own right = ended_other i a right

-- the iterations after the right neighbour stay
beyond_right : (c : Change) (n : ℕ) (entries : List Alive) → changed_iteration c + 2 ≤ n → RisesFrom n entries
    → map (after_change c) entries ≡ entries
beyond_right c n [] far h = refl
beyond_right c n (a ∷ rest) far h =
    let from = h.0 in
    ap₂ (λ x l. x ∷ l) (unconcerned c a (λ e. absurd (omega (arith, e, far, from))) (λ e. absurd (omega (arith, e, far, from))))
    (beyond_right c (a.iteration + 1) rest (omega (arith, far, from)) h.1)

-- of the iterations after the one that is concerned, the first may be its right neighbour
right_first : (c : Change) (n : ℕ) (entries : List Alive) → changed_iteration c + 1 ≤ n → RisesFrom n entries
    → altered (after_change c) entries 0 ≡ map (after_change c) entries
right_first c n [] far h = refl
right_first c n (a ∷ rest) far h =
    let from = h.0 in
    ap (λ l. after_change c a ∷ l) (sym (beyond_right c (a.iteration + 1) rest (omega (arith, far, from)) h.1))

-- it is enough to change the iteration and the one after it
pub changed_there : (c : Change) (n : ℕ) (entries : List Alive) → RisesFrom n entries
    → altered (after_change c) (altered (after_change c) entries (place (changed_iteration c) entries))
    (place (changed_iteration c) entries + 1) ≡ map (after_change c) entries
changed_there c n [] h = refl
changed_there c n (a ∷ rest) h =
    by (nat_lt a.iteration (changed_iteration c)) refl (changed_there c (a.iteration + 1) rest h.1)
  where
    change : Alive → Alive
    change = after_change c

    after : ℕ
    after = place (changed_iteration c) rest

    by : (before : Bool) → nat_lt a.iteration (changed_iteration c) ≡ before
        → altered change (altered change rest after) (after + 1) ≡ map change rest
        → altered change (altered change (a ∷ rest) (cond before (1 + after) 0)) (cond before (1 + after) 0 + 1)
        ≡ change a ∷ map change rest
    by true e others =
        let smaller = less a.iteration (changed_iteration c) e in
        let next : suc after ≡ 1 + after = omega arith in
        let z : suc after + 1 ≡ suc (after + 1) = omega arith in
        let stays : after_change c a ≡ a =
        unconcerned c a (λ q. absurd (omega (arith, q, smaller))) (λ q. absurd (omega (arith, q, smaller))) in
        subst (λ k. altered change (altered change (a ∷ rest) k) (k + 1) ≡ change a ∷ map change rest) next
        (ap (altered change (a ∷ altered change rest after)) z ∙ ap₂ (λ x l. x ∷ l) (sym stays) others)
    by false e others =
        let from = not_less a.iteration (changed_iteration c) e in
        ap (λ l. change a ∷ l) (right_first c (a.iteration + 1) rest (omega (arith, from)) h.1)

-- ---- a removal

is_other_apart : (i : ℕ) (a : Alive) → a.iteration ≢ i → is_other i a ≡ true
is_other_apart i a ne = ap not (apart_eqb a.iteration i ne)

-- the entries with greater numbers are those of other iterations
greater_stay : (i n : ℕ) (entries : List Alive) → i < n → RisesFrom n entries → filter (is_other i) entries ≡ entries
greater_stay i n [] lt h = refl
greater_stay i n (a ∷ rest) lt h =
    let from = h.0 in
    ap (λ b. cond b (a ∷ filter (is_other i) rest) (filter (is_other i) rest))
    (is_other_apart i a (λ e. absurd (omega (arith, e, lt, from))))
    ∙ ap (λ l. a ∷ l) (greater_stay i (a.iteration + 1) rest (omega (arith, lt, from)) h.1)

-- the entry of iteration i is there
pub removed_there : (i n : ℕ) (entries : List Alive) (d : Alive) → RisesFrom n entries → place i entries < length entries
    → (slice_index_or entries (place i entries) d).iteration ≡ i → remove entries (place i entries) ≡ filter (is_other i) entries
removed_there i n [] d h lt is = absurd (omega (arith, lt))
removed_there i n (a ∷ rest) d h lt is =
    by (nat_lt a.iteration i) refl lt is (removed_there i (a.iteration + 1) rest d h.1)
  where
    after : ℕ
    after = place i rest

    by : (before : Bool) → nat_lt a.iteration i ≡ before → cond before (1 + after) 0 < suc (length rest)
        → (slice_index_or (a ∷ rest) (cond before (1 + after) 0) d).iteration ≡ i
        → (after < length rest → (slice_index_or rest after d).iteration ≡ i → remove rest after ≡ filter (is_other i) rest)
        → remove (a ∷ rest) (cond before (1 + after) 0) ≡ cond (is_other i a) (a ∷ filter (is_other i) rest) (filter (is_other i) rest)
    by true e lt is others =
        let smaller = less a.iteration i e in
        let next : suc after ≡ 1 + after = omega arith in
        let there : (slice_index_or rest after d).iteration ≡ i =
        subst (λ k. (slice_index_or (a ∷ rest) k d).iteration ≡ i) (sym next) is in
        subst (λ k. remove (a ∷ rest) k ≡ filter (is_other i) (a ∷ rest)) next
        (ap (λ l. a ∷ l) (others (omega (arith, lt)) there)
        ∙ sym (ap (λ b. cond b (a ∷ filter (is_other i) rest) (filter (is_other i) rest))
        (is_other_apart i a (λ q. absurd (omega (arith, q, smaller))))))
    by false e lt is others =
        sym (greater_stay i (a.iteration + 1) rest (omega (arith, is)) h.1)
        ∙ sym (ap (λ b. cond (not b) (a ∷ filter (is_other i) rest) (filter (is_other i) rest)) (eq-eqb a.iteration i is))

-- the entry of iteration i is not there
pub removed_nowhere : (i n : ℕ) (entries : List Alive) (d : Alive) → RisesFrom n entries
    → (place i entries < length entries → (slice_index_or entries (place i entries) d).iteration ≢ i)
    → entries ≡ filter (is_other i) entries
removed_nowhere i n [] d h none = refl
removed_nowhere i n (a ∷ rest) d h none =
    by (nat_lt a.iteration i) refl none (removed_nowhere i (a.iteration + 1) rest d h.1)
  where
    after : ℕ
    after = place i rest

    by : (before : Bool) → nat_lt a.iteration i ≡ before
        → (cond before (1 + after) 0 < suc (length rest) → (slice_index_or (a ∷ rest) (cond before (1 + after) 0) d).iteration ≢ i)
        → ((after < length rest → (slice_index_or rest after d).iteration ≢ i) → rest ≡ filter (is_other i) rest)
        → a ∷ rest ≡ filter (is_other i) (a ∷ rest)
    by true e none others =
        let smaller = less a.iteration i e in
        let next : suc after ≡ 1 + after = omega arith in
        ap (λ l. a ∷ l)
        (others (λ lt q. none (omega (arith, lt)) (subst (λ k. (slice_index_or (a ∷ rest) k d).iteration ≡ i) next q)))
        ∙ sym (ap (λ b. cond b (a ∷ filter (is_other i) rest) (filter (is_other i) rest))
        (is_other_apart i a (λ q. absurd (omega (arith, q, smaller)))))
    by false e none others =
        let from = not_less a.iteration i e in
        let apart : a.iteration ≢ i = none (omega arith) in
        sym (greater_stay i a.iteration (a ∷ rest) (omega (arith, from, apart)) (omega arith, h.1))

-- ---- the left neighbour

and_true : (b : Bool) → b && true ≡ b
and_true true = refl
and_true false = refl

passes_apart : (i : ℕ) (m : ℤ) (a : Alive) → a.iteration + 1 ≢ i → passes_left i m a ≡ true
passes_apart i m a ne = ap (λ b. not b || int_lt m a.number) (apart_eqb (a.iteration + 1) i ne)

none_left : (i : ℕ) (m : ℤ) (n : ℕ) (entries : List Alive) → i ≤ n → RisesFrom n entries → list_all (passes_left i m) entries ≡ true
none_left i m n [] le h = refl
none_left i m n (a ∷ rest) le h =
    let from = h.0 in
    ap₂ (λ x y. x && y) (passes_apart i m a (λ e. absurd (omega (arith, e, le, from))))
    (none_left i m (a.iteration + 1) rest (omega (arith, le, from)) h.1)

-- no entry has a smaller number
pub left_nowhere : (i : ℕ) (m : ℤ) (n : ℕ) (entries : List Alive) → RisesFrom n entries → place i entries ≡ 0
    → list_all (passes_left i m) entries ≡ true
left_nowhere i m n [] h none = refl
left_nowhere i m n (a ∷ rest) h none = by (nat_lt a.iteration i) refl none
  where
    by : (before : Bool) → nat_lt a.iteration i ≡ before → cond before (1 + place i rest) 0 ≡ 0
        → list_all (passes_left i m) (a ∷ rest) ≡ true
    by true e none = absurd (omega (arith, none))
    by false e none = none_left i m a.iteration (a ∷ rest) (not_less a.iteration i e) (omega arith, h.1)

-- the last of the entries with smaller numbers may be the left neighbour
pub left_there : (i : ℕ) (m : ℤ) (n : ℕ) (entries : List Alive) (d : Alive) → RisesFrom n entries → 0 < place i entries
    → list_all (passes_left i m) entries ≡ passes_left i m (slice_index_or entries (place i entries - 1) d)
left_there i m n [] d h some = absurd (omega (arith, some))
left_there i m n (a ∷ []) d h some = by (nat_lt a.iteration i) some
  where
    by : (before : Bool) → 0 < cond before 1 0
        → passes_left i m a && true ≡ passes_left i m (slice_index_or (a ∷ []) (cond before 1 0 - 1) d)
    by true some = and_true (passes_left i m a)
    by false some = absurd (omega (arith, some))
left_there i m n (a ∷ b ∷ rest) d h some =
    by (nat_lt a.iteration i) (nat_lt b.iteration i) refl some (left_there i m (a.iteration + 1) (b ∷ rest) d h.1)
  where
    after : ℕ
    after = place i rest

    by : (first second : Bool) → nat_lt b.iteration i ≡ second → 0 < cond first (1 + cond second (1 + after) 0) 0
        → (0 < cond second (1 + after) 0
        → list_all (passes_left i m) (b ∷ rest) ≡ passes_left i m (slice_index_or (b ∷ rest) (cond second (1 + after) 0 - 1) d))
        → passes_left i m a && list_all (passes_left i m) (b ∷ rest)
        ≡ passes_left i m (slice_index_or (a ∷ b ∷ rest) (cond first (1 + cond second (1 + after) 0) 0 - 1) d)
    by false second e some others = absurd (omega (arith, some))
    by true true e some others =
        let between = h.1.0 in
        let smaller = less b.iteration i e in
        let z : 1 + (1 + after) - 1 ≡ suc (1 + after - 1) = omega arith in
        ap₂ (λ x y. x && y) (passes_apart i m a (λ q. absurd (omega (arith, q, between, smaller)))) (others (omega arith))
        ∙ sym (ap (λ k. passes_left i m (slice_index_or (a ∷ b ∷ rest) k d)) z)
    by true false e some others =
        ap (λ x. passes_left i m a && x)
        (none_left i m b.iteration (b ∷ rest) (not_less b.iteration i e) (omega arith, h.1.1))
        ∙ and_true (passes_left i m a)

-- ---- the counts

-- while an instance may start, the iterations that run and those that are ready have turns
pub going_counted : (entries : List Alive)
    → count_by (λ (a : Alive). may_go true a.readiness) entries
    ≡ count_by (λ (a : Alive). is_running a.readiness) entries + count_by (λ (a : Alive). is_ready a.readiness) entries
going_counted [] = refl
going_counted (a ∷ rest) =
    sum_by-cons (λ (x : Alive). cond (may_go true x.readiness) 1 0) a rest
    ∙ by a.readiness (going_counted rest)
    ∙ sym (ap₂ (λ x y. x + y) (sum_by-cons (λ (x : Alive). cond (is_running x.readiness) 1 0) a rest)
    (sum_by-cons (λ (x : Alive). cond (is_ready x.readiness) 1 0) a rest))
  where
    running : ℕ
    running = count_by (λ (x : Alive). is_running x.readiness) rest

    ready : ℕ
    ready = count_by (λ (x : Alive). is_ready x.readiness) rest

    going : ℕ
    going = count_by (λ (x : Alive). may_go true x.readiness) rest

    by : (r : Readiness) → going ≡ running + ready
        → cond (may_go true r) 1 0 + going ≡ cond (is_running r) 1 0 + running + (cond (is_ready r) 1 0 + ready)
    by Running e = omega (arith, e)
    by MayEnter e = omega (arith, e)
    by MustWait e = omega (arith, e)

-- otherwise only those that run
pub running_counted : (entries : List Alive)
    → count_by (λ (a : Alive). is_running a.readiness) entries ≡ count_by (λ (a : Alive). may_go false a.readiness) entries
running_counted [] = refl
running_counted (a ∷ rest) =
    sum_by-cons (λ (x : Alive). cond (is_running x.readiness) 1 0) a rest
    ∙ ap₂ (λ x y. x + y) (by a.readiness) (running_counted rest)
    ∙ sym (sum_by-cons (λ (x : Alive). cond (may_go false x.readiness) 1 0) a rest)
  where
    one : Bool → ℕ
    one b = cond b 1 0

    by : (r : Readiness) → one (is_running r) ≡ one (may_go false r)
    by Running = refl
    by MayEnter = refl
    by MustWait = refl
