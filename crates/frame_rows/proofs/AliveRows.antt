-- The list of alive iterations while rows change.
use Rattle.std.proofs.Common.{◌≡◌, ◌≢◌, ℕ, zero, suc, ◌+◌, ◌<◌, ◌≤◌, List, [], ◌∷◌, ◌++◌, length, set, get_or, refl, ap, sym, ◌∙◌}
use Rattle.std.proofs.Common.{arith, subst, Bool, true, false, not, cond, filter, Option, Some, None, inl, inr, All, Contains}
use Rattle.std.proofs.lemmas.Bool.{cases_eq, cases_lt}
use Rattle.std.proofs.lemmas.List.{length-set, length_push, get_or_default}
use Rattle.std.proofs.lemmas.List.Elements.{All-filter, All-push, All-weaker, Contains-append_left, Contains-push}
use Rattle.std.proofs.lemmas.List.Kept.{AllPairs-filter}
use Rattle.std.proofs.lemmas.List.Quantifiers.{all_pairs_push}
use Rattle.pipe_model.specs.declared.status.Status.{Status}
use Rattle.pipe_model.specs.declared.status.Status.TheVariants.{Running, Pending, Completed}
use Rattle.pipe_model.specs.Runs.State.{Frame, frame_at, is_completed}
use Rattle.frame_rows.specs.AliveLists.{ListsAlive, HasAliveList, is_alive_in, is_alive_row}
use Rattle.frame_rows.specs.IterationRows.{IterationRow, row_at}
use Rattle.frame_rows.specs.RowsOfFrames.{AreRows, RowGoesOn, IsFreeIn, IsFreeBy}
use Rattle.frame_rows.proofs.FrameRows.{row_of_frame}

-- ---- one row

-- a row that is read
alive_row : {M : Type 0} → (rs : List (IterationRow M)) (i : ℕ) (r : IterationRow M) → row_at rs i ≡ Some r → is_completed r.status ≡ false
    → is_alive_in rs i ≡ true
alive_row rs i r at e = ap is_alive_row at ∙ ap not e

-- an iteration that goes on is alive
free_alive : (fs : List Frame) (i : ℕ) (w : Status) → IsFreeBy fs i w → is_completed w ≡ false
free_alive fs i Running x = refl
free_alive fs i (Pending k n) x = refl
free_alive fs i (Completed e) x = absurd x

pub going_alive : {M : Type 0} → (going : Bool) (fs : List Frame) (rs : List (IterationRow M)) (i : ℕ) → AreRows going fs rs
    → RowGoesOn fs rs i → is_alive_in rs i ≡ true
going_alive {M} going fs rs i h (inl y) = alive_row rs i y.0 y.1 (ap is_completed y.2)
going_alive {M} going fs rs i h (inr x) = by (frame_at fs i) refl x
  where
    by : (o : Option Frame) → frame_at fs i ≡ o → IsFreeIn fs i o → is_alive_in rs i ≡ true
    by None e x = absurd x
    by (Some f) e x = let q = row_of_frame going fs rs i f h e in alive_row rs i q.row q.is
        (ap is_completed q.matches.status ∙ free_alive fs i f.status x)

-- ---- rows that change

pub other_row : {M : Type 0} → (rs : List (IterationRow M)) (i j : ℕ) (y : IterationRow M) → j ≢ i → row_at (set rs i y) j ≡ row_at rs j
other_row [] i j y n = refl
other_row (r ∷ rs) zero zero y n = absurd (n refl)
other_row (r ∷ rs) zero (suc j) y n = refl
other_row (r ∷ rs) (suc i) zero y n = refl
other_row (r ∷ rs) (suc i) (suc j) y n = other_row rs i j y (λ e. n (ap suc e))

pub earlier_row : {M : Type 0} → (rs : List (IterationRow M)) (y : IterationRow M) (i : ℕ) → i < length rs
    → row_at (rs ++ y ∷ []) i ≡ row_at rs i
earlier_row [] y i l = absurd (omega (arith, l))
earlier_row (r ∷ rs) y zero l = refl
earlier_row (r ∷ rs) y (suc i) l = earlier_row rs y i (omega (arith, l))

-- past the rows nothing is alive
pub row_past : {M : Type 0} → (rs : List (IterationRow M)) (i : ℕ) → length rs ≤ i → is_alive_in rs i ≡ false
row_past [] i l = refl
row_past (r ∷ rs) zero l = absurd (omega (arith, l))
row_past (r ∷ rs) (suc i) l = row_past rs i (omega (arith, l))

-- a row of an alive iteration is changed
lists_set : {M : Type 0} → (rs : List (IterationRow M)) (i : ℕ) (r y : IterationRow M) (alive : List ℕ) → row_at rs i ≡ Some r
    → is_completed r.status ≡ false → ListsAlive rs alive → ListsAlive (set rs i y) alive
lists_set rs i r y alive at e h = record {
  rises = h.rises;
  begun = subst (λ n. All (λ k. k < n) alive) (sym (length-set rs i y)) h.begun;
  all = λ j a. elim (cases_eq j i) [
    | inl s ↦ h.all j (ap (is_alive_in rs) s ∙ alive_row rs i r at e)
    | inr n ↦ h.all j (ap is_alive_row (sym (other_row rs i j y n)) ∙ a)
  ];
}

pub alive_set : {M : Type 0} → (rs spare : List (IterationRow M)) (i : ℕ) (r y : IterationRow M) (alive : List ℕ) (room : ℕ)
    → row_at rs i ≡ Some r → is_completed r.status ≡ false → HasAliveList rs spare alive room → HasAliveList (set rs i y) spare alive room
alive_set rs spare i r y alive room at e h = record { list = lists_set rs i r y alive at e h.list; room = h.room }

-- an iteration begins
lists_push : {M : Type 0} → (rs : List (IterationRow M)) (y : IterationRow M) (alive : List ℕ) → ListsAlive rs alive
    → ListsAlive (rs ++ y ∷ []) (alive ++ length rs ∷ [])
lists_push rs y alive h =
    let wide : length (rs ++ y ∷ []) ≡ length rs + 1 = length_push rs y in record {
      rises = all_pairs_push (λ (i : ℕ) (j : ℕ). i < j) alive (length rs) h.rises h.begun;
      begun = All-push (λ i. i < length (rs ++ y ∷ [])) alive (length rs)
          (All-weaker (λ i. i < length rs) (λ i. i < length (rs ++ y ∷ [])) (λ i l. (omega (arith, l, wide))) alive h.begun)
          (omega (arith, wide));
      all = λ j a. elim (cases_lt j (length rs)) [
        | inl l ↦ Contains-append_left alive (length rs ∷ []) j (h.all j (ap is_alive_row (sym (earlier_row rs y j l)) ∙ a))
        | inr g ↦ elim (cases_eq j (length rs)) [
          | inl s ↦ subst (Contains (alive ++ length rs ∷ [])) (sym s) (Contains-push alive (length rs))
          | inr n ↦ absurd (let z : false ≡ true = sym (row_past (rs ++ y ∷ []) j (omega (arith, g, n, wide))) ∙ a in cc)
        ]
      ];
    }

pub alive_push : {M : Type 0} → (rs spare : List (IterationRow M)) (row y : IterationRow M) (alive : List ℕ) (room : ℕ)
    → HasAliveList rs (spare ++ row ∷ []) alive room → HasAliveList (rs ++ y ∷ []) spare (alive ++ length rs ∷ []) room
alive_push rs spare row y alive room h = record {
  list = lists_push rs y alive h.list;
  room = (let a = h.room in let b = length_push spare row in let c = length_push alive (length rs) in omega (arith, a, b, c));
}

-- ---- iterations that have ended are dropped

kept_passing : {X : Type 0} → (p : X → Bool) (xs : List X) (x : X) → p x ≡ true → Contains xs x → Contains (filter p xs) x
kept_passing p [] x e q = absurd (let l = q.1 in omega (arith, l))
kept_passing p (y ∷ ys) x e (zero, l, s) = subst (λ b. Contains (cond b (y ∷ filter p ys) (filter p ys)) x)
    (sym (ap p (let z : y ≡ x = s in z) ∙ e)) (0, omega arith, s)
kept_passing p (y ∷ ys) x e (suc k, l, s) = by (p y) (kept_passing p ys x e (k, omega (arith, l), s))
  where
    by : (b : Bool) → Contains (filter p ys) x → Contains (cond b (y ∷ filter p ys) (filter p ys)) x
    by true q = (suc q.0, (let a = q.1 in omega (arith, a)), q.2)
    by false q = q

length_filter : {X : Type 0} → (p : X → Bool) (xs : List X) → length (filter p xs) ≤ length xs
length_filter p [] = omega arith
length_filter p (x ∷ xs) = let h = length_filter p xs in by (p x) h
  where
    by : (b : Bool) → length (filter p xs) ≤ length xs → length (cond b (x ∷ filter p xs) (filter p xs)) ≤ suc (length xs)
    by true l = omega (arith, l)
    by false l = omega (arith, l)

pub lists_kept : {M : Type 0} → (rs : List (IterationRow M)) (alive : List ℕ) → ListsAlive rs alive
    → ListsAlive rs (filter (is_alive_in rs) alive)
lists_kept rs alive h = record {
  rises = AllPairs-filter (λ (i : ℕ) (j : ℕ). i < j) (is_alive_in rs) alive h.rises;
  begun = All-filter (is_alive_in rs) (λ i. i < length rs) alive h.begun;
  all = λ j a. kept_passing (is_alive_in rs) alive j a (h.all j a);
}

-- a new book
pub alive_none : {M : Type 0} → (spare : List (IterationRow M)) (room : ℕ) → length spare ≤ room → HasAliveList {M = M} [] spare [] room
alive_none spare room l = record {
  list = record {
    rises = λ i j d a b. absurd (omega (arith, b));
    begun = λ k d a. absurd (omega (arith, a));
    all = λ i a. absurd (let z : false ≡ true = a in cc);
  };
  room = omega (arith, l);
}

-- ---- the first that goes on

listed_at : (alive : List ℕ) (i : ℕ) (at : Contains alive i) → get_or alive at.0 0 ≡ i
listed_at alive i at = get_or_default alive at.0 0 i at.1 ∙ at.2

-- none of the listed ones before number k goes on: none below the k-th does
pub none_before : {M : Type 0} → (going : Bool) (fs : List Frame) (rs : List (IterationRow M)) (alive : List ℕ) (k : ℕ)
    → AreRows going fs rs → ListsAlive rs alive → k < length alive
    → ((m : ℕ) → m < k → RowGoesOn fs rs (get_or alive m 0) → ⊥) → (j : ℕ) → j < get_or alive k 0 → RowGoesOn fs rs j → ⊥
none_before going fs rs alive k h q l before j less x =
    let at = q.all j (going_alive going fs rs j h x) in
    let is = listed_at alive j at in
    elim (cases_lt at.0 k) [
      | inl a ↦ before at.0 a (subst (RowGoesOn fs rs) (sym is) x)
      | inr g ↦ elim (cases_eq at.0 k) [
        | inl s ↦ (let z : get_or alive k 0 ≡ j = ap (λ n. get_or alive n 0) (sym s) ∙ is in absurd (omega (arith, z, less)))
        | inr n ↦ (let z = q.rises k at.0 0 (omega (arith, g, n)) at.1 in absurd (omega (arith, z, is, less)))
      ]
    ]

-- none of the listed ones goes on: none does
pub none_at_all : {M : Type 0} → (going : Bool) (fs : List Frame) (rs : List (IterationRow M)) (alive : List ℕ) → AreRows going fs rs
    → ListsAlive rs alive
    → ((m : ℕ) → m < length alive → RowGoesOn fs rs (get_or alive m 0) → ⊥) → (j : ℕ) → RowGoesOn fs rs j → ⊥
none_at_all going fs rs alive h q none j x =
    let at = q.all j (going_alive going fs rs j h x) in
    none at.0 at.1 (subst (RowGoesOn fs rs) (sym (listed_at alive j at)) x)
