-- The list of an insertion log: which elements it has, and that an insertion keeps their order.
use Rattle.std.proofs.Common.{List, ℕ, length, ◌≡◌, ◌+◌, [], ◌∷◌, ◌++◌, ap, arith, ◌∙◌, true, eq-eqb, refl, ne_eqb, cond, eqb, Bool, false}
use Rattle.std.proofs.Common.{◌≢◌, sym, ◌<◌, subst, ◌↔◌}
use mathlib.Core.Logic.{dite}
use native.Mathlib.Decide.{ℕ_discrete}
use Rattle.pipe_model.specs.Orders.OrderList.{inserted, insert_after, has, IsLog, list_of_log, IsBeforeIn, place}
use Rattle.run_laws.specs.OrderLaws.{EntriesInsertElements}

-- the list after one more entry
inserted-push : (xs : List ℕ) (e : ℕ) (log : List ℕ) (x : ℕ)
    → inserted xs e (log ++ x ∷ []) ≡ insert_after x (e + length log) (inserted xs e log)
inserted-push xs e [] x = ap (λ (k : ℕ). insert_after x k xs) (omega arith)
inserted-push xs e (y ∷ log) x =
    inserted-push (insert_after y e xs) (e + 1) log x
    ∙ ap (λ (k : ℕ). insert_after x k (inserted (insert_after y e xs) (e + 1) log)) (omega arith)

-- the elements of a list after an insertion
has-insert_after : (xs : List ℕ) (x e y : ℕ) → has x xs ≡ true
    → has y (insert_after x e xs) ≡ cond (eqb e y) true (has y xs)
has-insert_after [] x e y h = cc
has-insert_after (z ∷ zs) x e y h = dite (ℕ_discrete z x)
    (λ (i : z ≡ x). rw (eq-eqb z x i) (dite (ℕ_discrete z y)
    (λ j. rw (eq-eqb z y j) (by_both (eqb e y)))
    (λ n. rw (ne_eqb z y n) refl)))
    (λ n. let h' : has x zs ≡ true = rw (ne_eqb z x n) at h in rw (ne_eqb z x n) (dite (ℕ_discrete z y)
    (λ j. rw (eq-eqb z y j) (by_both (eqb e y)))
    (λ m. rw (ne_eqb z y m) (has-insert_after zs x e y h'))))
  where
    by_both : (b : Bool) → true ≡ cond b true true
    by_both true = refl
    by_both false = refl

-- the old elements stay
pub has_old : (xs : List ℕ) (x e y : ℕ) → has x xs ≡ true → has y xs ≡ true → has y (insert_after x e xs) ≡ true
has_old xs x e y h k = has-insert_after xs x e y h ∙ (rw k (both (eqb e y)))
  where
    both : (b : Bool) → cond b true true ≡ true
    both true = refl
    both false = refl

-- the new element is in the list
has_new : (xs : List ℕ) (x e : ℕ) → has x xs ≡ true → has e (insert_after x e xs) ≡ true
has_new xs x e h = has-insert_after xs x e e h ∙ rw (eq-eqb e e refl) refl

-- an element that is not new was there before
has_back : (xs : List ℕ) (x e y : ℕ) → has x xs ≡ true → e ≢ y → has y (insert_after x e xs) ≡ true → has y xs ≡ true
has_back xs x e y h n k = let q = has-insert_after xs x e y h in (rw (ne_eqb e y n) at (sym q)) ∙ k

-- the elements are the numbers below e
pub record HasBelow (e : ℕ) (xs : List ℕ) : Type 0 where
  pub each : (y : ℕ) → y < e → has y xs ≡ true
  pub only : (y : ℕ) → has y xs ≡ true → y < e

-- an insertion adds the number e
pub has_below-insert_after : (e : ℕ) (xs : List ℕ) (x : ℕ) → x < e → HasBelow e xs
    → HasBelow (e + 1) (insert_after x e xs)
has_below-insert_after e xs x l h = let hx : has x xs ≡ true = h.each x l in record {
  each = λ y m. dite (ℕ_discrete e y) (λ (i : e ≡ y). subst (λ (k : ℕ). has k (insert_after x e xs) ≡ true) i
      (has_new xs x e hx)) (λ n. has_old xs x e y hx (h.each y (omega arith)));
  only = λ y m. dite (ℕ_discrete e y) (λ (i : e ≡ y). omega arith) (λ n. let q : y < e =
      h.only y (has_back xs x e y hx n m) in omega arith);
}

-- the entries of a log add one number each
has_below-inserted : (e : ℕ) (xs : List ℕ) (log : List ℕ) → IsLog e log → HasBelow e xs
    → HasBelow (e + length log) (inserted xs e log)
has_below-inserted e xs [] ok h = subst (λ (k : ℕ). HasBelow k xs) (omega arith) h
has_below-inserted e xs (x ∷ log) ok h =
    subst (λ (k : ℕ). HasBelow k (inserted (insert_after x e xs) (e + 1) log)) (omega arith)
    (has_below-inserted (e + 1) (insert_after x e xs) log ok.1 (has_below-insert_after e xs x ok.0 h))

-- the list of element 0 alone
pub first_list : HasBelow 1 (0 ∷ [])
first_list = record {
  each = λ y m. (
      let z : 0 ≡ y = omega arith in
      rw (eq-eqb 0 y z) refl);
  only = λ y m. only_zero y m;
}
  where
    only_zero : (y : ℕ) → has y (0 ∷ []) ≡ true → y < 1
    only_zero y m =
        dite (ℕ_discrete 0 y) (λ (i : 0 ≡ y). omega arith) (λ n. let q : false ≡ true = rw (ne_eqb 0 y n) at m in cc)

-- the list of a log has the elements up to its length
pub list_has_below : (log : List ℕ) → IsLog 1 log → HasBelow (length log + 1) (list_of_log log)
list_has_below log ok =
    subst (λ (k : ℕ). HasBelow k (list_of_log log)) (omega arith) (has_below-inserted 1 (0 ∷ []) log ok first_list)

-- a log with one more entry
IsLog-push : (e : ℕ) (log : List ℕ) (x : ℕ) → IsLog e log → x < e + length log → IsLog e (log ++ x ∷ [])
IsLog-push e [] x ok l = (omega arith, tt)
IsLog-push e (y ∷ log) x ok l = (ok.0, IsLog-push (e + 1) log x ok.1 (omega arith))

-- an insertion keeps the order of the elements that were there
pub order_kept : (xs : List ℕ) (z e x y : ℕ) → e ≢ x → e ≢ y
    → IsBeforeIn (insert_after z e xs) x y ↔ IsBeforeIn xs x y
order_kept [] z e x y n m = ((λ l. l), (λ l. l))
order_kept (w ∷ ws) z e x y n m = dite (ℕ_discrete w z)
    (λ i. rw (eq-eqb w z i, ne_eqb e x n, ne_eqb e y m) (after_head (eqb w x) (eqb w y)))
    (λ i. rw (ne_eqb w z i) (let t = order_kept ws z e x y n m in later (eqb w x) (eqb w y) t))
  where
    after_head : (b c : Bool)
        → (cond b 0 ((place x ws + 1) + 1) < cond c 0 ((place y ws + 1) + 1))
        ↔ (cond b 0 (place x ws + 1) < cond c 0 (place y ws + 1))
    after_head true true = ((λ l. l), (λ l. l))
    after_head true false = ((λ l. omega arith), (λ l. omega arith))
    after_head false true = ((λ l. absurd (omega arith)), (λ l. absurd (omega arith)))
    after_head false false = ((λ l. omega arith), (λ l. omega arith))

    later : (b c : Bool) → IsBeforeIn (insert_after z e ws) x y ↔ IsBeforeIn ws x y
        → (cond b 0 (place x (insert_after z e ws) + 1) < cond c 0 (place y (insert_after z e ws) + 1))
        ↔ (cond b 0 (place x ws + 1) < cond c 0 (place y ws + 1))
    later true true t = ((λ l. l), (λ l. l))
    later true false t = ((λ l. omega arith), (λ l. omega arith))
    later false true t = ((λ l. absurd (omega arith)), (λ l. absurd (omega arith)))
    later false false t =
        ((λ l. let q = t.0 (omega arith) in omega arith), (λ l. let q = t.1 (omega arith) in omega arith))

-- the law of entries
pub entries_insert_elements : EntriesInsertElements
entries_insert_elements log x = record {
  list = inserted-push (0 ∷ []) 1 log x;
  names = λ ok l. IsLog-push 1 log x ok l;
}
