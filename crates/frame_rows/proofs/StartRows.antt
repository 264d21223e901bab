-- What a start needs of the rows.
use Rattle.std.proofs.Common.{◌≡◌, ℕ, zero, suc, ◌-◌, ◌<◌, List, [], ◌∷◌, length, get_or, refl, ap, sym, arith, subst, Option, Some, None}
use Rattle.std.proofs.Common.{IfSome}
use Rattle.pipe_model.specs.Orders.OrderMarks.{start_marks}
use Rattle.frame_rows.specs.IterationRows.{IterationRow, row_at, head_marks, marks_of_row, HasMarks, left_marks, left_numbers}
use Rattle.frame_rows.specs.IterationRows.{numbers_of_row}

-- the marks of the head of the last row
pub head_marks_is : {M : Type 0} → (rs : List (IterationRow M)) (r : IterationRow M) → row_at rs (length rs - 1) ≡ Some r
    → head_marks rs ≡ Some (get_or r.marks 0 (start_marks 0 0 0))
head_marks_is [] r e = absurd (cc)
head_marks_is (x ∷ []) r e = let s : x ≡ r = cc in ap (λ (y : IterationRow _). Some (get_or y.marks 0 (start_marks 0 0 0))) s
head_marks_is (x ∷ (y ∷ rs)) r e =
    let p : length (x ∷ (y ∷ rs)) - 1 ≡ suc (length rs) = omega arith in
    let q : length (y ∷ rs) - 1 ≡ length rs = omega arith in
    let e' : row_at (y ∷ rs) (length rs) ≡ Some r = subst (λ n. row_at (x ∷ (y ∷ rs)) n ≡ Some r) p e in
    head_marks_is (y ∷ rs) r (subst (λ n. row_at (y ∷ rs) n ≡ Some r) (sym q) e')

-- without rows there is none
pub head_marks_none : {M : Type 0} → (rs : List (IterationRow M)) → length rs ≡ 0 → head_marks rs ≡ None
head_marks_none [] e = refl
head_marks_none (r ∷ rs) e = absurd (omega (arith, e))

-- who has marks has a row
pub marks_within : {M : Type 0} → (rs : List (IterationRow M)) (i k : ℕ) → HasMarks rs i k → i < length rs
marks_within [] i k h = absurd (let l : k < 0 = h in omega (arith, l))
marks_within (r ∷ rs) zero k h = omega arith
marks_within (r ∷ rs) (suc i) k h = let l = marks_within rs i k h in omega (arith, l)

-- the marks of the left parent
pub left_marks_is : {M : Type 0} → (rs : List (IterationRow M)) (i j : ℕ) (r : IterationRow M) → 0 < i → row_at rs (i - 1) ≡ Some r
    → left_marks rs i (Some j) ≡ Some (get_or r.marks j (start_marks 0 0 0))
left_marks_is rs zero j r l e = absurd (omega (arith, l))
left_marks_is rs (suc i) j r l e = let p : suc i - 1 ≡ i = omega arith in ap (λ o. Some (get_or (marks_of_row o) j (start_marks 0 0 0)))
    (subst (λ n. row_at rs n ≡ Some r) p e)

-- the numbers of the row to the left
pub left_numbers_is : {M : Type 0} → (rs : List (IterationRow M)) (i : ℕ) (r : IterationRow M) → 0 < i → row_at rs (i - 1) ≡ Some r
    → left_numbers rs i ≡ r.numbers
left_numbers_is rs zero r l e = absurd (omega (arith, l))
left_numbers_is rs (suc i) r l e = let p : suc i - 1 ≡ i = omega arith in ap numbers_of_row (subst (λ n. row_at rs n ≡ Some r) p e)

-- two facts of the same option
pub if_some_both : {A : Type 0} (o : Option A) (P Q : A → Type 0) → IfSome o P → IfSome o Q → IfSome o (λ x. P x × Q x)
if_some_both None P Q p q = tt
if_some_both (Some x) P Q p q = (p, q)
