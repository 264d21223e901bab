-- Sums over lists, and over rows.
use Rattle.std.proofs.Common.{◌≡◌, ℕ, suc, ◌+◌, ◌<◌, ◌≤◌, List, [], ◌∷◌, ◌++◌, length, map, get_or, ap, ◌∙◌, arith, Bool}
use Rattle.std.proofs.lemmas.List.{length-map}
use Rattle.pipe_model.specs.Runs.State.{Frame}
use Rattle.frame_rows.specs.IterationRows.{IterationRow}
use Rattle.frame_rows.specs.RowsOfFrames.{AreRows}
use Rattle.frame_rows.specs.Totals.{total}

-- the sum over two lists
pub total_append : {X : Type 0} → (m : X → ℕ) (xs ys : List X) → total m (xs ++ ys) ≡ total m xs + total m ys
total_append m [] ys = omega arith
total_append m (x ∷ xs) ys = let h = total_append m xs ys in omega (arith, h)

-- at most as many items as their sum, if each counts
pub few_of_total : {X : Type 0} → (m : X → ℕ) (xs : List X) → ((i : ℕ) → i < length xs → 0 < get_or (map m xs) i 0) → length xs ≤ total m xs
few_of_total m [] h = omega arith
few_of_total m (x ∷ xs) h = let a = h 0 (omega arith) in let b = few_of_total m xs (λ i l. h (suc i) (omega (arith, l))) in
    omega (arith, a, b)

-- no more instances than rooms
pub rows_fit : {M : Type 0} → (going : Bool) (fs : List Frame) (rs : List (IterationRow M)) → AreRows going fs rs
    → total (λ r. length r.numbers) rs ≤ total (λ r. r.room) rs
rows_fit going [] [] h = omega arith
rows_fit going [] (r ∷ rs) h = absurd h
rows_fit going (f ∷ fs) [] h = absurd h
rows_fit going (f ∷ fs) (r ∷ rs) h =
    let a = rows_fit going fs rs h.1 in
    let b : length r.numbers ≡ length f.nodes = ap length h.0.numbers ∙ length-map f.nodes (λ n. n.number) in
    let c = h.0.fits in
    omega (arith, a, b, c)
