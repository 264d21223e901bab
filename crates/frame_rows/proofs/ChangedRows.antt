-- What stays the same of all rows if one of them is changed.
use Rattle.std.proofs.Common.{None, ◌≡◌, ◌≢◌, ℕ, zero, suc, ◌+◌, ◌<◌, List, [], ◌∷◌, ◌++◌, length, map, get_or, set, refl, ap, sym, ◌∙◌}
use Rattle.std.proofs.Common.{arith, subst, Bool, Some}
use Rattle.pipe_model.specs.Runs.State.{Frame, frame_at, update_frame}
use Rattle.frame_rows.specs.RowsOfFrames.{AreRows, IsRowOf, token_at}
use Rattle.frame_rows.specs.Totals.{total}
use Rattle.frame_rows.specs.IterationRows.{IterationRow, row_at}

-- the row of an updated frame
pub rows_set : {M : Type 0} → (going : Bool) (fs : List Frame) (rs : List (IterationRow M)) (i : ℕ) (f : Frame) (u : Frame → Frame)
    (y : IterationRow M) → AreRows going fs rs → frame_at fs i ≡ Some f → IsRowOf going (u f) y
    → AreRows going (update_frame fs i u) (set rs i y)
rows_set going [] [] i f u y h e q = tt
rows_set going [] (r ∷ rs) i f u y h e q = absurd h
rows_set going (x ∷ fs) [] i f u y h e q = absurd h
rows_set going (x ∷ fs) (r ∷ rs) zero f u y h e q = (let s : x ≡ f = cc in subst (λ z. IsRowOf going (u z) y) (sym s) q, h.1)
rows_set going (x ∷ fs) (r ∷ rs) (suc i) f u y h e q = (h.0, rows_set going fs rs i f u y h.1 e q)

-- another row of the same frame
pub rows_set_same : {M : Type 0} → (going : Bool) (fs : List Frame) (rs : List (IterationRow M)) (i : ℕ) (f : Frame) (y : IterationRow M)
    → AreRows going fs rs → frame_at fs i ≡ Some f → IsRowOf going f y → AreRows going fs (set rs i y)
rows_set_same going [] [] i f y h e q = tt
rows_set_same going [] (r ∷ rs) i f y h e q = absurd h
rows_set_same going (x ∷ fs) [] i f y h e q = absurd h
rows_set_same going (x ∷ fs) (r ∷ rs) zero f y h e q = (let s : x ≡ f = cc in subst (λ z. IsRowOf going z y) (sym s) q, h.1)
rows_set_same going (x ∷ fs) (r ∷ rs) (suc i) f y h e q = (h.0, rows_set_same going fs rs i f y h.1 e q)

-- the token of the changed row
pub token_at_set : {M : Type 0} → (rs : List (IterationRow M)) (i : ℕ) (y : IterationRow M) → i < length rs
    → token_at (set rs i y) i ≡ y.token
token_at_set [] i y l = absurd (omega arith)
token_at_set (r ∷ rs) zero y l = refl
token_at_set (r ∷ rs) (suc i) y l = token_at_set rs i y (omega arith)

-- the token of another row
pub token_at_other : {M : Type 0} → (rs : List (IterationRow M)) (i j : ℕ) (y : IterationRow M) → j ≢ i
    → token_at (set rs i y) j ≡ token_at rs j
token_at_other [] i j y n = refl
token_at_other (r ∷ rs) zero zero y n = absurd (n refl)
token_at_other (r ∷ rs) zero (suc j) y n = refl
token_at_other (r ∷ rs) (suc i) zero y n = refl
token_at_other (r ∷ rs) (suc i) (suc j) y n = token_at_other rs i j y (λ e. n (ap suc e))

-- a field of the rows that the change keeps
pub map_set_same : {M X : Type 0} → (f : IterationRow M → X) (rs : List (IterationRow M)) (i : ℕ) (r y : IterationRow M)
    → row_at rs i ≡ Some r → f y ≡ f r → map f (set rs i y) ≡ map f rs
map_set_same f [] i r y e q = refl
map_set_same f (x ∷ rs) zero r y e q = let s : x ≡ r = cc in ap (λ z. z ∷ map f rs) (q ∙ ap f (sym s))
map_set_same f (x ∷ rs) (suc i) r y e q = ap (λ l. f x ∷ l) (map_set_same f rs i r y e q)

-- a field of a row
pub map_at : {M X : Type 0} → (f : IterationRow M → X) (rs : List (IterationRow M)) (i : ℕ) (r : IterationRow M) (d : X)
    → row_at rs i ≡ Some r → get_or (map f rs) i d ≡ f r
map_at f [] i r d e = absurd (cc)
map_at f (x ∷ rs) zero r d e = let s : x ≡ r = cc in ap f s
map_at f (x ∷ rs) (suc i) r d e = map_at f rs i r d e

-- a measure of the rows that the change keeps
pub total_set_same : {M : Type 0} → (m : IterationRow M → ℕ) (rs : List (IterationRow M)) (i : ℕ) (r y : IterationRow M)
    → row_at rs i ≡ Some r → m y ≡ m r → total m (set rs i y) ≡ total m rs
total_set_same m [] i r y e q = refl
total_set_same m (x ∷ rs) zero r y e q = let s : m x ≡ m r = ap m (let z : x ≡ r = cc in z) in omega (arith, s, q)
total_set_same m (x ∷ rs) (suc i) r y e q = ap (λ n. m x + n) (total_set_same m rs i r y e q)

-- the rooms of the rows and the spare ones
pub rooms_set : {M : Type 0} → (rs spare : List (IterationRow M)) (i : ℕ) (r y : IterationRow M) → row_at rs i ≡ Some r → y.room ≡ r.room
    → map (λ (z : IterationRow M). z.room) (set rs i y ++ spare) ≡ map (λ (z : IterationRow M). z.room) (rs ++ spare)
rooms_set [] spare i r y e q = refl
rooms_set (x ∷ rs) spare zero r y e q = let s : x ≡ r = cc in ap (λ n. n ∷ map (λ (z : IterationRow _). z.room) (rs ++ spare))
    (q ∙ ap (λ (z : IterationRow _). z.room) (sym s))
rooms_set (x ∷ rs) spare (suc i) r y e q = ap (λ l. x.room ∷ l) (rooms_set rs spare i r y e q)

-- the traces of a row
pub traces_of_row : {M : Type 0} → (rs : List (IterationRow M)) (i : ℕ) (r : IterationRow M) → row_at rs i ≡ Some r
    → get_or (map (λ (z : IterationRow M). z.traces) rs) i [] ≡ r.traces
traces_of_row [] i r e = absurd (let z : None ≡ Some r = e in cc)
traces_of_row (x ∷ rs) zero r e = let z : x ≡ r = cc in ap (λ (y : IterationRow _). y.traces) z
traces_of_row (x ∷ rs) (suc i) r e = traces_of_row rs i r e
