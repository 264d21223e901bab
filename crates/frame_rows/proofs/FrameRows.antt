-- Rows and the frames of their iterations.
use Rattle.std.proofs.Common.{◌≡◌, ℕ, ℤ, zero, suc, pos, ◌-◌, ◌<◌, ◌≤◌, ◌↔◌, List, [], ◌∷◌, length, map, get_or, refl, ap, ◌≢◌, IsTrue, sym}
use Rattle.std.proofs.Common.{◌∙◌, arith, subst, Bool, Option, Some, None}
use Rattle.std.proofs.lemmas.List.{length-map}
use Rattle.std.proofs.Math.ListN.{get_or-map}
use Rattle.pipe_model.specs.declared.node.Node.{Node}
use Rattle.pipe_model.specs.declared.stage.Counter.{Counter}
use Rattle.pipe_model.specs.declared.stage.Counter.TheVariants.{At}
use Rattle.pipe_model.specs.Runs.Allowed.{HasPassed, LeftHasPassed, EndedFirstInstance, LastEndedFirstInstance}
use Rattle.pipe_model.specs.Races.Columns.{node_at, no_node}
use Rattle.pipe_model.specs.Runs.StageCounters.{counter_of, Passes}
use Rattle.pipe_model.specs.declared.status.Status.{Status}
use Rattle.pipe_model.specs.declared.status.Status.TheVariants.{Running, Pending, Completed}
use Rattle.pipe_model.specs.Runs.State.{Frame, frame_at}
use Rattle.pipe_model.specs.declared.node.Kind.TheVariants as kinds
use Rattle.run_laws.proofs.RunStates.Frames.{frame_at_past}
use Rattle.frame_rows.specs.RowsOfFrames.{AreRows, IsRowOf, token_at, IsFree, IsFreeIn, IsFreeBy}
use Rattle.frame_rows.specs.IterationRows.{IterationRow, row_at, row_counter, left_row_counter, counter_at, CounterPasses, RowEndedFirst}
use Rattle.frame_rows.specs.IterationRows.{IsFreeRow}

-- the row of a frame
pub record HasRow {M : Type 0} (going : Bool) (rs : List (IterationRow M)) (i : ℕ) (f : Frame) : Type 0 where
  pub row : IterationRow M
  pub is : row_at rs i ≡ Some row
  pub matches : IsRowOf going f row

-- the row of a frame
pub row_of_frame : {M : Type 0} → (going : Bool) (fs : List Frame) (rs : List (IterationRow M)) (i : ℕ) (f : Frame) → AreRows going fs rs
    → frame_at fs i ≡ Some f → HasRow going rs i f
row_of_frame going [] [] i f h e = absurd (cc)
row_of_frame going [] (r ∷ rs) i f h e = absurd h
row_of_frame going (x ∷ fs) [] i f h e = absurd h
row_of_frame going (x ∷ fs) (r ∷ rs) zero f h e = record {
  row = r;
  is = refl;
  matches =
      (let s : x ≡ f = cc in subst (λ y. IsRowOf going y r) s h.0);
}
row_of_frame going (x ∷ fs) (r ∷ rs) (suc i) f h e = let q = row_of_frame going fs rs i f h.1 e in
    record { row = q.row; is = q.is; matches = q.matches }

-- the frame of a row
pub record HasFrame {M : Type 0} (going : Bool) (fs : List Frame) (i : ℕ) (r : IterationRow M) : Type 0 where
  pub frame : Frame
  pub is : frame_at fs i ≡ Some frame
  pub matches : IsRowOf going frame r

pub frame_of_row : {M : Type 0} → (going : Bool) (fs : List Frame) (rs : List (IterationRow M)) (i : ℕ) (r : IterationRow M)
    → AreRows going fs rs → row_at rs i ≡ Some r → HasFrame going fs i r
frame_of_row going [] [] i r h e = absurd (cc)
frame_of_row going [] (x ∷ rs) i r h e = absurd h
frame_of_row going (f ∷ fs) [] i r h e = absurd h
frame_of_row going (f ∷ fs) (x ∷ rs) zero r h e = record {
  frame = f;
  is = refl;
  matches =
      (let s : x ≡ r = cc in subst (λ y. IsRowOf going f y) s h.0);
}
frame_of_row going (f ∷ fs) (x ∷ rs) (suc i) r h e = let q = frame_of_row going fs rs i r h.1 e in
    record { frame = q.frame; is = q.is; matches = q.matches }

-- as many rows as frames
pub rows_length : {M : Type 0} → (going : Bool) (fs : List Frame) (rs : List (IterationRow M)) → AreRows going fs rs → length fs ≡ length rs
rows_length going [] [] h = refl
rows_length going [] (r ∷ rs) h = absurd h
rows_length going (f ∷ fs) [] h = absurd h
rows_length going (f ∷ fs) (r ∷ rs) h = ap suc (rows_length going fs rs h.1)

-- a row that was read
pub row_at_read : {M : Type 0} → (rs : List (IterationRow M)) (i : ℕ) (r : IterationRow M) → i < length rs → r ≡ get_or rs i r
    → row_at rs i ≡ Some r
row_at_read [] i r l e = absurd (omega arith)
row_at_read (x ∷ rs) zero r l e = ap Some (sym e)
row_at_read (x ∷ rs) (suc i) r l e = row_at_read rs i r (omega arith) e

-- the index of a row is below the length
pub row_at_within : {M : Type 0} → (rs : List (IterationRow M)) (i : ℕ) (r : IterationRow M) → row_at rs i ≡ Some r → i < length rs
row_at_within [] i r e = absurd (cc)
row_at_within (x ∷ rs) zero r e = omega arith
row_at_within (x ∷ rs) (suc i) r e = let h = row_at_within rs i r e in omega arith

-- past the rows there is none
pub row_at_past : {M : Type 0} → (rs : List (IterationRow M)) (i : ℕ) → length rs ≤ i → row_at rs i ≡ None
row_at_past [] i l = refl
row_at_past (r ∷ rs) zero l = absurd (omega (arith, l))
row_at_past (r ∷ rs) (suc i) l = row_at_past rs i (omega (arith, l))

-- the token of a row
pub token_of_row : {M : Type 0} → (rs : List (IterationRow M)) (i : ℕ) (r : IterationRow M) → row_at rs i ≡ Some r → token_at rs i ≡ r.token
token_of_row [] i r e = absurd (cc)
token_of_row (x ∷ rs) zero r e = let s : x ≡ r = cc in ap (λ y. y.token) s
token_of_row (x ∷ rs) (suc i) r e = token_of_row rs i r e

-- the numbers of a column
pub number_at : (nodes : List Node) (k : ℕ) → get_or (map (λ n. n.number) nodes) k (pos 0) ≡ (node_at nodes k).number
number_at nodes k = get_or-map (λ (n : Node). n.number) nodes k no_node

counter_by : (w : Status) (nodes : List Node) → row_counter w (map (λ n. n.number) nodes) ≡ counter_of w nodes
counter_by Running nodes = ap At (ap (λ k. get_or (map (λ n. n.number) nodes) (k - 1) (pos 0)) (length-map nodes (λ n. n.number))
    ∙ number_at nodes (length nodes - 1))
counter_by (Pending k n) nodes = refl
counter_by (Completed e) nodes = refl

-- a row and its frame have the same counter
pub counter_same : {M : Type 0} → (going : Bool) (f : Frame) (r : IterationRow M) → IsRowOf going f r
    → row_counter r.status r.numbers ≡ counter_of f.status f.nodes
counter_same going f r h = ap (λ w. row_counter w r.numbers) h.status ∙ ap (row_counter f.status) h.numbers ∙ counter_by f.status f.nodes

-- a counter passes what the iteration has passed
pub passes_same : (w : Status) (nodes : List Node) (n : ℤ) → Passes (counter_of w nodes) n ↔ HasPassed w nodes n
passes_same w nodes n = ((λ x. x), (λ x. x))

-- the counter to the left passes what the left neighbour has passed
pub left_passes : {M : Type 0} → (going : Bool) (fs : List Frame) (rs : List (IterationRow M)) (i : ℕ) (n : ℤ) → AreRows going fs rs
    → i ≤ length rs → CounterPasses (left_row_counter rs i) n ↔ LeftHasPassed fs i n
left_passes going fs rs zero n h l = ((λ x. x), (λ x. x))
left_passes going fs rs (suc j) n h l = by_row (row_at rs j) refl
  where
    by_row : (found : Option (IterationRow _)) → row_at rs j ≡ found → CounterPasses (left_row_counter rs (suc j)) n ↔ LeftHasPassed fs
        (suc j) n
    by_row None e = (
      (λ x f c. (let q = row_of_frame going fs rs j f h c in let w : None ≡ Some q.row = sym e ∙ q.is in
          absurd (let b : None ≡ Some q.row = w in cc))),
      (λ x. rw e tt),
    )
    by_row (Some r) e =
        let q = frame_of_row going fs rs j r h e in
        let same = counter_same going q.frame r q.matches in
        let both = passes_same q.frame.status q.frame.nodes n in (
          (λ x f c. (
              let p : Passes (row_counter r.status r.numbers) n = rw e at x in
              let s : q.frame ≡ f = (let z : Some q.frame ≡ Some f = sym q.is ∙ c in cc) in
              subst (λ y. HasPassed y.status y.nodes n) s (both.0 (subst (λ y. Passes y n) same p)))),
          (λ x. (
              let p : Passes (row_counter r.status r.numbers) n = subst (λ y. Passes y n) (sym same) (both.1 (x q.frame q.is)) in
              rw e p)),
        )

ended_by : (w : Status) (nodes : List Node) → RowEndedFirst w (map (λ n. n.number) nodes) ↔ EndedFirstInstance w nodes
ended_by Running nodes = let l = length-map nodes (λ (n : Node). n.number) in ((λ x. (omega (arith, x, l))), (λ x. (omega (arith, x, l))))
ended_by (Pending k n) nodes = ((λ x. x), (λ x. x))
ended_by (Completed e) nodes = ((λ x. x), (λ x. x))

-- instance 0 of a row has ended exactly if instance 0 of its frame has
pub ended_first_same : {M : Type 0} → (going : Bool) (f : Frame) (r : IterationRow M) → IsRowOf going f r
    → RowEndedFirst r.status r.numbers ↔ EndedFirstInstance f.status f.nodes
ended_first_same going f r h = subst (λ w. RowEndedFirst w r.numbers ↔ EndedFirstInstance f.status f.nodes) (sym h.status)
    (subst (λ ns. RowEndedFirst f.status ns ↔ EndedFirstInstance f.status f.nodes) (sym h.numbers) (ended_by f.status f.nodes))

-- the counter of the row to the left of a row
pub left_counter_is : {M : Type 0} → (rs : List (IterationRow M)) (i : ℕ) (r : IterationRow M) → i ≢ 0 → row_at rs (i - 1) ≡ Some r
    → Some (row_counter r.status r.numbers) ≡ left_row_counter rs i
left_counter_is rs zero r n e = absurd (n refl)
left_counter_is rs (suc j) r n e = ap counter_at (sym (let z : suc j - 1 ≡ j = omega arith in subst (λ k. row_at rs k ≡ Some r) z e))

free_by : {M : Type 0} → (going : Bool) (fs : List Frame) (rs : List (IterationRow M)) (i : ℕ) (w : Status) → AreRows going fs rs
    → i ≤ length rs → IsFreeRow w (left_row_counter rs i) ↔ IsFreeBy fs i w
free_by going fs rs i Running h l = ((λ x. x), (λ x. x))
free_by going fs rs i (Completed e) h l = ((λ x. x), (λ x. x))
free_by going fs rs i (Pending kinds.Wait n) h l = let p = left_passes going fs rs i n h l in ((λ x e. p.0 x), (λ x. p.1 (x refl)))
free_by going fs rs i (Pending kinds.Zero n) h l = ((λ x e. absurd (let q : kinds.Zero ≡ kinds.Wait = e in cc)), (λ x. tt))
free_by going fs rs i (Pending kinds.Continue n) h l = ((λ x e. absurd (let q : kinds.Continue ≡ kinds.Wait = e in cc)), (λ x. tt))

-- whether an iteration may enter the stage that it has named, by its row
pub free_same : {M : Type 0} → (going : Bool) (fs : List Frame) (rs : List (IterationRow M)) (i : ℕ) (r : IterationRow M)
    → AreRows going fs rs → row_at rs i ≡ Some r → IsFreeRow r.status (left_row_counter rs i) ↔ IsFree fs i
free_same going fs rs i r h e =
    let q = frame_of_row going fs rs i r h e in
    let l = row_at_within rs i r e in
    subst (λ o. IsFreeRow r.status (left_row_counter rs i) ↔ IsFreeIn fs i o) (sym q.is)
    (subst (λ w. IsFreeRow w (left_row_counter rs i) ↔ IsFreeBy fs i q.frame.status) (sym q.matches.status)
    (free_by going fs rs i q.frame.status h (omega (arith, l))))

-- past the rows no iteration may enter
pub free_past : {M : Type 0} → (going : Bool) (fs : List Frame) (rs : List (IterationRow M)) (i : ℕ) → AreRows going fs rs → length rs ≤ i
    → IsFree fs i → ⊥
free_past going fs rs i h l x = let e = rows_length going fs rs h in let n : frame_at fs i ≡ None =
    frame_at_past fs i (omega (arith, e, l)) in subst (IsFreeIn fs i) n x

-- whether instance 0 of the last iteration has ended, by the last row
pub last_ended : {M : Type 0} → (going : Bool) (fs : List Frame) (rs : List (IterationRow M)) (i : ℕ) (r : IterationRow M)
    → AreRows going fs rs → length rs ≡ suc i → row_at rs i ≡ Some r → RowEndedFirst r.status r.numbers ↔ LastEndedFirstInstance fs
last_ended going fs rs i r h l e =
    let q = frame_of_row going fs rs i r h e in
    let both = ended_first_same going q.frame r q.matches in
    let n = rows_length going fs rs h in (
      (λ x j f w c. (
          let s : j ≡ i = omega (arith, n, l, w) in
          let c' : frame_at fs i ≡ Some f = subst (λ k. frame_at fs k ≡ Some f) s c in
          let z : q.frame ≡ f = (let y : Some q.frame ≡ Some f = sym q.is ∙ c' in cc) in
          subst (λ y. EndedFirstInstance y.status y.nodes) z (both.0 x))),
      (λ x. both.1 (x i q.frame (omega (arith, n, l)) q.is)),
    )

-- without iterations nothing is asked
pub none_ended : {M : Type 0} → (going : Bool) (fs : List Frame) (rs : List (IterationRow M)) → AreRows going fs rs → length rs ≡ 0
    → LastEndedFirstInstance fs
none_ended going fs rs h e j f l c = let n = rows_length going fs rs h in absurd (omega (arith, n, e, l))

-- a test of a row as a fact of its frame
pub free_test : (P : Type 0) (t : Bool) (w w' : Status) (l l' : Option Counter) → (IsTrue t ↔ IsFreeRow w l) → w ≡ w' → l ≡ l'
    → (IsFreeRow w' l' ↔ P) → IsTrue t ↔ P
free_test P t w w' l l' a e f b = (
  (λ x. b.0 (subst (λ v. IsFreeRow v l') e (subst (IsFreeRow w) f (a.0 x)))),
  (λ x. a.1 (subst (IsFreeRow w) (sym f) (subst (λ v. IsFreeRow v l') (sym e) (b.1 x)))),
)
