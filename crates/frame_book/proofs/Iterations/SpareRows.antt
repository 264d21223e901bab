-- Rows that no iteration has used yet.
use Rattle.std.proofs.Common.{◌≡◌, ℕ, ℤ, suc, pos, ◌+◌, ◌<◌, ◌≤◌, List, [], ◌∷◌, ◌++◌, length, length-append, map, get_or, refl}
use Rattle.std.proofs.Common.{ap, ap₂, sym}
use Rattle.std.proofs.Common.{◌∙◌, arith, subst, true, Some, None, reverse, append_assoc, All, zero, replicate}
use Rattle.std.proofs.lemmas.List.{length-map, length-reverse, map-append, reverse-append, get_or-append-add}
use Rattle.std.proofs.Math.Seq.{get_or-append_seam}
use Rattle.std.proofs.lemmas.List.Elements.{All-pop}
use Rattle.pipe_model.specs.declared.column.ColumnEnd.{ColumnEnd}
use Rattle.pipe_model.specs.declared.node.Kind.TheVariants.{Zero}
use Rattle.pipe_model.specs.Runs.Allowed.{ContinuesLoop}
use Rattle.pipe_model.specs.Pipelines.Behaviour.{Action, Accessed, Staged, Ended, Behaviour, node_of, Reading, Writing, Staging, Ending}
use Rattle.pipe_model.specs.Pipelines.Behaviour.{Performs, nodes_in, column_of, trace_end, closes_at_once}
use Rattle.pipe_model.specs.Pipelines.Pipeline.{Pipeline, AlwaysClosesLoop}
use Rattle.pipe_model.specs.declared.status.Status.{Status}
use Rattle.pipe_model.specs.declared.status.Status.TheVariants.{Running, Pending, Completed}
use Rattle.pipe_model.specs.Runs.State.{Frame, frame_at, end_of_status}
use Rattle.run_laws.proofs.RunStates.Frames.{frame_at_exists}
use Rattle.frame_book.specs.Rooms.{IsSized, IsPlanned, IsFresh, room_in, rooms_of}
use Rattle.frame_book.specs.Invariant.{MatchesFrame, pending_nodes}
use Rattle.frame_rows.specs.IterationRows.{IterationRow, empty_row}
use Rattle.pipe_model.specs.declared.marks.Marks.{Marks}
use Rattle.frame_rows.specs.Places.{PlaceTable, spare_rows, with_place}
use Rattle.frame_rows.specs.Totals.{total}
use Rattle.frame_rows.proofs.Totals.{total_append, few_of_total}

-- after the end no stage is named
ending_names_none : (f : ColumnEnd) (xs : List Action) → Performs (Ending f) xs → nodes_in xs ≡ []
ending_names_none f [] p = refl
ending_names_none f (Accessed a ∷ xs) p = absurd (let q : Accessed a ≡ Ended f = p.0 in cc)
ending_names_none f (Staged j i ∷ xs) p = absurd (let q : Staged j i ≡ Ended f = p.0 in cc)
ending_names_none f (Ended e ∷ xs) p = ending_names_none f xs p.1

-- what always closes the loop names no stage, and its end closes
pub closes_alone : (d : Behaviour) (xs : List Action) → AlwaysClosesLoop d → Performs d xs
    → (nodes_in xs ≡ []) × ((e : ColumnEnd) → trace_end xs ≡ Some e → closes_at_once e ≡ true)
closes_alone d [] l p = (refl, (λ e q. absurd (let z : None ≡ Some e = q in cc)))
closes_alone (Reading c go) (Accessed a ∷ xs) l p = closes_alone (go a.value) xs (l a.value) p.1
closes_alone (Writing c v d) (Accessed a ∷ xs) l p = closes_alone d xs l p.1
closes_alone (Staging k m d) (Accessed a ∷ xs) l p = absurd l
closes_alone (Ending f) (Accessed a ∷ xs) l p = absurd (let q : Accessed a ≡ Ended f = p.0 in cc)
closes_alone (Reading c go) (Staged j i ∷ xs) l p = absurd (let q = p.0.1 in cc)
closes_alone (Writing c v d) (Staged j i ∷ xs) l p = absurd (let q = p.0 in cc)
closes_alone (Staging k m d) (Staged j i ∷ xs) l p = absurd l
closes_alone (Ending f) (Staged j i ∷ xs) l p = absurd (let q : Staged j i ≡ Ended f = p.0 in cc)
closes_alone (Reading c go) (Ended e ∷ xs) l p = absurd (let q = p.0.1 in cc)
closes_alone (Writing c v d) (Ended e ∷ xs) l p = absurd (let q = p.0 in cc)
closes_alone (Staging k m d) (Ended e ∷ xs) l p = absurd l
closes_alone (Ending f) (Ended e ∷ xs) l p = (
  ending_names_none f xs p.1,
  (λ x q. (let z : Ended e ≡ Ended f = p.0 in let s : e ≡ f = cc in let w : e ≡ x = (let y : Some e ≡ Some x = q in cc) in
      ap closes_at_once (sym w ∙ s) ∙ l)),
)

-- an iteration that always closes the loop does not go on
pub last_goes_not : (f : Frame) (d : Behaviour) (xs : List Action) → AlwaysClosesLoop d → Performs d xs → MatchesFrame f xs
    → 0 < length f.nodes → ContinuesLoop f.status f.nodes → ⊥
last_goes_not f d xs l p t some c =
    let q = closes_alone d xs l p in
    let n : f.nodes ++ pending_nodes f.status ≡ column_of [] = sym t.nodes ∙ ap (λ ns. node_of Zero (pos 0) ∷ ns) q.0 in
    by f.status (sym t.end) (length-append f.nodes (pending_nodes f.status)) (ap length n) c q.1
  where
    by : (w : Status) → end_of_status w ≡ trace_end xs → length (f.nodes ++ pending_nodes w) ≡ length f.nodes + length (pending_nodes w)
        → length (f.nodes ++ pending_nodes w) ≡ 1 → ContinuesLoop w f.nodes
        → ((e : ColumnEnd) → trace_end xs ≡ Some e → closes_at_once e ≡ true) → ⊥
    by Running e a b c z = omega (arith, a, b, c)
    by (Pending k m) e a b c z = omega (arith, a, b, some)
    by (Completed x) e a b c z = let w = c (z x (sym e)) in omega (arith, a, b, w)

-- the rows with the same room
pub rows_alike : {M : Type 0} → (n s : ℕ) → spare_rows {M = M} (replicate n s) ≡ replicate n (empty_row s)
rows_alike zero s = refl
rows_alike (suc n) s = ap (λ l. empty_row s ∷ l) (rows_alike n s)

-- the row that is made is the last
pub row_made : {M : Type 0} → (old new : List ℕ) (n : ℕ) → old ≡ new ++ n ∷ [] → spare_rows {M = M} old ≡ spare_rows new ++ empty_row n ∷ []
row_made old new n e = ap spare_rows e ∙ map-append empty_row new (n ∷ [])

-- and it stays the last while its instance 0 gets its place
pub row_placed : {M : Type 0} → (old new placed : PlaceTable) (n at : ℕ) (z : ℤ) (m : Marks) → placed ≡ with_place at z m new
    → old.spare ≡ new.spare ++ n ∷ [] → spare_rows {M = M} old.spare ≡ spare_rows placed.spare ++ empty_row n ∷ []
row_placed old new placed n at z m p e = row_made old.spare placed.spare n (e ∙ ap (λ (q : PlaceTable). q.spare ++ n ∷ []) (sym p))

-- the rooms with a spare row taken into use
module _ {M : Type 0} (rows spare : List (IterationRow M)) (row y : IterationRow M) (same : y.room ≡ row.room) where
  turned : reverse (spare ++ row ∷ []) ≡ row ∷ reverse spare
  turned = reverse-append spare (row ∷ [])

  pub rooms_pop : rooms_of (rows ++ y ∷ []) spare ≡ rooms_of rows (spare ++ row ∷ [])
  rooms_pop =
      let f : IterationRow M → ℕ = λ r. r.room in
      ap (map f) (append_assoc rows (y ∷ []) (reverse spare))
      ∙ (map-append f rows (y ∷ reverse spare)
      ∙ (ap (λ n. map f rows ++ n ∷ map f (reverse spare)) same
      ∙ (sym (map-append f rows (row ∷ reverse spare))
      ∙ ap (λ l. map f (rows ++ l)) (sym turned))))

  pub room_in_pop : room_in (rows ++ y ∷ []) spare ≡ room_in rows (spare ++ row ∷ [])
  room_in_pop =
      let a = total_append (λ (r : IterationRow M). r.room) rows (y ∷ []) in
      let b : total (λ (r : IterationRow M). r.room) (reverse (spare ++ row ∷ [])) ≡ row.room + total (λ (r : IterationRow M). r.room)
      (reverse spare) = ap (total (λ (r : IterationRow M). r.room)) turned in
      omega (arith, a, b, same)

  pub fresh_pop : All IsFresh (spare ++ row ∷ []) → All IsFresh spare × IsFresh row
  fresh_pop h = All-pop IsFresh (spare ++ row ∷ []) spare (Some row) refl h

  pub sized_pop : (p : Pipeline) (down right log : ℕ) → IsSized p rows (spare ++ row ∷ []) down right log
      → IsSized p (rows ++ y ∷ []) spare down right log
  sized_pop p down right log h = record {
    planned = subst (IsPlanned p) (sym rooms_pop) h.planned;
    fresh = (fresh_pop h.fresh).0;
    bounded = (let a = h.bounded in let t = room_in_pop in omega (arith, a, t));
    down_room = (let a = h.down_room in let t = room_in_pop in omega (arith, a, t));
    right_room = (let a = h.right_room in let t = room_in_pop in omega (arith, a, t));
    log_room = (let a = h.log_room in let t = room_in_pop in omega (arith, a, t));
  }

  -- it has room
  pub room_of_spare : (p : Pipeline) → IsPlanned p (rooms_of rows (spare ++ row ∷ [])) → 0 < row.room
  room_of_spare p h =
      let f : IterationRow M → ℕ = λ r. r.room in
      let e : rooms_of rows (spare ++ row ∷ []) ≡ map f rows ++ row.room ∷ map f (reverse spare) = ap (λ l. map f (rows ++ l)) turned
      ∙ map-append f rows (row ∷ reverse spare) in
      let n : length (map f rows) ≡ length rows = length-map rows f in
      let wide : length (rooms_of rows (spare ++ row ∷ [])) ≡ length (map f rows) + length (row.room ∷ map f (reverse spare)) = ap length e
      ∙ length-append (map f rows) (row.room ∷ map f (reverse spare)) in
      let l : length rows < length (rooms_of rows (spare ++ row ∷ [])) = omega (arith, wide, n) in
      let q = h.room (length rows) l in
      let here : get_or (rooms_of rows (spare ++ row ∷ [])) (length rows) 0 ≡ row.room = ap₂ (λ k i. get_or k i 0) e (sym n)
      ∙ get_or-append_seam (map f rows) row.room (map f (reverse spare)) 0 in
      let z = q.1 in
      omega (arith, here, z)

-- there are not many rows
pub few_rows : {M : Type 0} → (p : Pipeline) (rows spare : List (IterationRow M)) (down right log : ℕ)
    → IsSized p rows spare down right log → length rows + length spare ≤ room_in rows spare
few_rows p rows spare down right log h =
    let f : IterationRow _ → ℕ = λ r. r.room in
    let a = few_of_total f (rows ++ reverse spare) (λ i l. (
    let w : length (rooms_of rows spare) ≡ length (rows ++ reverse spare) = length-map (rows ++ reverse spare) f in
    let q = h.planned.room i (omega (arith, l, w)) in
    let z = q.1 in
    omega (arith, z))) in
    let b = total_append f rows (reverse spare) in
    let c = length-append rows (reverse spare) in
    let d = length-reverse spare in
    omega (arith, a, b, c, d)

-- the spare rows have room
pub spare_room : {M : Type 0} → (p : Pipeline) (rows spare : List (IterationRow M)) (down right log : ℕ)
    → IsSized p rows spare down right log → length spare ≤ total (λ (r : IterationRow M). r.room) (reverse spare)
spare_room p rows spare down right log h =
    let f : IterationRow _ → ℕ = λ r. r.room in
    let w : length (rooms_of rows spare) ≡ length (rows ++ reverse spare) = length-map (rows ++ reverse spare) f in
    let c = length-append rows (reverse spare) in
    let d = length-reverse spare in
    let a = few_of_total f (reverse spare) (λ i l. (
    let q = h.planned.room (length rows + i) (omega (arith, l, w, c)) in
    let here : get_or (rooms_of rows spare) (length rows + i) 0 ≡ get_or (map f (reverse spare)) i 0 =
    ap₂ (λ k n. get_or k n 0) (map-append f rows (reverse spare)) (ap (λ z. z + i) (sym (length-map rows f)))
    ∙ get_or-append-add (map f rows) (map f (reverse spare)) i 0 in
    let z = q.1 in
    omega (arith, z, here))) in
    omega (arith, a, d)

-- if no spare row is left, the last iteration has begun, after which the loop does not go on
pub spare_left : {M : Type 0} → (p : Pipeline) (rows spare : List (IterationRow M)) (fs : List Frame) (down right log : ℕ)
    (acts : ℕ → List Action) → IsSized p rows spare down right log → length fs ≡ length rows
    → ((i : ℕ) → Performs (p.behaviour i) (acts i)) → ((i : ℕ) (f : Frame) → frame_at fs i ≡ Some f → MatchesFrame f (acts i))
    → ((i : ℕ) (f : Frame) → frame_at fs i ≡ Some f → 0 < length f.nodes)
    → ((j : ℕ) (f : Frame) → length fs ≡ suc j → frame_at fs j ≡ Some f → ContinuesLoop f.status f.nodes) → length spare ≡ 0 → ⊥
spare_left p rows spare fs down right log acts h same performs matches filled follows none =
    let f : IterationRow _ → ℕ = λ r. r.room in
    let w : length (rooms_of rows spare) ≡ length (rows ++ reverse spare) = length-map (rows ++ reverse spare) f in
    let c = length-append rows (reverse spare) in
    let d = length-reverse spare in
    let r = h.planned.rows in
    let n : length fs ≡ suc p.last_iteration = omega (arith, w, c, d, r, none, same) in
    let it = frame_at_exists fs p.last_iteration (omega (arith, n)) in
    last_goes_not it.0 (p.behaviour p.last_iteration) (acts p.last_iteration) h.planned.proper.closes (performs p.last_iteration)
    (matches p.last_iteration it.0 it.1) (filled p.last_iteration it.0 it.1) (follows p.last_iteration it.0 n it.1)
