-- What the entering of a stage needs of rows.
use Rattle.std.proofs.Common.{◌≡◌, ℕ, ℤ, zero, suc, pos, ◌-◌, ◌*◌, ◌<◌, ◌≤◌, ◌≤ℤ◌, List, [], ◌∷◌, ◌++◌, length, map, set, get_or, refl, ap}
use Rattle.std.proofs.Common.{sym, ◌∙◌, arith, subst, Bool, Option, Some, None, inl, inr}
use Rattle.std.proofs.lemmas.Bool.{cases_eq}
use Rattle.std.proofs.lemmas.Int.{ints}
use Rattle.std.proofs.lemmas.List.{length-map}
use Rattle.order_2d.specs.OrderPairs.{down_taken, right_taken}
use Rattle.pipe_model.specs.declared.node.Kind.{Kind}
use Rattle.pipe_model.specs.declared.node.Node.{Node}
use Rattle.pipe_model.specs.declared.node.NodeId.{NodeId}
use Rattle.pipe_model.specs.Pipelines.Behaviour.{Action, Accessed, Staged, Ended, Behaviour, Reading, Writing, Staging, Ending, Performs}
use Rattle.pipe_model.specs.Pipelines.Behaviour.{nodes_in, column_of}
use Rattle.pipe_model.specs.Races.Columns.{node_at}
use Rattle.pipe_model.specs.Orders.OrderMarks.{instance_marks}
use Rattle.pipe_model.specs.Orders.Starts.{start_number}
use Rattle.pipe_model.specs.Runs.State.{Frame, frame_at, update_frame}
use Rattle.pipe_model.specs.declared.status.Status.TheVariants.{Pending}
use Rattle.run_laws.proofs.RunStates.FrameMoves.{IsWell}
use Rattle.frame_rows.specs.RowsOfFrames.{AreRows, no_marks}
use Rattle.frame_book.specs.Rooms.{NamesAtMost}
use Rattle.frame_rows.specs.Totals.{total}
use Rattle.frame_book.specs.Invariant.{MatchesFrame, pending_nodes}
use Rattle.pipe_model.specs.Runs.Schedules.{running_in_frames, running_of_status}
use Rattle.frame_rows.specs.IterationRows.{IterationRow, row_at, marks_at, marks_of_row, numbers_of_row}
use Rattle.frame_book.proofs.StartedInstances.StartMarks.{parent_marks}

-- marks by the list of all
pub marks_at_map : {M : Type 0} → (rs : List (IterationRow M)) (i k : ℕ) → marks_at rs i k ≡ get_or
    (get_or (map (λ r. r.marks) rs) i []) k no_marks
marks_at_map [] i k = refl
marks_at_map (r ∷ rs) zero k = refl
marks_at_map (r ∷ rs) (suc i) k = marks_at_map rs i k

pub marks_row_map : {M : Type 0} → (rs : List (IterationRow M)) (i : ℕ) → marks_of_row (row_at rs i) ≡ get_or (map (λ r. r.marks) rs) i []
marks_row_map [] i = refl
marks_row_map (r ∷ rs) zero = refl
marks_row_map (r ∷ rs) (suc i) = marks_row_map rs i

pub numbers_row_map : {M : Type 0} → (rs : List (IterationRow M)) (i : ℕ) → numbers_of_row (row_at rs i) ≡ get_or
    (map (λ r. r.numbers) rs) i []
numbers_row_map [] i = refl
numbers_row_map (r ∷ rs) zero = refl
numbers_row_map (r ∷ rs) (suc i) = numbers_row_map rs i

-- after the end no stage is named
ending_names_few : (m : ℕ) (f : _) (xs : List Action) → Performs (Ending f) xs → length (nodes_in xs) ≤ m
ending_names_few m f [] p = omega arith
ending_names_few m f (Accessed a ∷ xs) p = absurd (let q : Accessed a ≡ Ended f = p.0 in cc)
ending_names_few m f (Staged j i ∷ xs) p = absurd (let q : Staged j i ≡ Ended f = p.0 in cc)
ending_names_few m f (Ended e ∷ xs) p = ending_names_few m f xs p.1

-- no more stages are named than may be
pub names_few : (m : ℕ) (d : Behaviour) (xs : List Action) → NamesAtMost m d → Performs d xs → length (nodes_in xs) ≤ m
names_few m d [] n p = omega arith
names_few m (Reading c go) (Accessed a ∷ xs) n p = names_few m (go a.value) xs (n a.value) p.1
names_few m (Writing c v d) (Accessed a ∷ xs) n p = names_few m d xs n p.1
names_few m (Staging k q d) (Accessed a ∷ xs) n p = absurd (let z : Accessed a ≡ Staged k q = p.0 in cc)
names_few m (Ending f) (Accessed a ∷ xs) n p = absurd (let q : Accessed a ≡ Ended f = p.0 in cc)
names_few m (Reading c go) (Staged j i ∷ xs) n p = absurd (let q = p.0.1 in cc)
names_few m (Writing c v d) (Staged j i ∷ xs) n p = absurd (let q = p.0 in cc)
names_few m (Staging k q d) (Staged j i ∷ xs) n p = let h = names_few n.0 d xs n.2 p.1 in let e = n.1 in omega (arith, h, e)
names_few m (Ending f) (Staged j i ∷ xs) n p = absurd (let q : Staged j i ≡ Ended f = p.0 in cc)
names_few m (Reading c go) (Ended e ∷ xs) n p = absurd (let q = p.0.1 in cc)
names_few m (Writing c v d) (Ended e ∷ xs) n p = absurd (let q = p.0 in cc)
names_few m (Staging k q d) (Ended e ∷ xs) n p = absurd (let z : Ended e ≡ Staged k q = p.0 in cc)
names_few m (Ending f) (Ended e ∷ xs) n p = ending_names_few m f xs p.1

-- one row has room for more, so there is more room in all
pub rows_fit_more : {M : Type 0} → (going : Bool) (fs : List Frame) (rs : List (IterationRow M)) (i : ℕ) (r : IterationRow M)
    → AreRows going fs rs → row_at rs i ≡ Some r → length r.numbers < r.room → total (λ r. length r.numbers) rs < total (λ r. r.room) rs
rows_fit_more going [] [] i r h e l = absurd (cc)
rows_fit_more going [] (x ∷ rs) i r h e l = absurd h
rows_fit_more going (f ∷ fs) [] i r h e l = absurd h
rows_fit_more going (f ∷ fs) (x ∷ rs) zero r h e l =
    let s : x ≡ r = cc in
    let l' : length x.numbers < x.room = subst (λ (z : IterationRow _). length z.numbers < z.room) (sym s) l in
    let a = Rattle.frame_rows.proofs.Totals.rows_fit going fs rs h.1 in
    omega (arith, a, l')
rows_fit_more going (f ∷ fs) (x ∷ rs) (suc i) r h e l =
    let a = rows_fit_more going fs rs i r h.1 e l in
    let b : length x.numbers ≡ length f.nodes = ap length h.0.numbers ∙ length-map f.nodes (λ n. n.number) in
    let c = h.0.fits in
    omega (arith, a, b, c)

-- one row is in the sum
pub total_at : {X : Type 0} → (m : IterationRow X → ℕ) (rs : List (IterationRow X)) (i : ℕ) (r : IterationRow X) → row_at rs i ≡ Some r
    → m r ≤ total m rs
total_at m [] i r e = absurd (cc)
total_at m (x ∷ rs) zero r e = let s : m x ≡ m r = ap m (let z : x ≡ r = cc in z) in omega (arith, s)
total_at m (x ∷ rs) (suc i) r e = let h = total_at m rs i r e in omega (arith, h)

-- a measure of one row rises
pub total_set_more : {M : Type 0} → (m : IterationRow M → ℕ) (rs : List (IterationRow M)) (i : ℕ) (r y : IterationRow M)
    → row_at rs i ≡ Some r → m y ≡ suc (m r) → total m (set rs i y) ≡ suc (total m rs)
total_set_more m [] i r y e q = absurd (cc)
total_set_more m (x ∷ rs) zero r y e q = let s : m x ≡ m r = ap m (let z : x ≡ r = cc in z) in omega (arith, s, q)
total_set_more m (x ∷ rs) (suc i) r y e q = let h = total_set_more m rs i r y e q in omega (arith, h)

-- one running instance more
pub running_more : (fs : List Frame) (i : ℕ) (f : Frame) (u : Frame → Frame) → frame_at fs i ≡ Some f → running_of_status f.status ≡ 0
    → running_of_status (u f).status ≡ 1 → running_in_frames (update_frame fs i u) ≡ suc (running_in_frames fs)
running_more [] i f u e a b = absurd (cc)
running_more (x ∷ fs) zero f u e a b =
    let s : x ≡ f = cc in
    let a' : running_of_status x.status ≡ 0 = ap (λ (y : Frame). running_of_status y.status) s ∙ a in
    let b' : running_of_status (u x).status ≡ 1 = ap (λ (y : Frame). running_of_status (u y).status) s ∙ b in
    omega (arith, a', b')
running_more (x ∷ fs) (suc i) f u e a b = let h = running_more fs i f u e a b in omega (arith, h)

-- the first instance has number 0
pub first_is_zero : (f : Frame) (xs : List Action) → MatchesFrame f xs → 0 < length f.nodes → (node_at f.nodes 0).number ≡ pos 0
first_is_zero f xs t l = by f.nodes l t.nodes
  where
    by : (ns : List Node) → 0 < length ns → column_of xs ≡ ns ++ pending_nodes f.status → (node_at ns 0).number ≡ pos 0
    by [] l e = absurd (omega (arith, l))
    by (n ∷ ns) l e = sym (ap (λ zs. (node_at zs 0).number) e)

-- the number that is named is above 0
pub named_above : (f : Frame) (xs : List Action) (k : Kind) (n : ℤ) → IsWell f → MatchesFrame f xs → f.status ≡ Pending k n → pos 0 ≤ℤ n
named_above f xs k n w t e =
    let up = w.above k n e in
    let z = first_is_zero f xs t w.filled in
    let some = w.filled in
    elim (cases_eq (length f.nodes) 1) [
      | inl one ↦ (
          let p : length f.nodes - 1 ≡ 0 = omega (arith, one) in
          let q : (node_at f.nodes (length f.nodes - 1)).number ≡ (node_at f.nodes 0).number = ap (λ i. (node_at f.nodes i).number) p in
          omega (arith, ints, up, q, z))
      | inr more ↦ (
          let rises = w.rising.rises 0 (length f.nodes - 1) (omega (arith, some, more)) (omega (arith, some)) in
          omega (arith, ints, up, rises, z))
    ]

-- the instance and its left parent have started, so their placeholders are in the lists
pub taken_below : (columns : List (List Node)) (starts : List NodeId) (i k : ℕ) (left : Option ℕ) → start_number starts i k < length starts
    → ((a j : ℕ) → i ≡ suc a → left ≡ Some j → start_number starts a j < length starts)
    → (down_taken (Some (instance_marks columns starts i k)) (parent_marks columns starts i left) ≤ 2 * length starts)
    × (right_taken (Some (instance_marks columns starts i k)) (parent_marks columns starts i left) ≤ 2 * length starts)
taken_below columns starts i k None l h = (omega (arith, l), omega (arith, l))
taken_below columns starts zero k (Some j) l h = (omega (arith, l), omega (arith, l))
taken_below columns starts (suc a) k (Some j) l h = let w = h a j refl refl in (omega (arith, l), omega (arith, w))
