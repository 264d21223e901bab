-- The columns after an event extend those before.
use Rattle.std.proofs.Common.{List, ℕ, ◌≡◌, ◌≢◌, refl, [], zero, ◌∷◌, suc, ap, Some, length, ◌+◌, ◌<◌, arith, inl, inr, subst, sym, ◌≤◌}
use Rattle.std.proofs.Common.{◌++◌}
use Rattle.std.proofs.lemmas.Bool.{cases_eq}
use Rattle.std.proofs.lemmas.Int.{ints}
use Rattle.pipe_model.specs.Races.Columns.{nodes_at, node_at}
use Rattle.pipe_model.specs.Runs.State.{Frame, update_frame, frame_at}
use Rattle.pipe_model.specs.declared.node.Node.{Node}
use Rattle.run_laws.proofs.RunStates.FrameMoves.{IsSound, IsMove}
use Rattle.run_laws.proofs.RunStates.Frames.{nodes_at_frame, frame_at_updated, frame_at_within, frame_at_exists, nodes_at_past}
use Rattle.run_laws.proofs.RunStates.LaterEdges.{columns_of_frames, ExtendsColumns}
use Rattle.run_laws.proofs.RunStates.RunningInstances.{frame_of_node, awaited_is_passed}
use Rattle.pipe_model.specs.declared.status.Status.{Status}
use Rattle.pipe_model.specs.Runs.State.{with_action}
use Rattle.pipe_model.specs.Pipelines.Behaviour.{Action}

-- an update changes no other column
pub nodes_at_other : (fs : List Frame) (i j : ℕ) (u : Frame → Frame) → j ≢ i
    → nodes_at (columns_of_frames (update_frame fs i u)) j ≡ nodes_at (columns_of_frames fs) j
nodes_at_other [] i j u n = refl
nodes_at_other (x ∷ fs) zero zero u n = absurd (n refl)
nodes_at_other (x ∷ fs) zero (suc j) u n = refl
nodes_at_other (x ∷ fs) (suc i) zero u n = refl
nodes_at_other (x ∷ fs) (suc i) (suc j) u n = nodes_at_other fs i j u (λ e. n (ap (λ k. suc k) e))

-- the column of the updated frame
pub nodes_at_moved : (fs : List Frame) (i : ℕ) (f : Frame) (u : Frame → Frame) → frame_at fs i ≡ Some f
    → nodes_at (columns_of_frames (update_frame fs i u)) i ≡ (u f).nodes
nodes_at_moved fs i f u e = nodes_at_frame (update_frame fs i u) i (u f) (frame_at_updated fs i f u e)

-- if a column has begun, so has the column to its left
pub left_column_begun : (fs : List Frame) (i : ℕ) → IsSound fs → 0 < length (nodes_at (columns_of_frames fs) (i + 1))
    → 0 < length (nodes_at (columns_of_frames fs) i)
left_column_begun fs i s l =
    let g = frame_of_node fs (i + 1) 0 l in
    let w = frame_at_within fs (i + 1) g.0 g.1 in
    let f = frame_at_exists fs i (omega (arith, w)) in
    let filled = (s.well i f.0 f.1).filled in
    rw (nodes_at_frame fs i f.0 f.1) filled

-- an event of one iteration extends the columns
pub extends_moved : (fs : List Frame) (i : ℕ) (f : Frame) (u : Frame → Frame) → IsSound fs → frame_at fs i ≡ Some f
    → IsMove fs i f (u f) → ExtendsColumns (columns_of_frames fs) (columns_of_frames (update_frame fs i u))
extends_moved fs i f u s e m =
    let before : nodes_at (columns_of_frames fs) i ≡ f.nodes = nodes_at_frame fs i f e in
    let now : nodes_at (columns_of_frames (update_frame fs i u)) i ≡ (u f).nodes = nodes_at_moved fs i f u e in
    record {
      longer = λ j. elim (cases_eq j i) [
        | inl same ↦ rw (same, before, now) m.longer
        | inr other ↦ (let h = ap (λ (x : List Node). length x) (nodes_at_other fs i j u other) in omega (arith, h))
      ];
      same = λ j k l. elim (cases_eq j i) [
        | inl same ↦ (
            let l' : k < length f.nodes =
            subst (λ (x : List Node). k < length x) before
            (subst (λ n. k < length (nodes_at (columns_of_frames fs) n)) same l) in
            rw (same, before, now) (m.same k l'))
        | inr other ↦ ap (λ x. node_at x k) (nodes_at_other fs i j u other)
      ];
      began = λ j. left_column_begun fs j s;
      beyond = λ j a k past inside l kind. elim (cases_eq j i) [
        | inl same ↦ (
            let is : frame_at fs j ≡ Some f = subst (λ n. frame_at fs n ≡ Some f) (sym same) e in
            let passed = awaited_is_passed fs j k f s is l kind in
            let p : length f.nodes ≤ a =
            subst (λ (x : List Node). length x ≤ a) before
            (subst (λ n. length (nodes_at (columns_of_frames fs) n) ≤ a) same past) in
            let w : a < length (u f).nodes =
            subst (λ (x : List Node). a < length x) now
            (subst (λ n. a < length (nodes_at (columns_of_frames (update_frame fs i u)) n)) same inside) in
            let up = m.beyond a p w (node_at (nodes_at (columns_of_frames fs) (j + 1)) k).number passed in
            let there : (node_at (nodes_at (columns_of_frames (update_frame fs i u)) j) a).number
            ≡ (node_at (u f).nodes a).number = rw (same, now) refl in
            omega (arith, ints, up, there))
        | inr other ↦ (
            let h = ap (λ (x : List Node). length x) (nodes_at_other fs i j u other) in
            absurd (omega (arith, h, past, inside)))
      ];
    }

-- the beginning of an iteration changes no other column
pub nodes_at_begun : (fs : List Frame) (x : Frame) (j : ℕ) → j ≢ length fs
    → nodes_at (columns_of_frames (fs ++ x ∷ [])) j ≡ nodes_at (columns_of_frames fs) j
nodes_at_begun [] x zero n = absurd (n refl)
nodes_at_begun [] x (suc j) n = refl
nodes_at_begun (f ∷ fs) x zero n = refl
nodes_at_begun (f ∷ fs) x (suc j) n = nodes_at_begun fs x j (λ e. n (ap (λ k. suc k) e))

-- the beginning of an iteration extends the columns
pub extends_begun : (fs : List Frame) (x : Frame) → IsSound fs
    → ExtendsColumns (columns_of_frames fs) (columns_of_frames (fs ++ x ∷ []))
extends_begun fs x s =
    let none : (j : ℕ) → length fs ≤ j → length (nodes_at (columns_of_frames fs) j) ≡ 0 =
    λ j l. ap (λ (y : List Node). length y) (nodes_at_past fs j (omega (arith, l))) in
    record {
      longer = λ j. elim (cases_eq j (length fs)) [
        | inl same ↦ (let h = none j (omega (arith, same)) in omega (arith, h))
        | inr other ↦ (let h = ap (λ (y : List Node). length y) (nodes_at_begun fs x j other) in omega (arith, h))
      ];
      same = λ j k l. elim (cases_eq j (length fs)) [
        | inl same ↦ (let h = none j (omega (arith, same)) in absurd (omega (arith, h, l)))
        | inr other ↦ ap (λ y. node_at y k) (nodes_at_begun fs x j other)
      ];
      began = λ j. left_column_begun fs j s;
      beyond = λ j a k past inside l kind. elim (cases_eq j (length fs)) [
        | inl same ↦ (let h = none (j + 1) (omega (arith, same)) in absurd (omega (arith, h, l)))
        | inr other ↦ (
            let h = ap (λ (y : List Node). length y) (nodes_at_begun fs x j other) in
            absurd (omega (arith, h, past, inside)))
      ];
    }

-- an action changes no columns
pub columns-action : (fs : List Frame) (i : ℕ) (x : Action) (w : Status)
    → columns_of_frames (update_frame fs i (with_action x w)) ≡ columns_of_frames fs
columns-action [] i x w = refl
columns-action (g ∷ fs) zero x w = refl
columns-action (g ∷ fs) (suc i) x w = ap (λ l. g.nodes ∷ l) (columns-action fs i x w)
