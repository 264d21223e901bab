-- No path leaves an instance that runs, so it is parallel to all in columns to its right.
use Rattle.std.proofs.Common.{List, ℕ, length, Some, ◌≡◌, ◌<◌, inl, inr, subst, arith, ◌+◌, suc, zero, ◌≤ℤ◌, ◌-◌, ◌<ℤ◌, ap}
use Rattle.std.proofs.lemmas.Bool.{cases_lt}
use Rattle.std.proofs.lemmas.Int.{ints}
use Rattle.pipe_model.specs.Runs.Allowed.{HasPassed, ContinuesLoop}
use Rattle.pipe_model.specs.Races.Columns.{nodes_at, node_at}
use Rattle.pipe_model.specs.Races.Dag.{Edge, DownEdge, AcrossEdge, HeadCross, WaitCross, Precedes, ByEdge, ByPath, AreParallel}
use Rattle.pipe_model.specs.declared.status.Status.TheVariants.{Running}
use Rattle.pipe_model.specs.Runs.State.{Frame, frame_at}
use Rattle.pipe_model.specs.declared.node.Kind.TheVariants.{Wait}
use Rattle.pipe_model.specs.declared.node.Node.{Node}
use Rattle.pipe_model.specs.declared.node.NodeId.{NodeId}
use Rattle.run_laws.proofs.RunStates.FrameMoves.{IsSound}
use Rattle.run_laws.proofs.RunStates.Frames.{frame_at_exists, nodes_at_past, nodes_at_frame, frame_at_within}
use Rattle.run_laws.proofs.RunStates.LaterEdges.{columns_of_frames, paths_lead_right}

-- each instance is in a frame
pub frame_of_node : (fs : List Frame) (i k : ℕ) → k < length (nodes_at (columns_of_frames fs) i)
    → (f : Frame) × (frame_at fs i ≡ Some f)
frame_of_node fs i k l = elim (cases_lt i (length fs)) [
  | inl less ↦ frame_at_exists fs i less
  | inr past ↦ (
      let none : k < 0 = subst (λ (x : List Node). k < length x) (nodes_at_past fs i (omega (arith, past))) l in
      absurd (omega (arith, none)))
]

-- a stage that an instance of the next column waits for has been passed
pub awaited_is_passed : (fs : List Frame) (i k : ℕ) (f : Frame) → IsSound fs → frame_at fs i ≡ Some f
    → k < length (nodes_at (columns_of_frames fs) (i + 1))
    → (node_at (nodes_at (columns_of_frames fs) (i + 1)) k).kind ≡ Wait
    → HasPassed f.status f.nodes (node_at (nodes_at (columns_of_frames fs) (i + 1)) k).number
awaited_is_passed fs i k f s is inside kind =
    let g = frame_of_node fs (i + 1) k inside in
    let e : i + 1 ≡ suc i = omega arith in
    let next : frame_at fs (suc i) ≡ Some g.0 = subst (λ n. frame_at fs n ≡ Some g.0) e g.1 in
    let nodes : nodes_at (columns_of_frames fs) (i + 1) ≡ g.0.nodes = nodes_at_frame fs (i + 1) g.0 g.1 in
    let l : k < length g.0.nodes = subst (λ (x : List Node). k < length x) nodes inside in
    let w : (node_at g.0.nodes k).kind ≡ Wait = subst (λ x. (node_at x k).kind ≡ Wait) nodes kind in
    rw nodes (s.waits i f g.0 is next k l w)

-- no edge leaves an instance that runs
running_has_no_edge : (fs : List Frame) (f : Frame) (x y : NodeId) → IsSound fs → frame_at fs x.iteration ≡ Some f
    → f.status ≡ Running → x.index + 1 ≡ length f.nodes → Edge (columns_of_frames fs) x y → ⊥
running_has_no_edge fs f x y s is runs last (DownEdge i k h) =
    let same : nodes_at (columns_of_frames fs) i ≡ f.nodes = nodes_at_frame fs i f is in
    let far : k + 1 < length f.nodes = subst (λ (n : List Node). k + 1 < length n) same h in
    let l : k + 1 ≡ length f.nodes = last in
    omega (arith, far, l)
running_has_no_edge fs f x y s is runs last (AcrossEdge i zero zero (HeadCross a b)) =
    let g = frame_of_node fs (i + 1) 0 b in
    let far = s.goes i f is (frame_at_within fs (i + 1) g.0 g.1) in
    let more : 1 < length f.nodes = subst (λ w. ContinuesLoop w f.nodes) runs far in
    let l : 0 + 1 ≡ length f.nodes = last in
    omega (arith, more, l)
running_has_no_edge fs f x y s is runs last (AcrossEdge i j k (WaitCross j' k' inside kind up)) =
    let same : nodes_at (columns_of_frames fs) i ≡ f.nodes = nodes_at_frame fs i f is in
    let far = subst (λ w. HasPassed w f.nodes (node_at (nodes_at (columns_of_frames fs) (i + 1)) k).number) runs
    (awaited_is_passed fs i k f s is inside kind) in
    let most : (node_at f.nodes j).number ≤ℤ (node_at (nodes_at (columns_of_frames fs) (i + 1)) k).number =
    subst (λ (n : List Node). (node_at n j).number ≤ℤ (node_at (nodes_at (columns_of_frames fs) (i + 1)) k).number)
    same up.up_to in
    let e : length f.nodes - 1 ≡ j = (let l : j + 1 ≡ length f.nodes = last in omega (arith, l)) in
    let here = subst (λ m. (node_at (nodes_at (columns_of_frames fs) (i + 1)) k).number <ℤ (node_at f.nodes m).number)
    e far in
    omega (arith, ints, here, most)

-- no path leaves an instance that runs
pub running_has_no_path : (fs : List Frame) (f : Frame) (x y : NodeId) → IsSound fs → frame_at fs x.iteration ≡ Some f
    → f.status ≡ Running → x.index + 1 ≡ length f.nodes → Precedes (columns_of_frames fs) x y → ⊥
running_has_no_path fs f x y s is runs last (ByEdge e) = running_has_no_edge fs f x y s is runs last e
running_has_no_path fs f x y s is runs last (ByPath {y = m} p e) = running_has_no_path fs f x m s is runs last p

-- an instance that runs is parallel to all in columns further to the right
pub running_is_parallel : (fs : List Frame) (f : Frame) (x y : NodeId) → IsSound fs → frame_at fs x.iteration ≡ Some f
    → f.status ≡ Running → x.index + 1 ≡ length f.nodes → x.iteration < y.iteration
    → AreParallel (columns_of_frames fs) x y
running_is_parallel fs f x y s is runs last l = record {
  apart = λ e. (let same = ap (λ (n : NodeId). n.iteration) e in omega (arith, same, l));
  not_before = λ p. running_has_no_path fs f x y s is runs last p;
  not_after = λ p. (let r = paths_lead_right (columns_of_frames fs) y x p in omega (arith, r, l));
}
