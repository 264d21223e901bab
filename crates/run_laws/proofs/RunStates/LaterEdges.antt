-- No path leads from what is added to the columns to what was there before: edges, paths and races stay as they were.
use Rattle.std.proofs.Common.{List, map, length, ◌<◌, ℕ, ◌≤◌, ◌≡◌, ◌+◌, ◌<ℤ◌, zero, subst, ap, inl, inr, arith}
use Rattle.std.proofs.lemmas.Bool.{cases_lt}
use Rattle.std.proofs.lemmas.Int.{ints}
use Rattle.pipe_model.specs.Races.Columns.{nodes_at, node_at, at}
use Rattle.pipe_model.specs.Races.Dag.{Edge, CrossEdge, HeadCross, AcrossEdge, WaitCross, DownEdge, Precedes, ByEdge, ByPath}
use Rattle.pipe_model.specs.Races.DeterminacyRaces.{Among, IsRaceFree}
use Rattle.pipe_model.specs.Runs.State.{Frame}
use Rattle.pipe_model.specs.declared.access.NodeAccess.{NodeAccess}
use Rattle.pipe_model.specs.declared.node.Kind.TheVariants.{Wait}
use Rattle.pipe_model.specs.declared.node.Node.{Node}
use Rattle.pipe_model.specs.declared.node.NodeId.{NodeId}

-- the columns of the frames
abbrev pub columns_of_frames : List Frame → List (List Node)
columns_of_frames fs = map (λ f. f.nodes) fs

-- the columns have the instance
abbrev pub HasInstance : List (List Node) → NodeId → Type 0
HasInstance columns x = x.index < length (nodes_at columns x.iteration)

-- later columns: the numbers of new instances are greater than all that is waited for
pub record ExtendsColumns (columns more : List (List Node)) : Type 0 where
  pub longer : (i : ℕ) → length (nodes_at columns i) ≤ length (nodes_at more i)
  pub same : (i k : ℕ) → k < length (nodes_at columns i)
      → node_at (nodes_at more i) k ≡ node_at (nodes_at columns i) k
  pub began : (i : ℕ) → 0 < length (nodes_at columns (i + 1)) → 0 < length (nodes_at columns i)
  pub beyond : (i j k : ℕ) → length (nodes_at columns i) ≤ j → j < length (nodes_at more i)
      → k < length (nodes_at columns (i + 1))
      → (node_at (nodes_at columns (i + 1)) k).kind ≡ Wait
      → (node_at (nodes_at columns (i + 1)) k).number <ℤ (node_at (nodes_at more i) j).number

-- an edge, with its source, that was in the columns before
pub record IsOldEdge (columns : List (List Node)) (x y : NodeId) : Type 0 where
  pub old : HasInstance columns x
  pub edge : Edge columns x y

-- an edge across to an old instance is an old one
old_crossing : (columns more : List (List Node)) (i j k : ℕ) → ExtendsColumns columns more
    → CrossEdge (nodes_at more i) (nodes_at more (i + 1)) j k → k < length (nodes_at columns (i + 1))
    → IsOldEdge columns (at i j) (at (i + 1) k)
old_crossing columns more i zero zero x (HeadCross a b) l =
    record { old = x.began i l; edge = AcrossEdge i 0 0 (HeadCross (x.began i l) l) }
old_crossing columns more i j k x (WaitCross j' k' inside kind last) l =
    let same = x.same (i + 1) k l in
    let waits : (node_at (nodes_at columns (i + 1)) k).kind ≡ Wait = subst (λ (n : Node). n.kind ≡ Wait) same kind in
    let number = ap (λ (n : Node). n.number) same in
    let within : j < length (nodes_at columns i) = elim (cases_lt j (length (nodes_at columns i))) [
      | inl less ↦ less
      | inr past ↦ (
          let up = x.beyond i j k past last.within l waits in
          let most = last.up_to in
          absurd (omega (arith, ints, up, most, number)))
    ] in
    let left = ap (λ (n : Node). n.number) (x.same i j within) in
    record {
      old = within;
      edge = AcrossEdge i j k (WaitCross j k l waits (record {
        within = within;
        up_to = (let most = last.up_to in omega (arith, ints, most, number, left));
        last = λ m h w.
            let there = ap (λ (n : Node). n.number) (x.same i m w) in
            let long = x.longer i in
            let up = last.last m h (omega (arith, w, long)) in
            omega (arith, ints, up, number, there);
      }));
    }

-- an edge to an old instance is an old one
pub old_edge : (columns more : List (List Node)) (x y : NodeId) → ExtendsColumns columns more → Edge more x y
    → HasInstance columns y → IsOldEdge columns x y
old_edge columns more x y e (DownEdge i k h) l = record {
  old = (
      let w : k + 1 < length (nodes_at columns i) = l in
      omega (arith, w));
  edge = DownEdge i k l;
}
old_edge columns more x y e (AcrossEdge i j k c) l = old_crossing columns more i j k e c l

-- a path, with its source, that was in the columns before
pub record IsOldPath (columns : List (List Node)) (x y : NodeId) : Type 0 where
  pub old : HasInstance columns x
  pub path : Precedes columns x y

-- a path to an old instance is an old one
pub old_path : (columns more : List (List Node)) (x y : NodeId) → ExtendsColumns columns more → Precedes more x y
    → HasInstance columns y → IsOldPath columns x y
old_path columns more x y e (ByEdge edge) l =
    let w = old_edge columns more x y e edge l in
    record { old = w.old; path = ByEdge w.edge }
old_path columns more x y e (ByPath {y = m} p edge) l =
    let w = old_edge columns more m y e edge l in
    let h = old_path columns more x m e p w.old in
    record { old = h.old; path = ByPath h.path w.edge }

-- if the later columns have no race, the earlier ones have none
pub no_race_before : (columns more : List (List Node)) (accesses all : List NodeAccess) → ExtendsColumns columns more
    → ((a : NodeAccess) → Among a accesses → Among a all)
    → ((a : NodeAccess) → Among a accesses → HasInstance columns a.node)
    → IsRaceFree more all → IsRaceFree columns accesses
no_race_before columns more accesses all e wide old free = λ a b r. free a b (record {
  first = wide a r.first;
  second = wide b r.second;
  conflict = r.conflict;
  parallel = record {
    apart = r.parallel.apart;
    not_before = λ p. r.parallel.not_before (old_path columns more a.node b.node e p (old b r.second)).path;
    not_after = λ p. r.parallel.not_after (old_path columns more b.node a.node e p (old a r.first)).path;
  };
})

-- paths lead to the right
pub paths_lead_right : (columns : List (List Node)) (x y : NodeId) → Precedes columns x y → x.iteration ≤ y.iteration
paths_lead_right columns x y (ByEdge (DownEdge i k h)) = omega arith
paths_lead_right columns x y (ByEdge (AcrossEdge i j k c)) = omega arith
paths_lead_right columns x y (ByPath {y = m} p (DownEdge i k h)) = paths_lead_right columns x m p
paths_lead_right columns x y (ByPath {y = m} p (AcrossEdge i j k c)) =
    let h = paths_lead_right columns x m p in
    omega (arith, h)
