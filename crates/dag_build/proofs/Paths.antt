-- Which instances of a column an instance leads to: those at a least index and after it. How that index moves to the next column.
use Rattle.std.proofs.Common.{◌≡◌, ℕ, zero, suc, ◌+◌, ◌-◌, ◌<◌, ◌≤◌, List, length, inl, inr, refl, sym, ap, subst, arith}
use Rattle.std.proofs.lemmas.Bool.{cases_lt, cases_order}
use Rattle.pipe_model.specs.declared.node.Node.{Node}
use Rattle.pipe_model.specs.declared.node.NodeId.{NodeId}
use Rattle.pipe_model.specs.Races.Columns.{nodes_at, at}
use Rattle.pipe_model.specs.Races.Dag.{AreParallel, CrossEdge, Edge, DownEdge, AcrossEdge, Precedes, ByEdge, ByPath}
use Rattle.dag_landings.proofs.Crossings.{edge_begins_within}
use Rattle.dag_build.specs.AccessFronts.{LeadsTo, LeadsFrom}
use Rattle.dag_build.specs.Jumps.{MovesTo, Stays, Moves}
use Rattle.dag_landings.specs.Landings.{IsLanding}

-- in column i, x leads exactly to the instances at index m and after it
pub record ReachesFrom (columns : List (List Node)) (x : NodeId) (i m : ℕ) : Type 0 where
  pub leads : LeadsFrom columns x i m
  pub only : (k : ℕ) → LeadsTo columns x (at i k) → m ≤ k

one_more : (columns : List (List Node)) (x y z : NodeId) → LeadsTo columns x y → Edge columns y z → Precedes columns x z
one_more columns x y z h e = elim h [
  | inl same ↦ ByEdge (subst (λ w. Edge columns w z) (sym same) e)
  | inr p ↦ ByPath p e
]

-- y is after x in the column of x, or in a later column
pub record IsForward (x y : NodeId) : Type 0 where
  pub column : x.iteration ≤ y.iteration
  pub place : x.iteration ≡ y.iteration → x.index < y.index

-- an edge goes forward
forward_edge : {columns : List (List Node)} {x y : NodeId} → Edge columns x y → IsForward x y
forward_edge (DownEdge i k h) = record { column = omega arith; place = λ e. omega arith }
forward_edge (AcrossEdge i j k c) = record { column = omega arith; place = λ e. absurd (omega (arith, e)) }

-- two forward steps are one
forward_both : (x y z : NodeId) → IsForward x y → IsForward y z → IsForward x z
forward_both x y z f g =
    let a = f.column in
    let b = g.column in
    record {
      column = omega (arith, a, b);
      place = λ e. (
          let p = f.place (omega (arith, a, b, e)) in
          let q = g.place (omega (arith, a, b, e)) in
          omega (arith, p, q));
    }

-- a path goes forward
pub forward : {columns : List (List Node)} {x y : NodeId} → Precedes columns x y → IsForward x y
forward (ByEdge e) = forward_edge e
forward (ByPath {x} {y} {z} p e) = forward_both x y z (forward p) (forward_edge e)

-- an instance that leads to an index leads to the one d further down
down_by : (columns : List (List Node)) (x : NodeId) (i m : ℕ) → LeadsTo columns x (at i m) → (d : ℕ)
    → m + d < length (nodes_at columns i) → LeadsTo columns x (at i (m + d))
down_by columns x i m h zero l = subst (λ k. LeadsTo columns x (at i k)) (omega arith) h
down_by columns x i m h (suc d) l =
    subst (λ k. LeadsTo columns x (at i k)) (omega arith)
    (inr (one_more columns x (at i (m + d)) (at i (m + d + 1)) (down_by columns x i m h d (omega arith))
    (DownEdge i (m + d) (omega arith))))

-- an instance that leads to an index leads to all further down
down_from : (columns : List (List Node)) (x : NodeId) (i m : ℕ) → LeadsTo columns x (at i m) → LeadsFrom columns x i m
down_from columns x i m h = record {
  reached = λ k l w. subst (λ j. LeadsTo columns x (at i j)) (omega arith) (down_by columns x i m h (k - m) (omega arith));
}

-- an instance leads to itself and to all after it
pub leads_from_itself : (columns : List (List Node)) (i m : ℕ) → LeadsFrom columns (at i m) i m
leads_from_itself columns i m = down_from columns (at i m) i m (inl refl)

-- in its own column the front of an instance is its index
front_of_itself : (columns : List (List Node)) (i m : ℕ) → ReachesFrom columns (at i m) i m
front_of_itself columns i m = record {
  leads = leads_from_itself columns i m;
  only = λ k h. elim h [
    | inl e ↦ (let p : m ≡ k = ap (λ (n : NodeId). n.index) e in omega (arith, p))
    | inr p ↦ (let q = (forward p).place refl in omega (arith, q))
  ];
}

-- the least index to which x leads in the next column is the landing of the one in this column
leads_from_landing : (columns : List (List Node)) (x : NodeId) (i m landing : ℕ) → LeadsFrom columns x i m
    → IsLanding (nodes_at columns i) (nodes_at columns (i + 1)) m landing → LeadsFrom columns x (i + 1) landing
leads_from_landing columns x i m landing leads lands = record {
  reached = λ k l w. (
      let c = lands.crossed (omega (arith, l, w)) in
      let first : LeadsTo columns x (at (i + 1) landing) =
      inr (one_more columns x (at i c.0) (at (i + 1) landing) (leads.reached c.0 c.1 (edge_begins_within c.2))
      (AcrossEdge i c.0 landing c.2)) in
      (down_from columns x (i + 1) landing first).reached k l w);
}

-- the same for a later column: the least index there is the one to which the index moves
pub leads_moved : (columns : List (List Node)) (x : NodeId) {i m t place : ℕ} → LeadsFrom columns x i m
    → MovesTo columns i m t place → LeadsFrom columns x t place
leads_moved columns x leads Stays = leads
leads_moved columns x leads (Moves t from landing moves lands) =
    leads_from_landing columns x t from landing (leads_moved columns x leads moves) lands

-- an edge from y into the column after i, where x leads to y, ends at the landing or later
edge_lands : {columns : List (List Node)} {y z : NodeId} (x : NodeId) (i m landing : ℕ) → Edge columns y z
    → LeadsTo columns x y → x.iteration ≤ i → ReachesFrom columns x i m
    → IsLanding (nodes_at columns i) (nodes_at columns (i + 1)) m landing
    → (Precedes columns x y → y.iteration ≡ i + 1 → landing ≤ y.index) → z.iteration ≡ i + 1 → landing ≤ z.index
edge_lands x i m landing (DownEdge t k h) leads before front lands earlier e = elim leads [
  | inl same ↦ (
      let q : x.iteration ≡ t = ap (λ (n : NodeId). n.iteration) same in
      absurd (omega (arith, q, e, before)))
  | inr p ↦ (let q = earlier p e in omega (arith, q))
]
edge_lands {columns} x i m landing (AcrossEdge t j k c) leads before front lands earlier e =
    let s : t ≡ i = omega (arith, e) in
    let c' : CrossEdge (nodes_at columns i) (nodes_at columns (i + 1)) j k =
    subst (λ n. CrossEdge (nodes_at columns n) (nodes_at columns (n + 1)) j k) s c in
    let reached : m ≤ j = front.only j (subst (λ n. LeadsTo columns x (at n j)) s leads) in
    elim (cases_lt k landing) [ inl less ↦ absurd (lands.least k less j reached c') | inr ok ↦ ok ]

-- a path from x into the column after i ends at the landing or later
path_lands : {columns : List (List Node)} {x z : NodeId} (i m landing : ℕ) → Precedes columns x z → x.iteration ≤ i
    → ReachesFrom columns x i m → IsLanding (nodes_at columns i) (nodes_at columns (i + 1)) m landing
    → z.iteration ≡ i + 1 → landing ≤ z.index
path_lands {columns} {x} i m landing (ByEdge e) before front lands =
    edge_lands x i m landing e (inl refl) before front lands (λ p h. absurd (omega (arith, h, before)))
path_lands {columns} {x} i m landing (ByPath p e) before front lands =
    edge_lands x i m landing e (inr p) before front lands (λ q. path_lands i m landing p before front lands)

-- the front in the next column is the landing of the front
front_lands : (columns : List (List Node)) (x : NodeId) (i m landing : ℕ) → x.iteration ≤ i → ReachesFrom columns x i m
    → IsLanding (nodes_at columns i) (nodes_at columns (i + 1)) m landing → ReachesFrom columns x (i + 1) landing
front_lands columns x i m landing before front lands = record {
  leads = leads_from_landing columns x i m landing front.leads lands;
  only = λ k h. elim h [
    | inl same ↦ (
        let q : x.iteration ≡ i + 1 = ap (λ (n : NodeId). n.iteration) same in
        absurd (omega (arith, q, before)))
    | inr p ↦ path_lands i m landing p before front lands refl
  ];
}

-- an index moves to no earlier column
moves_forward : {columns : List (List Node)} {i m t place : ℕ} → MovesTo columns i m t place → i ≤ t
moves_forward Stays = omega arith
moves_forward (Moves t from landing moves lands) = let h = moves_forward moves in omega (arith, h)

-- the front of an instance is the index to which its own index moves
pub front_moved : (columns : List (List Node)) {i m t place : ℕ} → MovesTo columns i m t place
    → ReachesFrom columns (at i m) t place
front_moved columns {i} {m} Stays = front_of_itself columns i m
front_moved columns {i} {m} (Moves t from landing moves lands) =
    front_lands columns (at i m) t from landing (moves_forward moves) (front_moved columns moves) lands

-- an instance that leads to another one precedes it
not_itself : (columns : List (List Node)) (x y : NodeId) → (x ≡ y → ⊥) → LeadsTo columns x y → Precedes columns x y
not_itself columns x y h l = elim l [ inl e ↦ absurd (h e) | inr p ↦ p ]

-- an instance of a later column is preceded if it is at the front or after it
pub precedes_from_front : (columns : List (List Node)) (x y : NodeId) (m : ℕ) → x.iteration < y.iteration
    → ReachesFrom columns x y.iteration m → y.index < length (nodes_at columns y.iteration) → m ≤ y.index
    → Precedes columns x y
precedes_from_front columns x y m before front w l =
    not_itself columns x y
    (λ e. let q : x.iteration ≡ y.iteration = ap (λ (n : NodeId). n.iteration) e in omega (arith, q, before))
    (front.leads.reached y.index l w)

-- and only then
pub front_from_precedes : (columns : List (List Node)) (x y : NodeId) (m : ℕ) → ReachesFrom columns x y.iteration m
    → Precedes columns x y → m ≤ y.index
front_from_precedes columns x y m front p = front.only y.index (inr p)

-- in one column the indices decide
pub precedes_in_column : (columns : List (List Node)) (x y : NodeId) → x.iteration ≡ y.iteration
    → y.index < length (nodes_at columns y.iteration) → x.index < y.index → Precedes columns x y
precedes_in_column columns x y same w l =
    not_itself columns x y (λ e. let q : x.index ≡ y.index = ap (λ (n : NodeId). n.index) e in omega (arith, q, l))
    (subst (λ i. LeadsTo columns x (at i y.index)) same
    ((leads_from_itself columns x.iteration x.index).reached y.index (omega (arith, l)) (rw same w)))

-- no path leads to an earlier column
pub not_back : (columns : List (List Node)) (x y : NodeId) → Precedes columns x y → y.iteration < x.iteration → ⊥
not_back columns x y p h = let f = (forward p).column in omega (arith, f, h)

-- a path within a column leads down
pub below_in_column : (columns : List (List Node)) (x y : NodeId) → x.iteration ≡ y.iteration → Precedes columns x y
    → x.index < y.index
below_in_column columns x y same p = (forward p).place same

-- two instances of one column are not parallel
pub not_parallel_in_column : (columns : List (List Node)) (x y : NodeId) → x.iteration ≡ y.iteration
    → x.index < length (nodes_at columns x.iteration) → y.index < length (nodes_at columns y.iteration)
    → AreParallel columns x y → ⊥
not_parallel_in_column columns x y same v w p = elim (cases_order x.index y.index) [
  | inl e ↦ p.apart (λ i. record { iteration = same i; index = e i })
  | inr other ↦ elim other [
    | inl less ↦ p.not_before (precedes_in_column columns x y same w less)
    | inr more ↦ p.not_after (precedes_in_column columns y x (sym same) v more)
  ]
]
