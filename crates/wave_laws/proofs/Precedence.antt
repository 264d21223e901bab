-- Which points of a grid precede which.
use Rattle.std.proofs.Common.{◌≡◌, ◌∙◌, sym, ap, refl, subst, ℕ, zero, suc, pos, List, [], ◌∷◌, map, length, ◌<◌, ◌≤◌, ◌+◌, ◌-◌, ◌≢◌, ◌⊎◌}
use Rattle.std.proofs.Common.{inl, inr, arith}
use Rattle.std.specs.Prelude.{◌≤ℤ◌, ◌<ℤ◌, T, Bool, true, false, nat_le}
use Rattle.std.proofs.lemmas.Bool.{leb-true, lt-ltb, le-leb}
use Rattle.pipe_model.specs.declared.column.Column.{Column}
use Rattle.pipe_model.specs.declared.node.Node.{Node}
use Rattle.pipe_model.specs.declared.node.NodeId.{NodeId}
use Rattle.pipe_model.specs.Language.Programs.{natural}
use Rattle.pipe_model.specs.Pipelines.Behaviour.{Action, node_of}
use Rattle.pipe_model.specs.Races.Columns.{at, node_at, nodes_at}
use Rattle.pipe_model.specs.Races.Dag.{CrossEdge, HeadCross, WaitCross, Edge, DownEdge, AcrossEdge, Precedes, ByEdge, ByPath}
use Rattle.wave_laws.specs.WaveLaws.{PointsPrecede}
use Rattle.wave_laws.specs.Waves.Grid.{grid}
use Rattle.wave_laws.specs.Waves.GridResults.{column_of_points, kind_in_row, point_nodes}

-- instance k has number k, and waits unless it is the first
abbrev IsGridColumn : List Node → Type 0
IsGridColumn nodes = (k : ℕ) → k < length nodes → node_at nodes k ≡ node_of (kind_in_row k) (pos k)

nodes_of_points : (r k : ℕ) (ts : List (List Action)) → k < length (point_nodes r ts)
    → node_at (point_nodes r ts) k ≡ node_of (kind_in_row (r + k)) (pos (r + k))
nodes_of_points r k [] l = absurd (omega (arith, l))
nodes_of_points r zero (t ∷ ts) l = let e : r ≡ r + 0 = omega arith in ap (λ n. node_of (kind_in_row n) (pos n)) e
nodes_of_points r (suc k) (t ∷ ts) l =
    let e : r + 1 + k ≡ r + suc k = omega arith in
    nodes_of_points (r + 1) k ts (omega (arith, l)) ∙ ap (λ n. node_of (kind_in_row n) (pos n)) e

points_are_grid : (ts : List (List Action)) → IsGridColumn (point_nodes 0 ts)
points_are_grid ts k l = let e : 0 + k ≡ k = omega arith in nodes_of_points 0 k ts l ∙ ap (λ n. node_of (kind_in_row n) (pos n)) e

-- the columns of a grid
abbrev nodes_of : List (List (List Action)) → List (List Node)
nodes_of gs = map (λ (column : Column). column.nodes) (map column_of_points gs)

columns_are_grid : (gs : List (List (List Action))) (i : ℕ) → IsGridColumn (nodes_at (nodes_of gs) i)
columns_are_grid [] i k l = absurd (omega (arith, l))
columns_are_grid (points ∷ gs) zero k l = points_are_grid points k l
columns_are_grid (points ∷ gs) (suc i) k l = columns_are_grid gs i k l

-- ---- edges lead right and down

holds : (b : Bool) → T b → b ≡ true
holds true t = refl
holds false t = absurd t

below_or_same : (j k : ℕ) → pos j ≤ℤ pos k → j ≤ k
below_or_same j k h = leb-true j k (holds (nat_le j k) h.le)

less_pos : (j k : ℕ) → j < k → pos j <ℤ pos k
less_pos j k l = record { lt = subst T (sym (lt-ltb j k l)) tt }

same_pos : (j : ℕ) → pos j ≤ℤ pos j
same_pos j = record { le = subst T (sym (le-leb j j (omega arith))) tt }

cross_down : (left right : List Node) (j k : ℕ) → IsGridColumn left → IsGridColumn right → CrossEdge left right j k → j ≤ k
cross_down left right j k gl gr (HeadCross a b) = omega arith
cross_down left right j k gl gr (WaitCross j2 k2 l w last) =
    let lower : pos j2 ≤ℤ pos k2 = subst (λ (n : Node). n.number ≤ℤ pos k2) (gl j2 last.within)
    (subst (λ (n : Node). (node_at left j2).number ≤ℤ n.number) (gr k2 l) last.up_to) in
    below_or_same j2 k2 lower

edge_forward : (cols : List (List Node)) (x y : NodeId) → ((i : ℕ) → IsGridColumn (nodes_at cols i)) → Edge cols x y
    → (x.iteration ≤ y.iteration) × (x.index ≤ y.index)
edge_forward cols x y g (DownEdge i k l) = (omega arith, omega arith)
edge_forward cols x y g (AcrossEdge i j k cross) =
    (omega arith, cross_down (nodes_at cols i) (nodes_at cols (i + 1)) j k (g i) (g (i + 1)) cross)

path_forward : (cols : List (List Node)) (x y : NodeId) → ((i : ℕ) → IsGridColumn (nodes_at cols i)) → Precedes cols x y
    → (x.iteration ≤ y.iteration) × (x.index ≤ y.index)
path_forward cols x y g (ByEdge e) = edge_forward cols x y g e
path_forward cols x z g (ByPath {x = x2} {y = y} {z = z2} p e) =
    let one = path_forward cols x2 y g p in
    let two = edge_forward cols y z2 g e in
    (omega (arith, one.0, two.0), omega (arith, one.1, two.1))

-- ---- paths down and to the right

-- the rectangle of n columns and m rows is full
record IsFull (cols : List (List Node)) (n m : ℕ) : Type 0 where
  pub grid : (i : ℕ) → IsGridColumn (nodes_at cols i)
  pub full : (i : ℕ) → i < n → length (nodes_at cols i) ≡ m

abbrev Reaches : List (List Node) → NodeId → NodeId → Type 0
Reaches cols x y = (x ≡ y) ⊎ Precedes cols x y

then_edge : (cols : List (List Node)) (x y z : NodeId) → Reaches cols x y → Edge cols y z → Precedes cols x z
then_edge cols x y z (inl e) edge = ByEdge (subst (λ v. Edge cols v z) (sym e) edge)
then_edge cols x y z (inr p) edge = ByPath p edge

down : (cols : List (List Node)) (x : NodeId) (i k j : ℕ) → k + j < length (nodes_at cols i) → Reaches cols x (at i k)
    → Reaches cols x (at i (k + j))
down cols x i k zero l p = let e : k ≡ k + 0 = omega arith in subst (λ m. Reaches cols x (at i m)) e p
down cols x i k (suc j) l p =
    let e : k + j + 1 ≡ k + suc j = omega arith in
    let up = down cols x i k j (omega (arith, l)) p in
    subst (λ m. Reaches cols x (at i m)) e
    (inr (then_edge cols x (at i (k + j)) (at i (k + j + 1)) up (DownEdge i (k + j) (omega (arith, l)))))

cross_in_row : (cols : List (List Node)) (n m i k : ℕ) → IsFull cols n m → i + 1 < n → k < m → Edge cols (at i k) (at (i + 1) k)
cross_in_row cols n m i zero f l within =
    let a = f.full i (omega (arith, l)) in
    let b = f.full (i + 1) l in
    AcrossEdge i 0 0 (HeadCross (omega (arith, a, within)) (omega (arith, b, within)))
cross_in_row cols n m i (suc k) f l within =
    let a = f.full i (omega (arith, l)) in
    let b = f.full (i + 1) l in
    let in_left : suc k < length (nodes_at cols i) = omega (arith, a, within) in
    let in_right : suc k < length (nodes_at cols (i + 1)) = omega (arith, b, within) in
    let here = f.grid i (suc k) in_left in
    let there = f.grid (i + 1) (suc k) in_right in
    AcrossEdge i (suc k) (suc k) (WaitCross (suc k) (suc k) in_right (ap (λ (v : Node). v.kind) there) (record {
      within = in_left;
      up_to = same_number here there;
      last = λ j lower inside. less_number (suc k) j lower there (f.grid i j inside);
    }))
  where
    same_number : {v w : Node} {r : ℕ} → v ≡ node_of (kind_in_row r) (pos r) → w ≡ node_of (kind_in_row r) (pos r) → v.number ≤ℤ w.number
    same_number {v} {w} {r} e h =
        subst (λ (u : Node). u.number ≤ℤ w.number) (sym e) (subst (λ (u : Node). pos r ≤ℤ u.number) (sym h) (same_pos r))

    less_number : (r j : ℕ) → r < j → {v w : Node} → v ≡ node_of (kind_in_row r) (pos r) → w ≡ node_of (kind_in_row j) (pos j)
        → v.number <ℤ w.number
    less_number r j l {v} {w} e h =
        subst (λ (u : Node). u.number <ℤ w.number) (sym e) (subst (λ (u : Node). pos r <ℤ u.number) (sym h) (less_pos r j l))

right : (cols : List (List Node)) (n m i k j : ℕ) → IsFull cols n m → i + j < n → k < m → Reaches cols (at i k) (at (i + j) k)
right cols n m i k zero f l within = let e : i ≡ i + 0 = omega arith in inl (ap (λ c. at c k) e)
right cols n m i k (suc j) f l within =
    let e : i + j + 1 ≡ i + suc j = omega arith in
    let before = right cols n m i k j f (omega (arith, l)) within in
    subst (λ c. Reaches cols (at i k) (at c k)) e
    (inr (then_edge cols (at i k) (at (i + j) k) (at (i + j + 1) k) before (cross_in_row cols n m (i + j) k f (omega (arith, l)) within)))

reaches : (cols : List (List Node)) (n m c r d q : ℕ) → IsFull cols n m → d < n → q < m → c ≤ d → r ≤ q → Reaches cols (at c r) (at d q)
reaches cols n m c r d q f ld lq lc lr =
    let a : c + (d - c) ≡ d = omega (arith, lc) in
    let b : r + (q - r) ≡ q = omega (arith, lr) in
    let full = f.full d ld in
    let across = subst (λ e. Reaches cols (at c r) (at e r)) a
    (right cols n m c r (d - c) f (omega (arith, a, ld)) (omega (arith, lr, lq))) in
    subst (λ e. Reaches cols (at c r) (at d e)) b (down cols (at c r) d r (q - r) (omega (arith, b, full, lq)) across)

not_same : (cols : List (List Node)) (x y : NodeId) → x ≢ y → Reaches cols x y → Precedes cols x y
not_same cols x y apart (inl e) = absurd (apart e)
not_same cols x y apart (inr p) = p

pub points_precede : PointsPrecede
points_precede tree input c r d q lc ld full lr lq apart =
    let cols = nodes_of (grid tree input) in
    let f : IsFull cols (natural tree.limits.iterations) (natural tree.limits.stages) = record
    { grid = columns_are_grid (grid tree input); full = full } in (
      (λ p. path_forward cols (at c r) (at d q) f.grid p),
      (λ both. not_same cols (at c r) (at d q) apart
          (reaches cols (natural tree.limits.iterations) (natural tree.limits.stages) c r d q f ld lq both.0 both.1)),
    )
