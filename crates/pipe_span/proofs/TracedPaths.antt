-- The rows have the weights of the heaviest paths, and the predecessors trace these paths.
use Rattle.std.proofs.Common.{◌≡◌, ◌∙◌, ℕ, ◌+◌, ◌*◌, ◌-◌, ◌<◌, ◌≤◌, List, [], ◌∷◌, ◌++◌, Option, Some, None, length, refl, sym, ap, subst}
use Rattle.std.proofs.Common.{arith, inl, inr, append_assoc, append-nil, reverse}
use Rattle.std.proofs.Math.Numerals.{add-one}
use Rattle.std.proofs.lemmas.Bool.{cases_lt}
use Rattle.std.proofs.lemmas.List.{get_or_past, reverse-append}
use Rattle.std.proofs.lemmas.List.Sums.{sum_by-append}
use Rattle.pipe_model.specs.declared.node.Node.{Node}
use Rattle.pipe_model.specs.declared.node.NodeId.{NodeId}
use Rattle.pipe_model.specs.Races.Columns.{IsNodeOf, at, nodes_at}
use Rattle.pipe_model.specs.Races.Dag.{AcrossEdge, CrossEdge, DownEdge, Edge, HeadCross, WaitCross}
use Rattle.run_laws.proofs.ListOrders.GrownStarts.{cross_source_within}
use Rattle.pipe_span.specs.declared.entry.Entry.{Entry}
use Rattle.pipe_span.specs.declared.entry.Predecessor.{Predecessor}
use Rattle.pipe_span.specs.declared.entry.Predecessor.TheVariants.{Absent, Above, Left}
use Rattle.pipe_span.specs.Entries.{IsEntry, weight_in}
use Rattle.pipe_span.specs.HeaviestPaths.{Begins, GoesOn, IsTraced, Longer, PathTo, Single, path_weight, weight_at, weight_of}
use Rattle.pipe_span.specs.WorkAndSpan.{IsHeaviest}
use Rattle.pipe_span.specs.Tables.{AreRows, HasPredecessor, IsHeaviestLast, IsIn, predecessor_of, entry_to, left_nodes, left_row, row_at}
use Rattle.pipe_span.specs.Tables.{weight_to}

-- the instance of a column that has the index
pub within_columns : (columns : List (List Node)) (i k : ℕ) → k < length (nodes_at columns i) → i < length columns
within_columns columns i k l = elim (cases_lt i (length columns)) [
  | inl less ↦ less
  | inr past ↦ absurd (let a = ap length (get_or_past columns i [] past) in omega (arith, a, l))
]

cross_ends : {left right : List Node} {j k : ℕ} → CrossEdge left right j k → k < length right
cross_ends (HeadCross h w) = w
cross_ends (WaitCross j k w kind h) = w

pub edge_begins : {columns : List (List Node)} {x y : NodeId} → Edge columns x y → IsNodeOf columns x
edge_begins {columns} (DownEdge i k h) = (within_columns columns i (k + 1) h, omega (arith, h))
edge_begins {columns} (AcrossEdge i j k c) = (within_columns columns i j (cross_source_within c), cross_source_within c)

pub edge_ends : {columns : List (List Node)} {x y : NodeId} → Edge columns x y → IsNodeOf columns y
edge_ends {columns} (DownEdge i k h) = (within_columns columns i (k + 1) h, h)
edge_ends {columns} (AcrossEdge i j k c) = (within_columns columns (i + 1) k (cross_ends c), cross_ends c)

-- what the rows say of an instance
entry_here : (columns : List (List Node)) (weights : List ℕ) (rows : List (List Entry)) (x : NodeId) → AreRows columns weights rows
    → IsNodeOf columns x
    → IsEntry (left_nodes columns x.iteration) (nodes_at columns x.iteration) (left_row rows x.iteration) (row_at rows x.iteration)
    (weight_of columns weights x) x.index
entry_here columns weights rows x h w =
    let same = h.lengths x.iteration in
    (h.each x.iteration w.0).each x.index (omega (arith, w.1, same))

left_of_next : (rows : List (List Entry)) (i : ℕ) → left_row rows (i + 1) ≡ row_at rows i
left_of_next rows i = ap (left_row rows) (add-one i)

nodes_left_of_next : (columns : List (List Node)) (i : ℕ) → left_nodes columns (i + 1) ≡ nodes_at columns i
nodes_left_of_next columns i = ap (left_nodes columns) (add-one i)

-- an edge adds the weight of its end
pub along : {columns : List (List Node)} {x y : NodeId} (weights : List ℕ) (rows : List (List Entry)) → AreRows columns weights rows
    → Edge columns x y → weight_to rows x + weight_of columns weights y ≤ weight_to rows y
along {columns} weights rows h (DownEdge i k l) =
    (entry_here columns weights rows (at i (k + 1)) h (edge_ends (DownEdge i k l))).above k refl
along {columns} weights rows h (AcrossEdge i j k c) =
    subst (λ r. weight_in r j + weight_at columns weights (i + 1) k ≤ weight_in (row_at rows (i + 1)) k) (left_of_next rows i)
    ((entry_here columns weights rows (at (i + 1) k) h (edge_ends (AcrossEdge i j k c))).across j
    (subst (λ l. CrossEdge l (nodes_at columns (i + 1)) j k) (sym (nodes_left_of_next columns i)) c))

longer_weight : (columns : List (List Node)) (weights : List ℕ) (path : List NodeId) (y : NodeId)
    → path_weight columns weights (path ++ y ∷ []) ≡ path_weight columns weights path + weight_of columns weights y
longer_weight columns weights path y =
    let a = sum_by-append (weight_of columns weights) path (y ∷ []) in
    omega (arith, a)

-- no path is heavier than the row says
pub no_heavier : {columns : List (List Node)} {x : NodeId} {path : List NodeId} (weights : List ℕ) (rows : List (List Entry))
    → AreRows columns weights rows → PathTo columns x path → path_weight columns weights path ≤ weight_to rows x
no_heavier {columns} weights rows h (Single x w) =
    let a = (entry_here columns weights rows x h w).alone in
    omega (arith, a)
no_heavier {columns} weights rows h (Longer x y path p e) =
    let a = no_heavier weights rows h p in
    let b = along weights rows h e in
    let c = longer_weight columns weights path y in
    omega (arith, a, b, c)

-- the end of a path is an instance
pub path_ends : {columns : List (List Node)} {x : NodeId} {path : List NodeId} → PathTo columns x path → IsNodeOf columns x
path_ends (Single x w) = w
path_ends (Longer x y path p e) = edge_ends e

-- an edge in the column of its end begins at the instance above
above_of : {columns : List (List Node)} {z y : NodeId} → Edge columns z y → z.iteration ≡ y.iteration → y.index ≡ z.index + 1
above_of (DownEdge i k h) e = refl
above_of (AcrossEdge i j k c) e = absurd (omega (arith, e))

-- what the predecessor of an instance says
pub record IsStepBack (columns : List (List Node)) (weights : List ℕ) (rows : List (List Entry)) (x y : NodeId) : Type 0 where
  pub edge : Edge columns x y
  pub weight : weight_to rows y ≡ weight_to rows x + weight_of columns weights y
  pub ties : (z : NodeId) → Edge columns z y → weight_to rows x ≤ weight_to rows z → z.iteration ≡ y.iteration → z ≡ x

step_above : (columns : List (List Node)) (weights : List ℕ) (rows : List (List Entry)) (y : NodeId) → AreRows columns weights rows
    → IsNodeOf columns y → (entry_to rows y).predecessor ≡ Above → IsStepBack columns weights rows (at y.iteration (y.index - 1)) y
step_above columns weights rows y h w s =
    let r = (entry_here columns weights rows y h w).from_above s in
    let e = r.1 in
    let index : r.0 ≡ y.index - 1 = omega (arith, e) in
    record {
      edge = subst (λ n. Edge columns (at y.iteration (y.index - 1)) (at y.iteration n)) (omega (arith, e))
          (DownEdge y.iteration (y.index - 1) (omega (arith, e, w.1)));
      weight = subst (λ m. weight_to rows y ≡ weight_in (row_at rows y.iteration) m + weight_of columns weights y) index r.2;
      ties = λ z edge l same. (
          let f = above_of edge same in
          subst (λ i. z ≡ at i (y.index - 1)) same (ap (at z.iteration) (omega (arith, f))));
    }

step_left : (columns : List (List Node)) (weights : List ℕ) (rows : List (List Entry)) (i k j : ℕ) → AreRows columns weights rows
    → IsNodeOf columns (at (i + 1) k) → (entry_to rows (at (i + 1) k)).predecessor ≡ Left j
    → IsStepBack columns weights rows (at i j) (at (i + 1) k)
step_left columns weights rows i k j h w s =
    let r = (entry_here columns weights rows (at (i + 1) k) h w).from_left j s in
    record {
      edge = AcrossEdge i j k (subst (λ l. CrossEdge l (nodes_at columns (i + 1)) j k) (nodes_left_of_next columns i) r.0);
      weight = subst (λ l. weight_to rows (at (i + 1) k) ≡ weight_in l j + weight_at columns weights (i + 1) k) (left_of_next rows i) r.1;
      ties = λ z edge l same. (
          let f = above_of edge same in
          let a : weight_in (row_at rows (i + 1)) z.index < weight_in (row_at rows i) j =
          subst (λ q. weight_in (row_at rows (i + 1)) z.index < weight_in q j) (left_of_next rows i) (r.2 z.index f) in
          let b = subst (λ n. weight_in (row_at rows i) j ≤ weight_in (row_at rows n) z.index) same l in
          absurd (omega (arith, a, b)));
    }

-- column 0 has no left parents
no_left_of_first : (columns : List (List Node)) (weights : List ℕ) (rows : List (List Entry)) (y : NodeId) (j : ℕ)
    → AreRows columns weights rows
    → IsNodeOf columns y → (entry_to rows y).predecessor ≡ Left j → y.iteration ≡ 0 → ⊥
no_left_of_first columns weights rows y j h w s e =
    let r = (entry_here columns weights rows y h w).from_left j s in
    let b = cross_source_within (subst (λ i. CrossEdge (left_nodes columns i) (nodes_at columns y.iteration) j y.index) e r.0) in
    omega (arith, b)

positive : (columns : List (List Node)) (weights : List ℕ) (rows : List (List Entry)) (y : NodeId) (j : ℕ) → AreRows columns weights rows
    → IsNodeOf columns y → (entry_to rows y).predecessor ≡ Left j → 0 < y.iteration
positive columns weights rows y j h w s = elim (cases_lt 0 y.iteration) [
  | inl less ↦ less
  | inr past ↦ absurd (no_left_of_first columns weights rows y j h w s (omega (arith, past)))
]

step_left_back : (columns : List (List Node)) (weights : List ℕ) (rows : List (List Entry)) (y : NodeId) (j : ℕ)
    → AreRows columns weights rows
    → IsNodeOf columns y → (entry_to rows y).predecessor ≡ Left j → IsStepBack columns weights rows (at (y.iteration - 1) j) y
step_left_back columns weights rows y j h w s =
    let p = positive columns weights rows y j h w s in
    let e : y.iteration ≡ y.iteration - 1 + 1 = omega (arith, p) in
    subst (λ i. IsStepBack columns weights rows (at (y.iteration - 1) j) (at i y.index)) (sym e)
    (step_left columns weights rows (y.iteration - 1) y.index j h (subst (λ i. IsNodeOf columns (at i y.index)) e w)
    (subst (λ i. (entry_to rows (at i y.index)).predecessor ≡ Left j) e s))

-- the instance from which the heaviest path comes
pub step_back : (columns : List (List Node)) (weights : List ℕ) (rows : List (List Entry)) (x y : NodeId) → AreRows columns weights rows
    → IsNodeOf columns y → predecessor_of y (entry_to rows y).predecessor ≡ Some x → IsStepBack columns weights rows x y
step_back columns weights rows x y h w e = by_predecessor (entry_to rows y).predecessor refl
  where
    some_same : {a b : NodeId} → Some a ≡ Some b → a ≡ b
    some_same f = grind (arith, f)

    by_predecessor : (s : Predecessor) → (entry_to rows y).predecessor ≡ s → IsStepBack columns weights rows x y
    by_predecessor Absent s = absurd (let f : None ≡ Some x = subst (λ t. predecessor_of y t ≡ Some x) s e in grind (arith, f))
    by_predecessor Above s =
        let f : Some (at y.iteration (y.index - 1)) ≡ Some x = subst (λ t. predecessor_of y t ≡ Some x) s e in
        subst (λ n. IsStepBack columns weights rows n y) (some_same f) (step_above columns weights rows y h w s)
    by_predecessor (Left j) s =
        let f : Some (at (y.iteration - 1) j) ≡ Some x = subst (λ t. predecessor_of y t ≡ Some x) s e in
        subst (λ n. IsStepBack columns weights rows n y) (some_same f) (step_left_back columns weights rows y j h w s)

-- if the row of an instance names no predecessor, no edge leads to the instance, and its weight is its own
pub no_step_back : (columns : List (List Node)) (weights : List ℕ) (rows : List (List Entry)) (y : NodeId) → AreRows columns weights rows
    → IsNodeOf columns y → predecessor_of y (entry_to rows y).predecessor ≡ None
    → ((z : NodeId) → Edge columns z y → ⊥) × (weight_to rows y ≡ weight_of columns weights y)
no_step_back columns weights rows y h w e = by_predecessor (entry_to rows y).predecessor refl
  where
    none_into : {z y : NodeId} → y.index ≡ 0 → ((j : ℕ) → CrossEdge (left_nodes columns y.iteration)
        (nodes_at columns y.iteration) j y.index → ⊥)
        → Edge columns z y → ⊥
    none_into first none (DownEdge i k l) = omega (arith, first)
    none_into first none (AcrossEdge i j k c) = none j
        (subst (λ l. CrossEdge l (nodes_at columns (i + 1)) j k) (sym (nodes_left_of_next columns i)) c)

    by_predecessor : (s : Predecessor) → (entry_to rows y).predecessor ≡ s → ((z : NodeId) → Edge columns z y → ⊥)
        × (weight_to rows y ≡ weight_of columns weights y)
    by_predecessor Absent s =
        let r = (entry_here columns weights rows y h w).absent s in
        (λ z edge. none_into r.0 r.2 edge, r.1)
    by_predecessor Above s = absurd (let f : Some (at y.iteration (y.index - 1)) ≡ None = subst (λ t. predecessor_of y t ≡ None) s e in
        grind (arith, f))
    by_predecessor (Left j) s = absurd (let f : Some (at (y.iteration - 1) j) ≡ None = subst (λ t. predecessor_of y t ≡ None) s e in
        grind (arith, f))

-- the predecessors of the rows name instances
pub has_predecessor : (columns : List (List Node)) (weights : List ℕ) (rows : List (List Entry)) (y : NodeId) → AreRows columns weights rows
    → IsNodeOf columns y → HasPredecessor rows y
has_predecessor columns weights rows y h w = record {
  above = λ s. (let e = ((entry_here columns weights rows y h w).from_above s).1 in omega (arith, e));
  left = λ j s. (
      let p = positive columns weights rows y j h w s in
      let b = edge_begins (step_left_back columns weights rows y j h w s).edge in
      let same = h.lengths (y.iteration - 1) in
      (p, omega (arith, b.1, same)));
}

pub is_in : (columns : List (List Node)) (weights : List ℕ) (rows : List (List Entry)) (y : NodeId) → AreRows columns weights rows
    → IsNodeOf columns y → IsIn rows y
is_in columns weights rows y h w =
    let whole = h.whole in
    let same = h.lengths y.iteration in
    record { column = omega (arith, w.0, whole); index = omega (arith, w.1, same) }

pub is_node : (columns : List (List Node)) (weights : List ℕ) (rows : List (List Entry)) (y : NodeId) → AreRows columns weights rows
    → IsIn rows y → IsNodeOf columns y
is_node columns weights rows y h w =
    let whole = h.whole in
    let same = h.lengths y.iteration in
    let a = w.column in
    let b = w.index in
    (omega (arith, a, whole), omega (arith, b, same))

-- a traced path, with the weight that the row says
pub record IsTracedTo (columns : List (List Node)) (weights : List ℕ) (rows : List (List Entry)) (x : NodeId)
    (path : List NodeId) : Type 0 where
  pub traced : IsTraced columns weights x path
  pub weight : path_weight columns weights path ≡ weight_to rows x

pub traced_at_first : (columns : List (List Node)) (weights : List ℕ) (rows : List (List Entry)) (y : NodeId) → AreRows columns weights rows
    → IsNodeOf columns y → predecessor_of y (entry_to rows y).predecessor ≡ None → IsTracedTo columns weights rows y (y ∷ [])
traced_at_first columns weights rows y h w e =
    let r = no_step_back columns weights rows y h w e in
    let f = r.1 in
    record { traced = Begins y w r.0; weight = omega (arith, f) }

pub traced_further : (columns : List (List Node)) (weights : List ℕ) (rows : List (List Entry)) (x y : NodeId) (path : List NodeId)
    → AreRows columns weights rows → IsStepBack columns weights rows x y
    → IsTracedTo columns weights rows x path → IsTracedTo columns weights rows y (path ++ y ∷ [])
traced_further columns weights rows x y path h step t =
    let same = t.weight in
    let e = step.weight in
    record {
      traced = GoesOn x y path t.traced (record {
        edge = step.edge;
        most = λ z other edge p. (
            let a = no_heavier weights rows h p in
            let b = along weights rows h edge in
            omega (arith, a, b, same, e));
        ties = λ z other edge p tie column. (
            let a = no_heavier weights rows h p in
            step.ties z edge (omega (arith, a, tie, same)) column);
      });
      weight = (let a = longer_weight columns weights path y in omega (arith, a, same, e));
    }

-- a traced path is a path
pub traced_is_path : {columns : List (List Node)} {weights : List ℕ} {x : NodeId} {path : List NodeId} → IsTraced columns weights x path
    → PathTo columns x path
traced_is_path (Begins x w none) = Single x w
traced_is_path (GoesOn x y path t chosen) = Longer x y path (traced_is_path t) chosen.edge

-- in the order of columns and then indices, a path goes forward
pub goes_forward : {columns : List (List Node)} {x y : NodeId} → Edge columns x y → x.index < 4294967296
    → x.iteration * 4294967296 + x.index < y.iteration * 4294967296 + y.index
goes_forward (DownEdge i k h) l = omega arith
goes_forward (AcrossEdge i j k c) l = omega (arith, l)

-- the path that is traced so far, last instance first
abbrev pub IsPathFrom : List (List Node) → List ℕ → List (List Entry) → NodeId → NodeId → List NodeId → Type 0
IsPathFrom columns weights rows x last path =
    (start : List NodeId) → IsTracedTo columns weights rows x start → IsTracedTo columns weights rows last (start ++ reverse path)

pub no_path_yet : (columns : List (List Node)) (weights : List ℕ) (rows : List (List Entry)) (last : NodeId) (path : List NodeId)
    → path ≡ []
    → IsPathFrom columns weights rows last last path
no_path_yet columns weights rows last path e = λ start t.
    subst (IsTracedTo columns weights rows last) (sym (ap (λ p. start ++ reverse p) e ∙ append-nil start)) t

pub one_step_back : (columns : List (List Node)) (weights : List ℕ) (rows : List (List Entry)) (x y last : NodeId) (path more : List NodeId)
    → AreRows columns weights rows → IsStepBack columns weights rows x y → IsPathFrom columns weights rows y last path
    → more ≡ path ++ y ∷ [] → IsPathFrom columns weights rows x last more
one_step_back columns weights rows x y last path more h step from e = λ start t.
    subst (IsTracedTo columns weights rows last) (same start)
    (from (start ++ y ∷ []) (traced_further columns weights rows x y start h step t))
  where
    same : (start : List NodeId) → (start ++ y ∷ []) ++ reverse path ≡ start ++ reverse more
    same start = append_assoc start (y ∷ []) (reverse path) ∙ ap (λ p. start ++ p) (sym (reverse-append path (y ∷ [])))
        ∙ ap (λ p. start ++ reverse p) (sym e)

pub whole_path : (columns : List (List Node)) (weights : List ℕ) (rows : List (List Entry)) (x last : NodeId) (path more : List NodeId)
    → AreRows columns weights rows → IsNodeOf columns x → ((y : NodeId) → predecessor_of x (entry_to rows x).predecessor ≡ Some y → ⊥)
    → IsPathFrom columns weights rows x last path → more ≡ path ++ x ∷ [] → IsTracedTo columns weights rows last (reverse more)
whole_path columns weights rows x last path more h w none from e =
    subst (IsTracedTo columns weights rows last) (sym (reverse-append path (x ∷ [])) ∙ ap reverse (sym e))
    (from (x ∷ []) (traced_at_first columns weights rows x h w (is_none (predecessor_of x (entry_to rows x).predecessor) refl)))
  where
    is_none : (o : Option NodeId) → predecessor_of x (entry_to rows x).predecessor ≡ o → predecessor_of x
        (entry_to rows x).predecessor ≡ None
    is_none None f = f
    is_none (Some y) f = absurd (none y f)

-- the path to the first instance with the greatest weight is the heaviest
pub heaviest_to : (columns : List (List Node)) (weights : List ℕ) (rows : List (List Entry)) (last : NodeId) (path : List NodeId)
    (weight : ℕ)
    → AreRows columns weights rows → IsHeaviestLast rows last → IsTraced columns weights last path
    → path_weight columns weights path ≡ weight_to rows last → weight ≡ weight_to rows last → IsHeaviest columns weights path weight
heaviest_to columns weights rows last path weight h first t same e = record {
  last = last;
  heaviest = record {
    is_path = traced_is_path t;
    weighs = omega (arith, same, e);
    most = λ y other p. (let a = no_heavier weights rows h p in let b = first.most y in omega (arith, a, b, e));
    first = λ y other p l. (let a = no_heavier weights rows h p in let b = first.first y l in omega (arith, a, b, e));
    traced = t;
  };
}
