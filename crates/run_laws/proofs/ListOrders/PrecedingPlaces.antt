-- A path leads from one instance to another exactly when `reach` says so.
use Rattle.std.proofs.Common.{List, ℕ, ◌≤◌, ◌≡◌, ◌<◌, length, zero, sym, ◌∙◌, suc, max, ap₂, arith, ◌+◌, ap, ◌⊎◌, inl, inr, refl, subst}
use Rattle.std.proofs.lemmas.Bool.{cases_lt}
use Rattle.std.specs.declared.option.Option.{Option}
use Rattle.std.specs.declared.option.Option.TheVariants.{None, Some}
use Rattle.pipe_model.specs.Races.Columns.{node_at, AreColumns, nodes_at, at}
use Rattle.pipe_model.specs.Races.Dag.{IsLastUpTo, CrossEdge, HeadCross, WaitCross, Edge, DownEdge, AcrossEdge, Precedes, ByEdge, ByPath}
use Rattle.pipe_model.specs.Orders.LeftParent.{joined, joined_by, joined_at, last_up_to}
use Rattle.run_laws.proofs.ListOrders.Reach.{reach}
use Rattle.pipe_model.specs.declared.node.Kind.{Kind}
use Rattle.pipe_model.specs.declared.node.Kind.TheVariants.{Zero, Wait, Continue}
use Rattle.pipe_model.specs.declared.node.Node.{Node}
use Rattle.pipe_model.specs.declared.node.NodeId.{NodeId}
use Rattle.run_laws.proofs.ListOrders.JoinedPlaces.{last_up_to_is, reach_left, reach_rises, reach_here, last_up_to_found}

-- (i, j) is above (k, l), or to its left and within its reach
pub record IsBelow (columns : List (List Node)) (i j k l : ℕ) : Type 0 where
  pub column : i ≤ k
  pub place : i ≡ k → j < l
  pub within : i < k → j ≤ reach columns k l i

-- the source of a wait edge is at most the joined index
waits_joined : (left right : List Node) (j k : ℕ) → (node_at right 0).kind ≡ Zero → k < length right
    → (node_at right k).kind ≡ Wait → IsLastUpTo left j (node_at right k).number → j ≤ joined left right k
waits_joined left right j zero z l w h = absurd (let e : Zero ≡ Wait = sym z ∙ w in cc)
waits_joined left right j (suc k) z l w h =
    let e : joined left right (suc k) ≡ max (joined left right k) j =
    ap₂ (λ kind found. joined_by kind (joined left right k) found) w
    (last_up_to_is left (node_at right (suc k)).number j h) in
    omega (arith, e)

-- the source of every edge across is at most the joined index
crosses_joined : {left right : List Node} {j k : ℕ} → (node_at right 0).kind ≡ Zero → CrossEdge left right j k
    → j ≤ joined left right k
crosses_joined z (HeadCross a b) = omega arith
crosses_joined {left} {right} z (WaitCross j k l w h) = waits_joined left right j k z l w h

-- reach by the column to the left, with i + 1
reach_next : (columns : List (List Node)) (i k a : ℕ) → a ≤ i
    → reach columns (i + 1) k a ≡ reach columns i (joined_at columns i k) a
reach_next columns i k a l =
    let e : i + 1 ≡ suc i = omega arith in
    ap (λ c. reach columns c k a) e ∙ reach_left columns i k a l

-- if y has an edge to z, and `IsBelow` holds of (i, j) and y or (i, j) is y, it holds of (i, j) and z
below_edge : {columns : List (List Node)} {y z : NodeId} → AreColumns columns → (i j : ℕ)
    → (IsBelow columns i j y.iteration y.index) ⊎ ((i ≡ y.iteration) × (j ≡ y.index)) → Edge columns y z
    → IsBelow columns i j z.iteration z.index
below_edge {columns} ok i j before (DownEdge k l w) = elim before [
  | inl b ↦ (
      let c = b.column in
      record {
        column = c;
        place = λ e. (let p = b.place e in omega (arith, p));
        within = λ e. (
            let p = b.within e in
            let q = reach_rises columns k l (l + 1) i (omega arith) c in
            omega (arith, p, q));
      })
  | inr s ↦ record {
    column = omega (arith, s);
    place = λ e. omega (arith, s);
    within = λ e. absurd (omega (arith, s, e));
  }
]
below_edge {columns} ok i j before (AcrossEdge k l n c) =
    let le : l ≤ joined_at columns k n = crosses_joined (ok.first (k + 1)) c in
    elim before [
      | inl b ↦ (
          let c = b.column in
          record {
            column = omega (arith, c);
            place = λ e. absurd (omega (arith, c, e));
            within = λ e. (
                let r = reach_next columns k n i c in
                let h = reach_here columns k (joined_at columns k n) in
                elim (cases_lt i k) [
                  | inl less ↦ (
                      let p = b.within less in
                      let q = reach_rises columns k l (joined_at columns k n) i le c in
                      omega (arith, p, q, r))
                  | inr ge ↦ (
                      let s : i ≡ k = omega (arith, c) in
                      let p = b.place s in
                      let t : reach columns k (joined_at columns k n) i ≡ reach columns k (joined_at columns k n) k =
                      ap (reach columns k (joined_at columns k n)) s in
                      omega (arith, p, r, h, t, le))
                ]);
          })
      | inr s ↦ record {
        column = omega (arith, s);
        place = λ e. absurd (omega (arith, s, e));
        within = λ e. (
            let r = reach_next columns k n i (omega (arith, s)) in
            let h = reach_here columns k (joined_at columns k n) in
            let t : reach columns k (joined_at columns k n) i ≡ reach columns k (joined_at columns k n) k =
            ap (reach columns k (joined_at columns k n)) s.0 in
            omega (arith, r, h, t, le, s));
      }
    ]

-- if x precedes z, `IsBelow` holds of x and z
pub below_path : {columns : List (List Node)} {x z : NodeId} → AreColumns columns → Precedes columns x z
    → IsBelow columns x.iteration x.index z.iteration z.index
below_path {columns} {x} ok (ByEdge e) = below_edge ok x.iteration x.index (inr (refl, refl)) e
below_path {columns} {x} ok (ByPath p e) = below_edge ok x.iteration x.index (inl (below_path ok p)) e

-- two paths are a path
both_paths : {columns : List (List Node)} {x y z : NodeId} → Precedes columns x y → Precedes columns y z
    → Precedes columns x z
both_paths p (ByEdge e) = ByPath p e
both_paths p (ByPath q e) = ByPath (both_paths p q) e

-- a path leads down each column
down_path : (columns : List (List Node)) (i j l : ℕ) → j < l → l < length (nodes_at columns i)
    → Precedes columns (at i j) (at i l)
down_path columns i j zero a w = absurd (omega arith)
down_path columns i j (suc l) a w =
    let e : Edge columns (at i l) (at i (suc l)) =
    subst (λ k. Edge columns (at i l) (at i k)) (omega arith) (DownEdge i l (omega arith)) in
    elim (cases_lt j l) [
      | inl less ↦ ByPath (down_path columns i j l less (omega arith)) e
      | inr ge ↦ subst (λ k. Precedes columns (at i k) (at i (suc l))) (let s : l ≡ j = omega arith in s) (ByEdge e)
    ]

-- each instance of the next column is after the instance that it is joined with
module _ (columns : List (List Node)) (i : ℕ) (some : 0 < length (nodes_at columns i)) where
  -- `joined_path`, by the kind of the instance
  joined_path_by : (k : ℕ) (kind : Kind) (found : Option ℕ) → suc k < length (nodes_at columns (i + 1))
      → (node_at (nodes_at columns (i + 1)) (suc k)).kind ≡ kind
      → last_up_to (nodes_at columns i) (node_at (nodes_at columns (i + 1)) (suc k)).number ≡ found
      → joined_at columns i k < length (nodes_at columns i)
      → Precedes columns (at i (joined_at columns i k)) (at (i + 1) k)
      → (joined_by kind (joined_at columns i k) found < length (nodes_at columns i))
      × Precedes columns (at i (joined_by kind (joined_at columns i k) found)) (at (i + 1) (suc k))
  joined_path_by k Zero found l e f w p = (w, both_paths p (down_path columns (i + 1) k (suc k) (omega arith) l))
  joined_path_by k Continue found l e f w p = (w, both_paths p (down_path columns (i + 1) k (suc k) (omega arith) l))
  joined_path_by k Wait None l e f w p = (w, both_paths p (down_path columns (i + 1) k (suc k) (omega arith) l))
  joined_path_by k Wait (Some j) l e f w p =
      let it : IsLastUpTo (nodes_at columns i) j (node_at (nodes_at columns (i + 1)) (suc k)).number =
      (last_up_to_found (nodes_at columns i) (node_at (nodes_at columns (i + 1)) (suc k)).number).some j f in
      let within = it.within in
      elim (cases_lt (joined_at columns i k) j) [
        | inl less ↦ (
            let m : j ≡ max (joined_at columns i k) j = omega arith in (
              omega (arith, within),
              subst (λ r. Precedes columns (at i r) (at (i + 1) (suc k))) m
                  (ByEdge (AcrossEdge i j (suc k) (WaitCross j (suc k) l e it))),
            ))
        | inr ge ↦ (
            let m : joined_at columns i k ≡ max (joined_at columns i k) j = omega arith in (
              omega (arith, w),
              subst (λ r. Precedes columns (at i r) (at (i + 1) (suc k))) m
                  (both_paths p (down_path columns (i + 1) k (suc k) (omega arith) l)),
            ))
      ]

  -- each instance of the next column is after the instance that it is joined with
  joined_path : (k : ℕ) → k < length (nodes_at columns (i + 1))
      → (joined_at columns i k < length (nodes_at columns i))
      × Precedes columns (at i (joined_at columns i k)) (at (i + 1) k)
  joined_path zero l = (some, ByEdge (AcrossEdge i 0 0 (HeadCross some l)))
  joined_path (suc k) l =
      let h = joined_path k (omega arith) in
      joined_path_by k (node_at (nodes_at columns (i + 1)) (suc k)).kind
      (last_up_to (nodes_at columns i) (node_at (nodes_at columns (i + 1)) (suc k)).number) l refl refl h.0 h.1

-- i + 1 is the next number
at_suc : (columns : List (List Node)) (i k : ℕ) → k < length (nodes_at columns (suc i))
    → k < length (nodes_at columns (i + 1))
at_suc columns i k l = subst (λ c. k < length (nodes_at columns c)) (omega arith) l

-- a path leads to each instance that is below
pub path_below : (columns : List (List Node)) → AreColumns columns → (i j k l : ℕ) → IsBelow columns i j k l
    → k < length columns → l < length (nodes_at columns k) → Precedes columns (at i j) (at k l)
path_below columns ok i j zero l b w v =
    let c = b.column in
    let s : i ≡ 0 = omega (arith, c) in
    subst (λ a. Precedes columns (at a j) (at 0 l)) (sym s) (down_path columns 0 j l (b.place s) v)
path_below columns ok i j (suc k) l b w v = let c = b.column in elim (cases_lt k i) [
  | inl same ↦ (
      let s : i ≡ suc k = omega (arith, c) in
      subst (λ a. Precedes columns (at a j) (at (suc k) l)) (sym s) (down_path columns (suc k) j l (b.place s) v))
  | inr left ↦ (
      let r : ℕ = joined_at columns k l in
      let h = joined_path columns k (ok.full k (omega arith)) l (at_suc columns k l v) in
      let last : Precedes columns (at k r) (at (suc k) l) =
      subst (λ a. Precedes columns (at k r) (at a l)) (let z : k + 1 ≡ suc k = omega arith in z) h.1 in
      let e : reach columns (suc k) l i ≡ reach columns k r i = reach_left columns k l i left in
      let q = b.within (omega arith) in
      elim (cases_lt i k) [
        | inl less ↦ both_paths (path_below columns ok i j k r (record {
          column = left;
          place = λ s. absurd (omega (arith, s));
          within = λ s. omega (arith, q, e);
        }) (omega arith) h.0) last
        | inr ge ↦ (
            let s : i ≡ k = omega arith in
            let t : reach columns k r i ≡ r = ap (reach columns k r) s ∙ reach_here columns k r in
            elim (cases_lt j r) [
              | inl less ↦ both_paths (subst (λ a. Precedes columns (at a j) (at k r)) (sym s)
                  (down_path columns k j r less h.0)) last
              | inr m ↦ subst (λ a. Precedes columns a (at (suc k) l)) (
                  let z : r ≡ j = omega (arith, q, e, t) in
                  ap₂ at (sym s) z) last
            ])
      ])
]
