-- The left parent is the source of the left edge, if that does not precede the instance above.
use Rattle.std.proofs.Common.{List, ℕ, length, suc, ◌+◌, ◌<◌, ◌≡◌, arith, ap, ◌∙◌, refl, subst, inl, cond, inr, ◌↔◌}
use Rattle.std.proofs.lemmas.Bool.{cases_lt, lt-ltb}
use Rattle.std.specs.declared.option.Option.{Option}
use Rattle.std.specs.declared.option.Option.TheVariants.{None, Some}
use Rattle.pipe_model.specs.Races.Columns.{AreColumns, nodes_at, node_at, at}
use Rattle.pipe_model.specs.Races.Dag.{CrossEdge, WaitCross, Precedes, HeadCross, IsLastUpTo}
use Rattle.pipe_model.specs.Orders.LeftParent.{last_up_to, joined_by, joined_at, left_parent}
use Rattle.run_laws.proofs.ListOrders.Reach.{reach}
use Rattle.pipe_model.specs.declared.node.Kind.{Kind}
use Rattle.pipe_model.specs.declared.node.Kind.TheVariants.{Zero, Continue, Wait}
use Rattle.pipe_model.specs.declared.node.Node.{Node}
use Rattle.run_laws.proofs.ListOrders.JoinedPlaces.{last_up_to_found, reach_left, reach_here, last_up_to_is}
use Rattle.run_laws.proofs.ListOrders.LeftParents.{left_is}
use Rattle.run_laws.proofs.ListOrders.PrecedingPlaces.{below_path, path_below}
use Rattle.run_laws.proofs.ListOrders.StableLeftParents.{left_wait}

module _ (columns : List (List Node)) (ok : AreColumns columns) (i k : ℕ) (l : i + 1 < length columns)
    (w : suc k < length (nodes_at columns (i + 1))) where
  -- if the joined index grows, there is an edge from it
  joined_by_edge : (kind : Kind) (found : Option ℕ) (j : ℕ) → (node_at (nodes_at columns (i + 1)) (suc k)).kind ≡ kind
      → last_up_to (nodes_at columns i) (node_at (nodes_at columns (i + 1)) (suc k)).number ≡ found
      → joined_by kind (joined_at columns i k) found ≡ j → joined_at columns i k < j
      → CrossEdge (nodes_at columns i) (nodes_at columns (i + 1)) j (suc k)
  joined_by_edge Zero found j e f g less = absurd (omega (arith, g, less))
  joined_by_edge Continue found j e f g less = absurd (omega (arith, g, less))
  joined_by_edge Wait None j e f g less = absurd (omega (arith, g, less))
  joined_by_edge Wait (Some q) j e f g less =
      let s : q ≡ j = omega (arith, g, less) in
      WaitCross j (suc k) w e ((last_up_to_found (nodes_at columns i)
      (node_at (nodes_at columns (i + 1)) (suc k)).number).some j (f ∙ ap Some s))

  -- the reach of the instance above
  pub reach_of_next : (nodes_at columns (suc i) ≡ nodes_at columns (i + 1))
      → reach columns (suc i) k i ≡ joined_at columns i k
  reach_of_next e = reach_left columns i k i (omega arith) ∙ reach_here columns i (joined_at columns i k)

  -- i + 1 is the next column
  pub column_same : nodes_at columns (suc i) ≡ nodes_at columns (i + 1)
  column_same = let e : suc i ≡ i + 1 = omega arith in ap (nodes_at columns) e

  -- a left parent is such a source
  left_parent_is_source : (j : ℕ) → left_parent columns (suc i) (suc k) ≡ Some j
      → CrossEdge (nodes_at columns i) (nodes_at columns (i + 1)) j (suc k)
      × (Precedes columns (at i j) (at (suc i) k) → ⊥)
  left_parent_is_source j e =
      let h = left_is columns i (suc k) j e in
      let near = h.nearest k (omega arith) in (
        joined_by_edge (node_at (nodes_at columns (i + 1)) (suc k)).kind
            (last_up_to (nodes_at columns i) (node_at (nodes_at columns (i + 1)) (suc k)).number) j refl refl h.joins
            near,
        (λ p. let b = below_path ok p in let q = b.within (omega arith) in let r =
            reach_of_next column_same in omega (arith, q, r, near)),
      )

  -- such a source is the left parent
  source_is_left_parent : {j q : ℕ} → q ≡ suc k → CrossEdge (nodes_at columns i) (nodes_at columns (i + 1)) j q
      → (Precedes columns (at i j) (at (suc i) k) → ⊥) → left_parent columns (suc i) (suc k) ≡ Some j
  source_is_left_parent s (HeadCross a b) never = absurd (omega (arith, s))
  source_is_left_parent s (WaitCross j q u v it) never =
      let v' : (node_at (nodes_at columns (i + 1)) (suc k)).kind ≡ Wait =
      subst (λ p. (node_at (nodes_at columns (i + 1)) p).kind ≡ Wait) s v in
      let it' : IsLastUpTo (nodes_at columns i) j (node_at (nodes_at columns (i + 1)) (suc k)).number =
      subst (λ p. IsLastUpTo (nodes_at columns i) j (node_at (nodes_at columns (i + 1)) p).number) s it in
      let found = last_up_to_is (nodes_at columns i) (node_at (nodes_at columns (i + 1)) (suc k)).number j it' in
      elim (cases_lt (joined_at columns i k) j) [
        | inl less ↦ left_wait columns i k j v' found
            ∙ ap (λ b. cond b (Some j) None) (lt-ltb (joined_at columns i k) j less)
        | inr ge ↦ absurd (never (path_below columns ok i j (suc i) k
            (record {
              column = omega arith;
              place = λ e. absurd (omega (arith, e));
              within = λ e. (
                  let r = reach_of_next column_same in
                  omega (arith, r, ge));
            })
            (omega arith) (let z = ap length column_same in omega (arith, w, z))))
      ]

  -- the left parent in the words of the law
  pub left_parent_means : (j : ℕ)
      → (left_parent columns (suc i) (suc k) ≡ Some j)
      ↔ (CrossEdge (nodes_at columns i) (nodes_at columns (i + 1)) j (suc k)
      × (Precedes columns (at i j) (at (suc i) k) → ⊥))
  left_parent_means j = (left_parent_is_source j, λ c. source_is_left_parent refl c.0 c.1)
