-- Starts after a column has grown by one instance.
use Rattle.std.proofs.Common.{List, ℕ, ◌≡◌, [], ◌∷◌, ◌++◌, ◌≢◌, length, ◌≤◌, ◌<◌, suc, ap, length-append, arith, ◌+◌, ◌∙◌, ◌⊎◌, inl, inr}
use Rattle.std.proofs.Common.{refl, ap₂, ◌<ℤ◌, subst, sym}
use Rattle.std.proofs.lemmas.Bool.{cases_eq, cases_lt}
use Rattle.std.proofs.lemmas.List.{get_or_push}
use Rattle.pipe_model.specs.Races.Columns.{nodes_at, at, node_at, no_node}
use Rattle.pipe_model.specs.Races.Dag.{CrossEdge, HeadCross, WaitCross, Edge, DownEdge, AcrossEdge}
use Rattle.pipe_model.specs.Orders.LeftParent.{last_up_to, left_parent, joined_at}
use Rattle.pipe_model.specs.Orders.Starts.{AreStarts, start_number, IsStarted}
use Rattle.pipe_model.specs.declared.node.Kind.TheVariants.{Wait}
use Rattle.pipe_model.specs.declared.node.Node.{Node}
use Rattle.pipe_model.specs.declared.node.NodeId.{NodeId}
use Rattle.run_laws.proofs.ListOrders.OneMoreStart.{GrowsBy, start_old, start_new, starts_grown}
use Rattle.run_laws.proofs.ListOrders.StableLeftParents.{last_up_to-push, left_same, joined_same}
use Rattle.run_laws.proofs.RunStates.LaterEdges.{ExtendsColumns, old_edge}

-- column i has one more instance
pub record AddsNode (columns columns' : List (List Node)) (i : ℕ) (new : Node) : Type 0 where
  pub here : nodes_at columns' i ≡ nodes_at columns i ++ new ∷ []
  pub other : (j : ℕ) → j ≢ i → nodes_at columns' j ≡ nodes_at columns j
  pub longer : length columns ≤ length columns'
  pub within : i < length columns'

-- the source of an edge across is in the left column
pub cross_source_within : {left right : List Node} {j k : ℕ} → CrossEdge left right j k → j < length left
cross_source_within (HeadCross x y) = x
cross_source_within (WaitCross j k u v it) = it.within

module _ (columns columns' : List (List Node)) (starts : List NodeId) (i : ℕ) (new : Node)
    (a : AddsNode columns columns' i new) (x : ExtendsColumns columns columns')
    (ordered : AreStarts columns starts) (all : (c k : ℕ) → k < length (nodes_at columns c)
    → start_number starts c k < length starts) where
  -- the column is longer by one
  long_here : length (nodes_at columns' i) ≡ suc (length (nodes_at columns i))
  long_here = ap length a.here ∙ (length-append (nodes_at columns i) (new ∷ []) ∙ (
      let e : length (nodes_at columns i) + 1 ≡ suc (length (nodes_at columns i)) = omega arith in
      e))

  -- an index of the grown columns is an old one, or the new one
  old_or_new : (c k : ℕ) → k < length (nodes_at columns' c)
      → (k < length (nodes_at columns c)) ⊎ ((c ≡ i) × (k ≡ length (nodes_at columns i)))
  old_or_new c k l = elim (cases_eq c i) [
    | inl s ↦ (
        let e : length (nodes_at columns' c) ≡ length (nodes_at columns' i) =
        ap (λ d. length (nodes_at columns' d)) s in
        let e' : length (nodes_at columns c) ≡ length (nodes_at columns i) =
        ap (λ d. length (nodes_at columns d)) s in
        let n = long_here in
        elim (cases_lt k (length (nodes_at columns c))) [
          | inl less ↦ inl less
          | inr ge ↦ inr (s, omega (arith, e, e', n))
        ])
    | inr n ↦ (let e = ap length (a.other c n) in inl (omega (arith, e)))
  ]

  -- each instance with an edge to the new one has started
  edge_into : {y z : NodeId} → Edge columns' y z → z ≡ at i (length (nodes_at columns i)) → IsStarted starts y
  edge_into (DownEdge c k w) e =
      let p : c ≡ i = ap (λ (m : NodeId). m.iteration) e in
      let q : k + 1 ≡ length (nodes_at columns i) = ap (λ (m : NodeId). m.index) e in
      let r : length (nodes_at columns c) ≡ length (nodes_at columns i) = ap (λ d. length (nodes_at columns d)) p in
      all c k (omega (arith, q, r))
  edge_into (AcrossEdge c j k edge) e =
      let p : c + 1 ≡ i = ap (λ (m : NodeId). m.iteration) e in
      let off : c ≢ i = λ s. (omega (arith, s, p)) in
      let w = cross_source_within edge in
      let l = ap length (a.other c off) in
      all c j (omega (arith, w, l))

  -- the new instance has not started
  is_new : length starts ≤ start_number starts i (length (nodes_at columns i))
  is_new = elim (cases_lt (start_number starts i (length (nodes_at columns i))) (length starts)) [
    | inl less ↦ (let v = ordered.inside (at i (length (nodes_at columns i))) less in absurd (omega (arith, v)))
    | inr ge ↦ ge
  ]

  -- the starts grow by the new instance
  pub grows : GrowsBy columns columns' starts (at i (length (nodes_at columns i)))
  grows = record {
    new = is_new;
    inside = (a.within, (let l = long_here in omega (arith, l)));
    stays = λ y s. (
        let v = ordered.inside y s in
        let w = a.longer in
        let l = x.longer y.iteration in
        (omega (arith, v, w), omega (arith, v, l)));
    old = λ y z e s. (old_edge columns columns' y z x e (ordered.inside z s).1).edge;
    into = λ y e. edge_into e refl;
  }

  -- all instances of the grown columns have started
  pub all_grown : (c k : ℕ) → k < length (nodes_at columns' c)
      → start_number (starts ++ at i (length (nodes_at columns i)) ∷ []) c k < length
      (starts ++ at i (length (nodes_at columns i)) ∷ [])
  all_grown c k l =
      let long = length-append starts (at i (length (nodes_at columns i)) ∷ []) in
      elim (old_or_new c k l) [
        | inl old ↦ (
            let s = all c k old in
            let e = start_old starts (at i (length (nodes_at columns i))) c k s in
            omega (arith, s, e, long))
        | inr both ↦ (
            let e = start_new starts (at i (length (nodes_at columns i))) is_new in
            let q : start_number (starts ++ at i (length (nodes_at columns i)) ∷ []) c k
            ≡ start_number (starts ++ at i (length (nodes_at columns i)) ∷ []) i (length (nodes_at columns i)) =
            ap₂ (start_number (starts ++ at i (length (nodes_at columns i)) ∷ [])) both.0 both.1 in
            omega (arith, e, q, long))
      ]

  -- the longer list is a list of starts of the grown columns
  pub ordered_grown : AreStarts columns' (starts ++ at i (length (nodes_at columns i)) ∷ [])
  ordered_grown = starts_grown columns columns' starts (at i (length (nodes_at columns i))) ordered grows

  -- the new number is greater than all that the next column waits for
  pub above_awaited : (k : ℕ) → k < length (nodes_at columns (suc i))
      → (node_at (nodes_at columns (suc i)) k).kind ≡ Wait
      → (node_at (nodes_at columns (suc i)) k).number <ℤ new.number
  above_awaited k l w =
      let e : i + 1 ≡ suc i = omega arith in
      let there : node_at (nodes_at columns' i) (length (nodes_at columns i)) ≡ new =
      ap (λ ns. node_at ns (length (nodes_at columns i))) a.here
      ∙ get_or_push (nodes_at columns i) new no_node (length (nodes_at columns i)) refl in
      let long = long_here in
      let up = subst (λ d. k < length (nodes_at columns d) → (node_at (nodes_at columns d) k).kind ≡ Wait
      → (node_at (nodes_at columns d) k).number <ℤ (node_at (nodes_at columns' i)
      (length (nodes_at columns i))).number) e
      (λ l' w'. x.beyond i (length (nodes_at columns i)) k (omega arith) (omega (arith, long)) l' w') l w in
      subst (λ (m : Node). (node_at (nodes_at columns (suc i)) k).number <ℤ m.number) there up

  -- the indices that the next column waits for stay the same
  last_up_to_stays : (c k : ℕ) → k < length (nodes_at columns (suc c))
      → (node_at (nodes_at columns (suc c)) k).kind ≡ Wait
      → last_up_to (nodes_at columns' c) (node_at (nodes_at columns (suc c)) k).number
      ≡ last_up_to (nodes_at columns c) (node_at (nodes_at columns (suc c)) k).number
  last_up_to_stays c k l w = elim (cases_eq c i) [
    | inl s ↦ subst (λ d. k < length (nodes_at columns (suc d)) → (node_at (nodes_at columns (suc d)) k).kind ≡ Wait
        → last_up_to (nodes_at columns' d) (node_at (nodes_at columns (suc d)) k).number
        ≡ last_up_to (nodes_at columns d) (node_at (nodes_at columns (suc d)) k).number) (sym s)
        (λ l' w'. ap (λ ns. last_up_to ns (node_at (nodes_at columns (suc i)) k).number) a.here
        ∙ last_up_to-push (nodes_at columns i) new (node_at (nodes_at columns (suc i)) k).number
        (above_awaited k l' w')) l w
    | inr o ↦ ap (λ ns. last_up_to ns (node_at (nodes_at columns (suc c)) k).number) (a.other c o)
  ]

  -- the left parents of the old instances stay the same
  pub lefts_stay : (c k : ℕ) → k < length (nodes_at columns c) → left_parent columns' c k ≡ left_parent columns c k
  lefts_stay c k l = left_same columns columns' (λ d q w. x.same (suc d) q w) last_up_to_stays c k l

  -- and so do their joined indices
  pub joins_stay : (d k : ℕ) → k < length (nodes_at columns (suc d)) → joined_at columns' d k ≡ joined_at columns d k
  joins_stay d k l = joined_same columns columns' (λ e q w. x.same (suc e) q w) last_up_to_stays d k l
