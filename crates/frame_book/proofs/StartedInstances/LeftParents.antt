-- What the search finds is the left parent.
use Rattle.std.proofs.Common.{◌≡◌, ℕ, ℤ, zero, suc, ◌+◌, ◌<◌, ◌≤◌, ◌<ℤ◌, ◌≤ℤ◌, List, length, map, refl, ap, ap₂, sym, ◌∙◌, arith, subst}
use Rattle.std.proofs.Common.{cond, ltb, Option, Some, None, IfSome, IfNone, max}
use Rattle.std.proofs.lemmas.Bool.{lt-ltb, le-ltb}
use Rattle.std.proofs.lemmas.Int.{ints}
use Rattle.std.proofs.lemmas.List.{length-map}
use Rattle.std.specs.Option.{unwrap_or}
use Rattle.left_parent.specs.LastNumber.{IsLastUpTo as IsLastNumber}
use Rattle.pipe_model.specs.declared.node.Kind.{Kind}
use Rattle.pipe_model.specs.declared.node.Kind.TheVariants.{Zero, Wait, Continue}
use Rattle.pipe_model.specs.declared.node.Node.{Node}
use Rattle.pipe_model.specs.Pipelines.Behaviour.{node_of}
use Rattle.pipe_model.specs.Races.Columns.{node_at, nodes_at}
use Rattle.pipe_model.specs.Races.Dag.{IsLastUpTo}
use Rattle.pipe_model.specs.Orders.LeftParent.{last_up_to, joined_by, joined_at, left_parent}
use Rattle.pipe_frame.specs.RunningTokens.{left_joined}
use Rattle.run_laws.proofs.ListOrders.JoinedPlaces.{last_up_to_is, last_up_to_found}
use Rattle.run_laws.proofs.ListOrders.StableLeftParents.{left_wait, left_without_growth}
use Rattle.frame_rows.specs.IterationRows.{WaitsAt}
use Rattle.frame_rows.proofs.FrameRows.{number_at}

-- the last index up to a stage number is the same in a column's numbers as in its instances
pub last_at_is : (nodes : List Node) (j : ℕ) (s : ℤ) → IsLastNumber (map (λ n. n.number) nodes) j s → IsLastUpTo nodes j s
last_at_is nodes j s h = let w = length-map nodes (λ (n : Node). n.number) in record {
  within = (let l = h.within in omega (arith, w, l));
  up_to = subst (λ z. z ≤ℤ s) (number_at nodes j) h.up_to;
  last = λ k a b. subst (λ z. s <ℤ z) (number_at nodes k) (h.last k a (omega (arith, w, b)));
}

pub is_last_at : (nodes : List Node) (j : ℕ) (s : ℤ) → IsLastUpTo nodes j s → IsLastNumber (map (λ n. n.number) nodes) j s
is_last_at nodes j s h = let w = length-map nodes (λ (n : Node). n.number) in record {
  within = (let l = h.within in omega (arith, w, l));
  up_to = subst (λ z. z ≤ℤ s) (sym (number_at nodes j)) h.up_to;
  last = λ k a b. subst (λ z. s <ℤ z) (sym (number_at nodes k)) (h.last k a (omega (arith, w, b)));
}

-- what was found is the left parent, and gives the joined index
pub record IsLeft (columns : List (List Node)) (i k joined : ℕ) (left : Option ℕ) : Type 0 where
  pub parent : left ≡ left_parent columns i (suc k)
  pub joins : unwrap_or left joined ≡ left_joined columns i (suc k)

module _ (columns : List (List Node)) (a k before : ℕ) (kind : Kind) (number : ℤ)
    (here : node_at (nodes_at columns (a + 1)) (suc k) ≡ node_of kind number) (joined_is : before ≡ joined_at columns a k) where
  next_is : joined_at columns a (suc k) ≡ joined_by kind (joined_at columns a k) (last_up_to (nodes_at columns a) number)
  next_is = ap (λ (m : Node). joined_by m.kind (joined_at columns a k) (last_up_to (nodes_at columns a) m.number)) here

  -- an instance whose joined index is that of the one above has no left parent
  left_none : joined_by kind (joined_at columns a k) (last_up_to (nodes_at columns a) number) ≡ joined_at columns a k
      → IsLeft columns (suc a) k before None
  left_none e = record {
    parent = sym (left_without_growth columns a k (next_is ∙ e));
    joins = joined_is ∙ sym (next_is ∙ e);
  }

  -- the left column has a last index
  last_known : (j : ℕ) → kind ≡ Wait → IsLastUpTo (nodes_at columns a) j number
      → (left_parent columns (suc a) (suc k) ≡ cond (ltb (joined_at columns a k) j) (Some j) None)
      × (joined_at columns a (suc k) ≡ max (joined_at columns a k) j)
  last_known j w l =
      let found : last_up_to (nodes_at columns a) number ≡ Some j = last_up_to_is (nodes_at columns a) number j l in (
        left_wait columns a k j (ap (λ (m : Node). m.kind) here ∙ w)
            (ap (λ (m : Node). last_up_to (nodes_at columns a) m.number) here ∙ found),
        next_is ∙ ap₂ (λ q f. joined_by q (joined_at columns a k) f) w found,
      )

  left_some : (j : ℕ) → kind ≡ Wait → before < j → IsLastUpTo (nodes_at columns a) j number → IsLeft columns (suc a) k before (Some j)
  left_some j w less l =
      let q = last_known j w l in
      let q' = q.1 in
      let less' : joined_at columns a k < j = omega (arith, less, joined_is) in
      record {
        parent = sym (q.0 ∙ ap (λ t. cond t (Some j) None) (lt-ltb (joined_at columns a k) j less'));
        joins = omega (arith, q', less');
      }

  left_past : (j : ℕ) → kind ≡ Wait → j ≤ before → IsLastUpTo (nodes_at columns a) j number → IsLeft columns (suc a) k before None
  left_past j w le l =
      let q = last_known j w l in
      let q' = q.1 in
      record {
        parent = sym (q.0 ∙ ap (λ t. cond t (Some j) None) (le-ltb (joined_at columns a k) j (omega (arith, le, joined_is))));
        joins = omega (arith, q', le, joined_is);
      }

  -- what was found for an instance that waits is its left parent
  left_waits : (left : Option ℕ) → kind ≡ Wait → 0 < length (nodes_at columns a) → (node_at (nodes_at columns a) 0).number ≤ℤ number
      → IfSome left (λ j. (before < j) × IsLastNumber (map (λ n. n.number) (nodes_at columns a)) j number)
      → IfNone left ((j : ℕ) → IsLastNumber (map (λ n. n.number) (nodes_at columns a)) j number → j ≤ before)
      → IsLeft columns (suc a) k before left
  left_waits (Some j) w full first some nothing = left_some j w some.0 (last_at_is (nodes_at columns a) j number some.1)
  left_waits None w full first some nothing = by (last_up_to (nodes_at columns a) number) refl
    where
      by : (found : Option ℕ) → last_up_to (nodes_at columns a) number ≡ found → IsLeft columns (suc a) k before None
      by None e = absurd (let q = (last_up_to_found (nodes_at columns a) number).none e 0 full in omega (arith, ints, q, first))
      by (Some j) e = let l = (last_up_to_found (nodes_at columns a) number).some j e in left_past j w
          (nothing j (is_last_at (nodes_at columns a) j number l)) l

-- what the search finds is the left parent
pub left_found : (columns : List (List Node)) (i k before : ℕ) (kind : Kind) (number : ℤ) (left : Option ℕ) (numbers : List ℤ)
    → node_at (nodes_at columns i) (suc k) ≡ node_of kind number → before ≡ left_joined columns i k
    → ((a : ℕ) → i ≡ suc a → (numbers ≡ map (λ n. n.number) (nodes_at columns a)) × (0 < length (nodes_at columns a))
    × (kind ≡ Wait → (node_at (nodes_at columns a) 0).number ≤ℤ number))
    → ((WaitsAt kind i → ⊥) → left ≡ None)
    → (WaitsAt kind i → IfSome left (λ j. (before < j) × IsLastNumber numbers j number))
    → (WaitsAt kind i → IfNone left ((j : ℕ) → IsLastNumber numbers j number → j ≤ before))
    → IsLeft columns i k before left
left_found columns zero k before kind number left numbers here joined_is matches none some nothing =
    let e : left ≡ None = none (λ w. (let z = w.1 in omega (arith, z))) in
    subst (IsLeft columns 0 k before) (sym e) (record { parent = refl; joins = joined_is })
left_found columns (suc a) k before kind number left numbers here joined_is matches none some nothing =
    let e : suc a ≡ a + 1 = omega arith in
    let here' = subst (λ d. node_at (nodes_at columns d) (suc k) ≡ node_of kind number) e here in
    by kind refl here'
  where
    by : (q : Kind) → kind ≡ q → node_at (nodes_at columns (a + 1)) (suc k) ≡ node_of kind number → IsLeft columns (suc a) k before left
    by Zero s here' = subst (IsLeft columns (suc a) k before) (sym (none (λ w. (let z : Zero ≡ Wait = sym s ∙ w.0 in absurd (cc)))))
        (left_none columns a k before kind number here' joined_is
        (ap (λ q. joined_by q (joined_at columns a k) (last_up_to (nodes_at columns a) number)) s))
    by Continue s here' = subst (IsLeft columns (suc a) k before)
        (sym (none (λ w. (let z : Continue ≡ Wait = sym s ∙ w.0 in absurd (cc)))))
        (left_none columns a k before kind number here' joined_is
        (ap (λ q. joined_by q (joined_at columns a k) (last_up_to (nodes_at columns a) number)) s))
    by Wait s here' =
        let t = matches a refl in
        let w : WaitsAt kind (suc a) = (s, omega arith) in
        left_waits columns a k before kind number here' joined_is left s t.1 (t.2 s)
        (subst (λ ns. IfSome left (λ j. (before < j) × IsLastNumber ns j number)) t.0 (some w))
        (subst (λ ns. IfNone left ((j : ℕ) → IsLastNumber ns j number → j ≤ before)) t.0 (nothing w))
