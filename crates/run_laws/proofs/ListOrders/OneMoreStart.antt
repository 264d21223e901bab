-- A list of starts with one more start.
use Rattle.std.proofs.Common.{List, ℕ, Bool, eqb, ◌≡◌, ◌&&◌, length, ◌<◌, [], ◌∷◌, ◌++◌, true, refl, false, suc, ap, arith, ◌≤◌, eq-eqb}
use Rattle.std.proofs.Common.{◌⊎◌, inl, inr, ap₂, length-append, ◌+◌, ◌∙◌, subst, sym}
use Rattle.std.proofs.lemmas.Bool.{and_from, and_parts, eqb-true, cases_lt}
use Rattle.std.proofs.lemmas.List.{get_or_append_left, get_or_push}
use Rattle.pipe_model.specs.Races.Columns.{at, nodes_at}
use Rattle.pipe_model.specs.Races.Dag.{Edge}
use Rattle.pipe_model.specs.Orders.Starts.{start_number, IsStarted, AreStarts, start_at}
use Rattle.pipe_model.specs.declared.node.Node.{Node}
use Rattle.pipe_model.specs.declared.node.NodeId.{NodeId}

-- `start_old`, by the test
start_old_by : (x : NodeId) (xs : List NodeId) (y : NodeId) (i k : ℕ) (t : Bool)
    → (eqb x.iteration i && eqb x.index k) ≡ t
    → (start_number xs i k < length xs → start_number (xs ++ y ∷ []) i k ≡ start_number xs i k)
    → start_number (x ∷ xs) i k < length (x ∷ xs)
    → start_number (x ∷ xs ++ y ∷ []) i k ≡ start_number (x ∷ xs) i k
start_old_by x xs y i k true e ih l = rw e refl
start_old_by x xs y i k false e ih l =
    let l' : suc (start_number xs i k) < suc (length xs) = rw e at l in
    rw e (ap suc (ih (omega (arith, l'))))

-- started instances keep their numbers
pub start_old : (starts : List NodeId) (y : NodeId) (i k : ℕ) → start_number starts i k < length starts
    → start_number (starts ++ y ∷ []) i k ≡ start_number starts i k
start_old [] y i k l = absurd (omega arith)
start_old (x ∷ xs) y i k l = start_old_by x xs y i k (eqb x.iteration i && eqb x.index k) refl (start_old xs y i k) l

-- `start_new`, by the test
start_new_by : (x : NodeId) (xs : List NodeId) (y : NodeId) (t : Bool)
    → (eqb x.iteration y.iteration && eqb x.index y.index) ≡ t
    → (length xs ≤ start_number xs y.iteration y.index → start_number (xs ++ y ∷ []) y.iteration y.index ≡ length xs)
    → length (x ∷ xs) ≤ start_number (x ∷ xs) y.iteration y.index
    → start_number (x ∷ xs ++ y ∷ []) y.iteration y.index ≡ length (x ∷ xs)
start_new_by x xs y true e ih l = let l' : suc (length xs) ≤ 0 = rw e at l in absurd (omega (arith, l'))
start_new_by x xs y false e ih l =
    let l' : suc (length xs) ≤ suc (start_number xs y.iteration y.index) = rw e at l in
    rw e (ap suc (ih (omega (arith, l'))))

-- the new start has the next number
pub start_new : (starts : List NodeId) (y : NodeId) → length starts ≤ start_number starts y.iteration y.index
    → start_number (starts ++ y ∷ []) y.iteration y.index ≡ length starts
start_new [] y l =
    let t : (eqb y.iteration y.iteration && eqb y.index y.index) ≡ true =
    and_from _ _ (eq-eqb y.iteration y.iteration refl) (eq-eqb y.index y.index refl) in
    rw t refl
start_new (x ∷ xs) y l =
    start_new_by x xs y (eqb x.iteration y.iteration && eqb x.index y.index) refl (start_new xs y) l

-- `start_either`, by the test
start_either_by : (x : NodeId) (xs : List NodeId) (y : NodeId) (i k : ℕ) (t : Bool)
    → (eqb x.iteration i && eqb x.index k) ≡ t
    → (start_number (xs ++ y ∷ []) i k < length (xs ++ y ∷ []) → (start_number xs i k < length xs) ⊎ (y ≡ at i k))
    → start_number (x ∷ xs ++ y ∷ []) i k < length (x ∷ xs ++ y ∷ [])
    → (start_number (x ∷ xs) i k < length (x ∷ xs)) ⊎ (y ≡ at i k)
start_either_by x xs y i k true e ih l = inl (rw e (omega arith))
start_either_by x xs y i k false e ih l =
    let l' : suc (start_number (xs ++ y ∷ []) i k) < suc (length (xs ++ y ∷ [])) = rw e at l in
    elim (ih (omega (arith, l'))) [
      | inl less ↦ inl (rw e (omega (arith, less)))
      | inr same ↦ inr same
    ]

-- an instance that has started had started before, or is the new one
pub start_either : (starts : List NodeId) (y : NodeId) (i k : ℕ)
    → start_number (starts ++ y ∷ []) i k < length (starts ++ y ∷ [])
    → (start_number starts i k < length starts) ⊎ (y ≡ at i k)
start_either [] y i k l = go (eqb y.iteration i && eqb y.index k) refl
  where
    go : (t : Bool) → (eqb y.iteration i && eqb y.index k) ≡ t → (0 < 0) ⊎ (y ≡ at i k)
    go true e =
        let p = and_parts (eqb y.iteration i) (eqb y.index k) e in
        inr (ap₂ at (eqb-true y.iteration i p.0) (eqb-true y.index k p.1))
    go false e = let l' : 1 < 1 = rw e at l in absurd (omega (arith, l'))
start_either (x ∷ xs) y i k l =
    start_either_by x xs y i k (eqb x.iteration i && eqb x.index k) refl (start_either xs y i k) l

-- one more start, in columns that may have grown by it
pub record GrowsBy (columns columns' : List (List Node)) (starts : List NodeId) (x : NodeId) : Type 0 where
  pub new : length starts ≤ start_number starts x.iteration x.index
  pub inside : (x.iteration < length columns') × (x.index < length (nodes_at columns' x.iteration))
  pub stays : (y : NodeId) → IsStarted starts y
      → (y.iteration < length columns') × (y.index < length (nodes_at columns' y.iteration))
  pub old : (y z : NodeId) → Edge columns' y z → IsStarted starts z → Edge columns y z
  pub into : (y : NodeId) → Edge columns' y x → IsStarted starts y

module _ (columns columns' : List (List Node)) (starts : List NodeId) (x : NodeId) (h : AreStarts columns starts)
    (g : GrowsBy columns columns' starts x) where
  -- the list has one more start
  length_grown : length (starts ++ x ∷ []) ≡ suc (length starts)
  length_grown = length-append starts (x ∷ []) ∙ (let e : length starts + 1 ≡ suc (length starts) = omega arith in e)

  -- in the longer list each instance starts once
  once_grown : (m : ℕ) → m < length (starts ++ x ∷ [])
      → start_number (starts ++ x ∷ []) (start_at (starts ++ x ∷ []) m).iteration
      (start_at (starts ++ x ∷ []) m).index ≡ m
  once_grown m l = let n = length_grown in elim (cases_lt m (length starts)) [
    | inl less ↦ (
        let e : start_at (starts ++ x ∷ []) m ≡ start_at starts m =
        get_or_append_left starts (x ∷ []) (at 0 0) m less in
        let o = h.once m less in
        let s = start_old starts x (start_at starts m).iteration (start_at starts m).index (omega (arith, o)) in
        ap (λ (y : NodeId). start_number (starts ++ x ∷ []) y.iteration y.index) e ∙ (s ∙ o))
    | inr ge ↦ (
        let z : length starts ≡ m = omega (arith, n) in
        let e : start_at (starts ++ x ∷ []) m ≡ x = get_or_push starts x (at 0 0) m z in
        ap (λ (y : NodeId). start_number (starts ++ x ∷ []) y.iteration y.index) e ∙ (start_new starts x g.new ∙ z))
  ]

  -- an instance that has started is one of the grown columns
  inside_grown : (y : NodeId) → IsStarted (starts ++ x ∷ []) y
      → (y.iteration < length columns') × (y.index < length (nodes_at columns' y.iteration))
  inside_grown y w = elim (start_either starts x y.iteration y.index w) [
    | inl old ↦ g.stays y old
    | inr same ↦ subst (λ (z : NodeId). (z.iteration < length columns')
        × (z.index < length (nodes_at columns' z.iteration))) same g.inside
  ]

  -- each instance starts after all that have an edge to it
  ordered_after : (y z : NodeId) → Edge columns' y z → IsStarted (starts ++ x ∷ []) z
      → start_number (starts ++ x ∷ []) y.iteration y.index < start_number (starts ++ x ∷ []) z.iteration z.index
  ordered_after y z e w = elim (start_either starts x z.iteration z.index w) [
    | inl old ↦ (
        let o = h.ordered y z (g.old y z e old) old in
        let a = start_old starts x y.iteration y.index (omega (arith, o, old)) in
        let b = start_old starts x z.iteration z.index old in
        omega (arith, o, a, b))
    | inr same ↦ (
        let s = g.into y (subst (λ (v : NodeId). Edge columns' y v) (sym same) e) in
        let a = start_old starts x y.iteration y.index s in
        let n = start_new starts x g.new in
        let b : start_number (starts ++ x ∷ []) x.iteration x.index
        ≡ start_number (starts ++ x ∷ []) z.iteration z.index =
        ap (λ (v : NodeId). start_number (starts ++ x ∷ []) v.iteration v.index) same in
        omega (arith, s, a, n, b))
  ]

  -- the longer list is a list of starts of the grown columns
  pub starts_grown : AreStarts columns' (starts ++ x ∷ [])
  starts_grown = record { once = once_grown; inside = inside_grown; ordered = ordered_after }
