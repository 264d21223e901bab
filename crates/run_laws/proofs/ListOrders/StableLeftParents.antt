-- Left parents do not change while the columns grow.
use Rattle.std.proofs.Common.{ℤ, false, ◌≡◌, ◌<ℤ◌, arith, List, [], ◌∷◌, ◌++◌, ap, ℕ, ap₂, refl, ◌≤◌, zero, suc, ◌∙◌, length, ◌<◌, ◌+◌}
use Rattle.std.proofs.Common.{subst, cond, ltb, inl, inr, sym}
use Rattle.std.proofs.lemmas.Bool.{cases_lt, le-ltb}
use Rattle.std.proofs.lemmas.Int.{ints}
use Rattle.std.specs.Prelude.{int_le}
use Rattle.std.specs.declared.option.Option.{Option}
use Rattle.std.specs.declared.option.Option.TheVariants.{None, Some}
use Rattle.pipe_model.specs.Races.Columns.{node_at, nodes_at}
use Rattle.pipe_model.specs.Orders.LeftParent.{last_up_to, before_rest, joined_by, later_place, joined, joined_at, left_parent}
use Rattle.pipe_model.specs.declared.node.Kind.{Kind}
use Rattle.pipe_model.specs.declared.node.Kind.TheVariants.{Wait, Zero, Continue}
use Rattle.pipe_model.specs.declared.node.Node.{Node}
use Rattle.run_laws.specs.OrderLaws.{LeftParentsAreFound}

-- a greater number is not at most this one
above : (a b : ℤ) → a <ℤ b → int_le b a ≡ false
above a b h = grind (arith, ints)

-- an instance with a greater number is not found
pub last_up_to-push : (nodes : List Node) (new : Node) (s : ℤ) → s <ℤ new.number
    → last_up_to (nodes ++ new ∷ []) s ≡ last_up_to nodes s
last_up_to-push [] new s l = ap (before_rest None) (above s new.number l)
last_up_to-push (n ∷ ns) new s l = ap (λ f. before_rest f (int_le n.number s)) (last_up_to-push ns new s l)

-- equal parts have equal joined indices
joined_by_same : (kind : Kind) (k k' : ℕ) (f f' : Option ℕ) → k ≡ k' → (kind ≡ Wait → f ≡ f')
    → joined_by kind k f ≡ joined_by kind k' f'
joined_by_same Zero k k' f f' e h = e
joined_by_same Continue k k' f f' e h = e
joined_by_same Wait k k' f f' e h = ap₂ later_place e (h refl)

-- columns that agree up to an index have its joined index
pub joined_same_lists : (left left' right right' : List Node) (k : ℕ)
    → ((q : ℕ) → q ≤ k → node_at right' q ≡ node_at right q)
    → ((q : ℕ) → q ≤ k → (node_at right q).kind ≡ Wait
    → last_up_to left' (node_at right q).number ≡ last_up_to left (node_at right q).number)
    → joined left' right' k ≡ joined left right k
joined_same_lists left left' right right' zero h f = refl
joined_same_lists left left' right right' (suc k) h f =
    let same = h (suc k) (omega arith) in
    let rest = joined_same_lists left left' right right' k (λ q l. h q (omega arith)) (λ q l. f q (omega arith)) in
    ap (λ (m : Node). joined_by m.kind (joined left' right' k) (last_up_to left' m.number)) same
    ∙ joined_by_same (node_at right (suc k)).kind (joined left' right' k) (joined left right k)
    (last_up_to left' (node_at right (suc k)).number) (last_up_to left (node_at right (suc k)).number) rest
    (f (suc k) (omega arith))

module _ (columns columns' : List (List Node)) (nodes : (a q : ℕ) → q < length (nodes_at columns (suc a))
    → node_at (nodes_at columns' (suc a)) q ≡ node_at (nodes_at columns (suc a)) q)
    (finds : (a q : ℕ) → q < length (nodes_at columns (suc a)) → (node_at (nodes_at columns (suc a)) q).kind ≡ Wait
    → last_up_to (nodes_at columns' a) (node_at (nodes_at columns (suc a)) q).number
    ≡ last_up_to (nodes_at columns a) (node_at (nodes_at columns (suc a)) q).number) where
  -- joined indices stay the same
  pub joined_same : (a k : ℕ) → k < length (nodes_at columns (suc a)) → joined_at columns' a k ≡ joined_at columns a k
  joined_same a k l =
      let e : suc a ≡ a + 1 = omega arith in
      subst (λ d. joined (nodes_at columns' a) (nodes_at columns' d) k
      ≡ joined (nodes_at columns a) (nodes_at columns d) k) e
      (joined_same_lists (nodes_at columns a) (nodes_at columns' a) (nodes_at columns (suc a))
      (nodes_at columns' (suc a)) k (λ q w. nodes a q (omega arith)) (λ q w. finds a q (omega arith)))

  -- left parents stay the same
  pub left_same : (c k : ℕ) → k < length (nodes_at columns c) → left_parent columns' c k ≡ left_parent columns c k
  left_same zero k l = refl
  left_same (suc a) zero l = refl
  left_same (suc a) (suc k) l =
      ap₂ (λ x y. cond (ltb x y) (Some y) None) (joined_same a k (omega arith)) (joined_same a (suc k) l)

-- `left_wait`, by the joined index
left_wait_by : (x j : ℕ)
    → cond (ltb x (later_place x (Some j))) (Some (later_place x (Some j))) None ≡ cond (ltb x j) (Some j) None
left_wait_by x j = elim (cases_lt x j) [
  | inl less ↦ (let m : later_place x (Some j) ≡ j = omega arith in ap (λ y. cond (ltb x y) (Some y) None) m)
  | inr ge ↦ (
      let m : later_place x (Some j) ≡ x = omega arith in
      ap (λ y. cond (ltb x y) (Some y) None) m
      ∙ (ap (λ b. cond b (Some x) None) (le-ltb x x (omega arith))
      ∙ ap (λ b. cond b (Some j) None) (sym (le-ltb x j ge))))
]

-- the left parent by a search of the left column: none if the index that is found is at most the one joined so far
pub left_wait : (columns : List (List Node)) (a k j : ℕ) → (node_at (nodes_at columns (a + 1)) (suc k)).kind ≡ Wait
    → last_up_to (nodes_at columns a) (node_at (nodes_at columns (a + 1)) (suc k)).number ≡ Some j
    → left_parent columns (suc a) (suc k) ≡ cond (ltb (joined_at columns a k) j) (Some j) None
left_wait columns a k j w f =
    let e : joined_at columns a (suc k) ≡ later_place (joined_at columns a k) (Some j) =
    ap₂ (λ kind found. joined_by kind (joined_at columns a k) found) w f in
    ap (λ y. cond (ltb (joined_at columns a k) y) (Some y) None) e ∙ left_wait_by (joined_at columns a k) j

-- an instance with the joined index of the instance above has no left parent
pub left_without_growth : (columns : List (List Node)) (a k : ℕ) → joined_at columns a (suc k) ≡ joined_at columns a k
    → left_parent columns (suc a) (suc k) ≡ None
left_without_growth columns a k e =
    ap (λ y. cond (ltb (joined_at columns a k) y) (Some y) None) e
    ∙ ap (λ b. cond b (Some (joined_at columns a k)) None)
    (le-ltb (joined_at columns a k) (joined_at columns a k) (omega arith))

-- the law of searches for left parents
pub left_parents_are_found : LeftParentsAreFound
left_parents_are_found columns i k = record {
  wait = λ j w found. left_wait columns i k j w found;
  nothing = λ w found. left_without_growth columns i k
      (ap₂ (λ kind place. joined_by kind (joined_at columns i k) place) w found);
  continue = λ c. left_without_growth columns i k (ap (λ kind. joined_by kind (joined_at columns i k)
      (last_up_to (nodes_at columns i) (node_at (nodes_at columns (i + 1)) (suc k)).number)) c);
}
