-- The search of the numbers of the left column finds the left parent.
use Rattle.std.proofs.Common.{◌≡◌, ◌∙◌, refl, sym, ap, subst, ℕ, ℤ, zero, suc, pos, ◌+◌, ◌-◌, ◌<◌, ◌≤◌, ◌<ℤ◌, ◌≤ℤ◌, List, [], ◌∷◌, length}
use Rattle.std.proofs.Common.{map, arith, inl, inr, get_or, slice_index_or}
use Rattle.std.proofs.lemmas.Bool.{cases_lt, lt-ltb, le-ltb}
use Rattle.std.proofs.lemmas.List.{length-map}
use Rattle.std.specs.Prelude.{IfNone, IfSome, Option, Some, None}
use Rattle.left_parent.specs.LastNumber.{AreRising, IsLastUpTo as IsLastNumber}
use Rattle.left_parent.specs.declared.started.StartedNode.{StartedNode}
use Rattle.left_parent.specs.Parents.{IsAbove, joined_from, left_joined, numbers_of, parent_by}
use Rattle.pipe_model.specs.declared.column.Column.{Column}
use Rattle.pipe_model.specs.declared.node.Kind.{Kind}
use Rattle.pipe_model.specs.declared.node.Kind.TheVariants.{Zero, Wait, Continue}
use Rattle.pipe_model.specs.declared.node.Node.{Node}
use Rattle.pipe_model.specs.Orders.LeftParent.{joined_at, joined_by, last_up_to, left_parent}
use Rattle.pipe_model.specs.Races.Columns.{IsRising, node_at, nodes_at, node_columns}
use Rattle.pipe_model.specs.Races.Dag.{IsLastUpTo}
use Rattle.run_laws.proofs.ListOrders.JoinedPlaces.{joined_rises, last_up_to_found, last_up_to_is}
use Rattle.run_laws.proofs.ListOrders.StableLeftParents.{left_parents_are_found, left_without_growth}

abbrev pub numbers_in : List Node → List ℤ
numbers_in nodes = map (λ (n : Node). n.number) nodes

number_at : (nodes : List Node) (k : ℕ) → slice_index_or (numbers_in nodes) k (pos 0) ≡ (node_at nodes k).number
number_at [] k = refl
number_at (n ∷ ns) zero = refl
number_at (n ∷ ns) (suc k) = number_at ns k

pub rising_numbers : (nodes : List Node) → IsRising nodes → AreRising (numbers_in nodes)
rising_numbers nodes h j k l w =
    let long = length-map nodes (λ (n : Node). n.number) in
    subst (λ z. slice_index_or (numbers_in nodes) j (pos 0) <ℤ z) (sym (number_at nodes k))
    (subst (λ z. z <ℤ (node_at nodes k).number) (sym (number_at nodes j)) (h.rises j k l (omega (arith, w, long))))

last_of_numbers : (nodes : List Node) (s : ℤ) (j : ℕ) → IsLastNumber (numbers_in nodes) j s → IsLastUpTo nodes j s
last_of_numbers nodes s j h =
    let long = length-map nodes (λ (n : Node). n.number) in
    record {
      within = (let w = h.within in omega (arith, w, long));
      up_to = subst (λ z. z ≤ℤ s) (number_at nodes j) h.up_to;
      last = λ k l w. subst (λ z. s <ℤ z) (number_at nodes k) (h.last k l (omega (arith, w, long)));
    }

last_of_nodes : (nodes : List Node) (s : ℤ) (j : ℕ) → IsLastUpTo nodes j s → IsLastNumber (numbers_in nodes) j s
last_of_nodes nodes s j h =
    let long = length-map nodes (λ (n : Node). n.number) in
    record {
      within = (let w = h.within in omega (arith, w, long));
      up_to = subst (λ z. z ≤ℤ s) (sym (number_at nodes j)) h.up_to;
      last = λ k l w. subst (λ z. s <ℤ z) (sym (number_at nodes k)) (h.last k l (omega (arith, w, long)));
    }

-- what the search finds
pub found_is : (nodes : List Node) (numbers : List ℤ) (s : ℤ) (joined : ℕ) (found : Option ℕ) → numbers ≡ numbers_in nodes
    → IfSome found (λ j. IsLastNumber numbers j s) → IfSome found (λ j. joined < j)
    → IfNone found ((j : ℕ) → IsLastNumber numbers j s → j ≤ joined)
    → found ≡ parent_by Wait joined (last_up_to nodes s)
found_is nodes numbers s joined None same last later none =
    sym (by_last (last_up_to nodes s) (λ j q. (last_up_to_found nodes s).some j q))
  where
    by_last : (f : Option ℕ) → ((j : ℕ) → f ≡ Some j → IsLastUpTo nodes j s) → parent_by Wait joined f ≡ None
    by_last None h = refl
    by_last (Some j) h =
        let le = none j (subst (λ ns. IsLastNumber ns j s) (sym same) (last_of_nodes nodes s j (h j refl))) in
        rw (le-ltb joined j le) refl
found_is nodes numbers s joined (Some i) same last later none =
    let is = last_up_to_is nodes s i (last_of_numbers nodes s i (subst (λ ns. IsLastNumber ns i s) same last)) in
    let test = lt-ltb joined i later in
    sym (ap (parent_by Wait joined) is ∙ rw test refl)

-- the left parent of an instance below a head
pub left_parent_below : (columns : List (List Node)) (i k : ℕ) → left_parent columns (suc i) (suc k)
    ≡ parent_by (node_at (nodes_at columns (i + 1)) (suc k)).kind (joined_at columns i k)
    (last_up_to (nodes_at columns i) (node_at (nodes_at columns (i + 1)) (suc k)).number)
left_parent_below columns i k =
    let kind : Kind = (node_at (nodes_at columns (i + 1)) (suc k)).kind in
    by_kind kind refl
  where
    found : Option ℕ
    found = last_up_to (nodes_at columns i) (node_at (nodes_at columns (i + 1)) (suc k)).number

    by_found : (f : Option ℕ) → (node_at (nodes_at columns (i + 1)) (suc k)).kind ≡ Wait
        → last_up_to (nodes_at columns i) (node_at (nodes_at columns (i + 1)) (suc k)).number ≡ f
        → left_parent columns (suc i) (suc k) ≡ parent_by Wait (joined_at columns i k) f
    by_found None w q = (left_parents_are_found columns i k).nothing w q
    by_found (Some j) w q = (left_parents_are_found columns i k).wait j w q

    by_kind : (kind : Kind) → (node_at (nodes_at columns (i + 1)) (suc k)).kind ≡ kind
        → left_parent columns (suc i) (suc k) ≡ parent_by kind (joined_at columns i k)
        (last_up_to (nodes_at columns i) (node_at (nodes_at columns (i + 1)) (suc k)).number)
    by_kind Wait w = by_found (last_up_to (nodes_at columns i) (node_at (nodes_at columns (i + 1)) (suc k)).number) w refl
    by_kind Continue w = (left_parents_are_found columns i k).continue w
    by_kind Zero w = left_without_growth columns i k (ap (λ m. joined_by m (joined_at columns i k)
        (last_up_to (nodes_at columns i) (node_at (nodes_at columns (i + 1)) (suc k)).number)) w)

-- the joined index of an instance
pub joined_is : (columns : List (List Node)) (i k : ℕ) (above : Option StartedNode) → IsAbove columns i k above
    → joined_from (left_parent columns i k) above ≡ left_joined columns i k
joined_is columns zero zero above none = ap (joined_from None) none
joined_is columns zero (suc k) above some = ap (joined_from None) some.1 ∙ some.2
joined_is columns (suc i) zero above none = refl
joined_is columns (suc i) (suc k) above some = elim (cases_lt (joined_at columns i k) (joined_at columns i (suc k))) [
  | inl less ↦ rw (lt-ltb (joined_at columns i k) (joined_at columns i (suc k)) less) refl
  | inr ge ↦ (
      let rises = joined_rises (nodes_at columns i) (nodes_at columns (i + 1)) k (suc k) (omega arith) in
      rw (le-ltb (joined_at columns i k) (joined_at columns i (suc k)) ge)
      (ap (joined_from None) some.1 ∙ (some.2 ∙ omega (arith, ge, rises))))
]

-- the numbers of a column, read from the numbers of all columns
numbers_row : (columns : List (List Node)) (a : ℕ) (d : List ℤ) → a < length columns
    → get_or (numbers_of columns) a d ≡ numbers_in (nodes_at columns a)
numbers_row [] a d l = absurd (omega (arith, l))
numbers_row (c ∷ cs) zero d l = refl
numbers_row (c ∷ cs) (suc a) d l = numbers_row cs a d (omega (arith, l))

pub numbers_at : (columns : List (List Node)) (numbers : List (List ℤ)) → numbers ≡ numbers_of columns → (a : ℕ) (row : List ℤ)
    → row ≡ get_or numbers a row → a < length columns → row ≡ numbers_in (nodes_at columns a)
numbers_at columns numbers same a row e l = e ∙ (ap (λ ns. get_or ns a row) same ∙ numbers_row columns a row l)

-- the nodes of a column, read from the columns
pub nodes_read : (columns : List Column) (i : ℕ) (c : Column) → i < length columns
    → (get_or columns i c).nodes ≡ nodes_at (node_columns columns) i
nodes_read [] i c l = absurd (omega (arith, l))
nodes_read (x ∷ xs) zero c l = refl
nodes_read (x ∷ xs) (suc i) c l = nodes_read xs i c (omega (arith, l))

-- the left parent of an instance, if the instance above it is known
pub left_parent_is : (columns : List (List Node)) (i k : ℕ) (above : Option StartedNode) (a : StartedNode) → (i ≡ 0 → ⊥)
    → IsAbove columns i k above → above ≡ Some a
    → parent_by (node_at (nodes_at columns i) k).kind a.joined
    (last_up_to (nodes_at columns (i - 1)) (node_at (nodes_at columns i) k).number)
    ≡ left_parent columns i k
left_parent_is columns zero k above a left is some = absurd (left refl)
left_parent_is columns (suc i) zero above a left is some = absurd (let q : None ≡ Some a = sym is ∙ some in cc)
left_parent_is columns (suc i) (suc k) above a left is some =
    let q : Some is.0 ≡ Some a = sym is.1 ∙ some in
    let same : is.0 ≡ a = cc in
    let joined : a.joined ≡ joined_at columns i k = ap (λ (n : StartedNode). n.joined) (sym same) ∙ is.2 in
    let here : suc i ≡ i + 1 = omega arith in
    let column : suc i - 1 ≡ i = omega arith in
    ap (λ c. parent_by (node_at (nodes_at columns c) (suc k)).kind a.joined
    (last_up_to (nodes_at columns (suc i - 1)) (node_at (nodes_at columns c) (suc k)).number)) here
    ∙ (ap (λ d. parent_by (node_at (nodes_at columns (i + 1)) (suc k)).kind a.joined
    (last_up_to (nodes_at columns d) (node_at (nodes_at columns (i + 1)) (suc k)).number)) column
    ∙ (ap (λ j. parent_by (node_at (nodes_at columns (i + 1)) (suc k)).kind j
    (last_up_to (nodes_at columns i) (node_at (nodes_at columns (i + 1)) (suc k)).number)) joined
    ∙ sym (left_parent_below columns i k)))
