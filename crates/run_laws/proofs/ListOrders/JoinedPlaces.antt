-- The last indices to the left that precede an instance, column by column.
use Rattle.std.proofs.Common.{ℤ, true, ◌≡◌, ◌≤ℤ◌, arith, false, ◌<ℤ◌, List, ℕ, length, ◌<◌, refl, [], ap₂, suc, ◌∷◌, zero, ap, ◌∙◌, Bool}
use Rattle.std.proofs.Common.{◌+◌, subst, ◌≤◌, inl, inr, sym}
use Rattle.std.proofs.lemmas.Bool.{cases_lt, lt-leb, le-leb}
use Rattle.std.proofs.lemmas.Int.{ints}
use Rattle.std.specs.Prelude.{int_le}
use Rattle.std.specs.declared.option.Option.{Option}
use Rattle.std.specs.declared.option.Option.TheVariants.{None, Some}
use Rattle.pipe_model.specs.Races.Columns.{node_at, nodes_at}
use Rattle.pipe_model.specs.Races.Dag.{IsLastUpTo}
use Rattle.pipe_model.specs.Orders.LeftParent.{last_up_to, before_rest, joined_by, joined, joined_at}
use Rattle.run_laws.proofs.ListOrders.Reach.{reach}
use Rattle.pipe_model.specs.declared.node.Kind.{Kind}
use Rattle.pipe_model.specs.declared.node.Kind.TheVariants.{Zero, Continue, Wait}
use Rattle.pipe_model.specs.declared.node.Node.{Node}

-- a number at most another, as a test
int_le_true : (a b : ℤ) → a ≤ℤ b → int_le a b ≡ true
int_le_true a b h = grind (arith, ints)

-- a greater number, as a test
int_le_false : (a b : ℤ) → a <ℤ b → int_le b a ≡ false
int_le_false a b h = grind (arith, ints)

-- the test says that a number is at most another
from_int_le : (a b : ℤ) → int_le a b ≡ true → a ≤ℤ b
from_int_le a b h = grind (arith, ints)

-- the test says that a number is greater
from_not_int_le : (a b : ℤ) → int_le b a ≡ false → a <ℤ b
from_not_int_le a b h = grind (arith, ints)

-- none is found if all numbers are greater
last_up_to_none : (nodes : List Node) (s : ℤ) → ((k : ℕ) → k < length nodes → s <ℤ (node_at nodes k).number)
    → last_up_to nodes s ≡ None
last_up_to_none [] s h = refl
last_up_to_none (n ∷ ns) s h =
    ap₂ before_rest (last_up_to_none ns s (λ k l. h (suc k) (omega arith)))
    (int_le_false s n.number (h 0 (omega arith)))

-- the last index whose number is at most s is found
pub last_up_to_is : (nodes : List Node) (s : ℤ) (j : ℕ) → IsLastUpTo nodes j s → last_up_to nodes s ≡ Some j
last_up_to_is [] s j h = absurd (let w = h.within in omega (arith, w))
last_up_to_is (n ∷ ns) s zero h =
    ap₂ before_rest (last_up_to_none ns s (λ k l. h.last (suc k) (omega arith) (omega arith)))
    (int_le_true n.number s h.up_to)
last_up_to_is (n ∷ ns) s (suc j) h = ap (λ f. before_rest f (int_le n.number s)) (last_up_to_is ns s j record {
  within = let w = h.within in omega (arith, w);
  up_to = h.up_to;
  last = λ k l m. h.last (suc k) (omega arith) (omega arith);
}) ∙ ap Some (omega arith)

-- the result of the search is that index, or there is none
pub record IsFoundLast (nodes : List Node) (s : ℤ) (found : Option ℕ) : Type 0 where
  pub none : found ≡ None → (k : ℕ) → k < length nodes → s <ℤ (node_at nodes k).number
  pub some : (j : ℕ) → found ≡ Some j → IsLastUpTo nodes j s

-- the result is right with one more instance at the front
found_before : (n : Node) (ns : List Node) (s : ℤ) (found : Option ℕ) (b : Bool) → int_le n.number s ≡ b
    → IsFoundLast ns s found → IsFoundLast (n ∷ ns) s (before_rest found b)
found_before n ns s (Some k) b e f = let it = f.some k refl in record {
  none = λ q. absurd (let r : Some (k + 1) ≡ None = q in cc);
  some = λ j q. subst (λ i. IsLastUpTo (n ∷ ns) i s) (
      let r : Some (k + 1) ≡ Some j = q in
      let r' : k + 1 ≡ j = cc in
      let r'' : suc k ≡ j = omega arith in
      r'') record {
        within = let w = it.within in omega (arith, w);
        up_to = it.up_to;
        last = λ i l w. later i l w;
      };
}
  where
    later : (i : ℕ) → suc k < i → i < length (n ∷ ns) → s <ℤ (node_at (n ∷ ns) i).number
    later zero l w = absurd (omega arith)
    later (suc i) l w = (f.some k refl).last i (omega arith) (omega arith)
found_before n ns s None true e f = record {
  none = λ q. absurd (let r : Some 0 ≡ None = q in cc);
  some = λ j q. subst (λ i. IsLastUpTo (n ∷ ns) i s) (
      let r : Some 0 ≡ Some j = q in
      let r' : 0 ≡ j = cc in
      r') record {
        within = omega arith;
        up_to = from_int_le n.number s e;
        last = λ i l w. later i l w;
      };
}
  where
    later : (i : ℕ) → 0 < i → i < length (n ∷ ns) → s <ℤ (node_at (n ∷ ns) i).number
    later zero l w = absurd (omega arith)
    later (suc i) l w = f.none refl i (omega arith)
found_before n ns s None false e f = record {
  none = λ q k l. each k l;
  some = λ j q. absurd (let r : None ≡ Some j = q in cc);
}
  where
    each : (k : ℕ) → k < length (n ∷ ns) → s <ℤ (node_at (n ∷ ns) k).number
    each zero l = from_not_int_le s n.number e
    each (suc k) l = f.none refl k (omega arith)

-- the result of the search is right
pub last_up_to_found : (nodes : List Node) (s : ℤ) → IsFoundLast nodes s (last_up_to nodes s)
last_up_to_found [] s = record {
  none = λ q k l. absurd (omega arith);
  some = λ j q. absurd (let r : None ≡ Some j = q in cc);
}
last_up_to_found (n ∷ ns) s = found_before n ns s (last_up_to ns s) (int_le n.number s) refl (last_up_to_found ns s)

-- an instance is joined at least as far as the one above it
joined_by_rises : (kind : Kind) (k : ℕ) (found : Option ℕ) → k ≤ joined_by kind k found
joined_by_rises Zero k found = omega arith
joined_by_rises Continue k found = omega arith
joined_by_rises Wait k None = omega arith
joined_by_rises Wait k (Some j) = omega arith

-- the joined index does not fall from an instance to the one below it
joined_next : (left right : List Node) (k : ℕ) → joined left right k ≤ joined left right (suc k)
joined_next left right k =
    joined_by_rises (node_at right (suc k)).kind (joined left right k)
    (last_up_to left (node_at right (suc k)).number)

-- joined indices rise down a column
pub joined_rises : (left right : List Node) (k n : ℕ) → k ≤ n → joined left right k ≤ joined left right n
joined_rises left right k zero l =
    let e : k ≡ 0 = omega arith in
    let p : joined left right k ≡ joined left right 0 = ap (joined left right) e in
    omega (arith, p)
joined_rises left right k (suc n) l = elim (cases_lt n k) [
  | inl more ↦ (
      let e : k ≡ suc n = omega arith in
      let p : joined left right k ≡ joined left right (suc n) = ap (joined left right) e in
      omega (arith, p))
  | inr le ↦ (let p = joined_rises left right k n le in let q = joined_next left right n in omega (arith, p, q))
]

-- reach in the instance's own column
pub reach_here : (columns : List (List Node)) (i k : ℕ) → reach columns i k i ≡ k
reach_here columns zero k = refl
reach_here columns (suc i) k = rw (lt-leb (suc i) i (omega arith)) refl

-- reach by the column to the left of the instance
pub reach_left : (columns : List (List Node)) (i k a : ℕ) → a ≤ i
    → reach columns (suc i) k a ≡ reach columns i (joined_at columns i k) a
reach_left columns i k a l = rw (le-leb a i l) refl

-- reach by the column to the right of the index
pub reach_right : (columns : List (List Node)) (i k a : ℕ) → a < i
    → reach columns i k a ≡ joined_at columns a (reach columns i k (a + 1))
reach_right columns zero k a l = absurd (omega arith)
reach_right columns (suc i) k a l = elim (cases_lt a i) [
  | inl less ↦ (reach_left columns i k a (omega arith) ∙ reach_right columns i (joined_at columns i k) a less)
      ∙ ap (joined_at columns a) (sym (reach_left columns i k (a + 1) (omega arith)))
  | inr ge ↦ (
      let e : i ≡ a = omega arith in
      reach_left columns i k a (omega arith) ∙ (ap (reach columns i (joined_at columns i k)) (sym e)
      ∙ (reach_here columns i (joined_at columns i k) ∙ (ap (λ c. joined_at columns c k) e ∙
      ap (joined_at columns a) (sym (
      let z : a + 1 ≡ suc i = omega arith in
      ap (reach columns (suc i) k) z ∙ reach_here columns (suc i) k))))))
]

-- reach rises down a column
pub reach_rises : (columns : List (List Node)) (i k n a : ℕ) → k ≤ n → a ≤ i
    → reach columns i k a ≤ reach columns i n a
reach_rises columns zero k n a l w = omega arith
reach_rises columns (suc i) k n a l w = elim (cases_lt i a) [
  | inl more ↦ rw (lt-leb a i more) l
  | inr le ↦ rw (le-leb a i le) (reach_rises columns i (joined_at columns i k) (joined_at columns i n) a
      (joined_rises (nodes_at columns i) (nodes_at columns (i + 1)) k n l) le)
]
