-- Left parents: by the count of the instances up to a number.
use Rattle.std.proofs.Common.{◌≡◌, Option, ℕ, ℤ, ◌+◌, ◌-◌, ◌<◌, ◌<ℤ◌, ◌≤ℤ◌, List, Some, length, refl, sym, ap, subst, arith, inl, inr}
use Rattle.std.proofs.lemmas.Bool.{cases_order}
use Rattle.std.proofs.lemmas.Int.{ints}
use Rattle.pipe_model.specs.declared.node.Kind.{Kind}
use Rattle.pipe_model.specs.declared.node.Kind.TheVariants.{Zero, Wait}
use Rattle.pipe_model.specs.declared.node.Node.{Node}
use Rattle.pipe_model.specs.Races.Columns.{node_at, IsRising}
use Rattle.pipe_model.specs.Races.Dag.{CrossEdge, HeadCross, WaitCross, IsLastUpTo}
use Rattle.pipe_span.specs.Entries.{IsCountUpTo, IsLeft}

not_wait : {k : Kind} → k ≡ Zero → k ≡ Wait → ⊥
not_wait e f = grind (arith, e, f)

-- the edges into the head of a column
pub head_edge : {left right : List Node} {i k : ℕ} → CrossEdge left right i k → k ≡ 0 → (node_at right 0).kind ≡ Zero
    → (0 ≡ i) × (0 < length left)
head_edge (HeadCross h w) e zero_kind = (refl, h)
head_edge {left} {right} (WaitCross j k w kind h) e zero_kind =
    absurd (not_wait zero_kind (subst (λ n. (node_at right n).kind ≡ Wait) e kind))

pub head_left : (left right : List Node) (k : ℕ) → k ≡ 0 → k < length right → 0 < length left → (node_at right 0).kind ≡ Zero
    → IsLeft left right k (Some 0)
head_left left right k e w filled zero_kind = record {
  edge = λ i s. (
      let z : 0 ≡ i = grind (arith, s) in
      subst (λ n. CrossEdge left right i n) (sym e) (subst (λ n. CrossEdge left right n 0) z (HeadCross filled (omega (arith, w, e)))));
  only = λ i c. ap Some (head_edge c e zero_kind).0;
}

-- the edges into a later instance come from the last up to its number
pub later_edge : {left right : List Node} {i k : ℕ} → CrossEdge left right i k → 0 < k
    → ((node_at right k).kind ≡ Wait) × IsLastUpTo left i (node_at right k).number
later_edge (HeadCross h w) l = absurd (omega (arith, l))
later_edge (WaitCross j k w kind h) l = (kind, h)

last_of_count : (left : List Node) (s : ℤ) (count j : ℕ) → IsCountUpTo left s count → count ≡ j + 1 → IsLastUpTo left j s
last_of_count left s count j h e =
    let within = h.within in
    record {
      within = omega (arith, within, e);
      up_to = h.before j (omega (arith, e));
      last = λ k l w. h.after k (omega (arith, l, e)) w;
    }

count_of_last : (left : List Node) (s : ℤ) (count j : ℕ) → IsCountUpTo left s count → IsLastUpTo left j s → count ≡ j + 1
count_of_last left s count j h last = elim (cases_order count (j + 1)) [
  | inl same ↦ same
  | inr other ↦ elim other [
    | inl less ↦ absurd (
        let a = h.after j (omega (arith, less)) last.within in
        let b = last.up_to in
        omega (arith, ints, a, b))
    | inr more ↦ absurd (
        let within = h.within in
        let a = h.before (j + 1) (omega (arith, more)) in
        let b = last.last (j + 1) (omega arith) (omega (arith, more, within)) in
        omega (arith, ints, a, b))
  ]
]

pub wait_left : (left right : List Node) (k count : ℕ) → 0 < k → k < length right → 0 < count → (node_at right k).kind ≡ Wait
    → IsCountUpTo left (node_at right k).number count → IsLeft left right k (Some (count - 1))
wait_left left right k count l w filled kind h = record {
  edge = λ i s. (
      let e : count - 1 ≡ i = grind (arith, s) in
      WaitCross i k w kind (last_of_count left (node_at right k).number count i h (omega (arith, e, filled))));
  only = λ i c. (
      let e = count_of_last left (node_at right k).number count i h (later_edge c l).1 in
      ap Some (omega (arith, e)));
}

-- counting stops at the first instance with a greater number
pub counted : (left : List Node) (s : ℤ) (count : ℕ) → IsRising left → count < length left
    → ((k : ℕ) → k < count → (node_at left k).number ≤ℤ s) → s <ℤ (node_at left count).number → IsCountUpTo left s count
counted left s count rising w before h = record {
  within = omega (arith, w);
  before = before;
  after = λ k l v. elim (cases_order count k) [
    | inl same ↦ subst (λ (n : ℕ). s <ℤ (node_at left n).number) same h
    | inr other ↦ elim other [
      | inl less ↦ (let up = rising.rises count k less v in omega (arith, ints, up, h))
      | inr more ↦ absurd (omega (arith, more, l))
    ]
  ];
}

-- the instances up to a number are also up to the number of the next instance
pub still_counted : (left right : List Node) (k count : ℕ) → IsRising right → IsCountUpTo left (node_at right k).number count
    → (n : ℕ) → n < count → k + 1 < length right → (node_at left n).number ≤ℤ (node_at right (k + 1)).number
still_counted left right k count rising h n l w =
    let a = h.before n l in
    let b = rising.rises k (k + 1) (omega arith) w in
    omega (arith, ints, a, b)

-- a left parent is in its column
pub parent_within : (left right : List Node) (k : ℕ) (j : Option ℕ) → IsLeft left right k j → (i : ℕ) → j ≡ Some i → i < length left
parent_within left right k j h i e = begins (h.edge i e)
  where
    begins : {i k : ℕ} → CrossEdge left right i k → i < length left
    begins (HeadCross h w) = h
    begins (WaitCross j k w kind h) = h.within
