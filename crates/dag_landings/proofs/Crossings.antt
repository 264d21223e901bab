-- Which edges lead to an instance of the next column.
use Rattle.std.proofs.Common.{◌≡◌, ℕ, zero, suc, ◌+◌, ◌-◌, ◌<◌, ◌≤◌, ℤ, ◌<ℤ◌, ◌≤ℤ◌, List, length, refl, arith, subst, inl, inr}
use Rattle.std.proofs.lemmas.Bool.{cases_order}
use Rattle.std.proofs.lemmas.Int.{by_lt_z, ints}
use Rattle.pipe_model.specs.declared.node.Kind.TheVariants.{Wait}
use Rattle.pipe_model.specs.declared.node.Node.{Node}
use Rattle.pipe_model.specs.Races.Columns.{node_at, IsRising}
use Rattle.pipe_model.specs.Races.Dag.{CrossEdge, HeadCross, WaitCross, IsLastUpTo}
use Rattle.dag_landings.specs.Landings.{CrossesFrom, NoneCross}

-- the last instance whose number is at most s, at index `from` or later
record HasLast (left : List Node) (s : ℤ) (from : ℕ) : Type 0 where
  place : ℕ
  following : from ≤ place
  last : IsLastUpTo left place s

-- it exists if the number at `from` is at most s: by induction on the number d of later instances
last_up_to : (left : List Node) (s : ℤ) → IsRising left → (d from : ℕ) → from + d + 1 ≡ length left
    → (node_at left from).number ≤ℤ s → HasLast left s from
last_up_to left s rising zero from e h = record {
  place = from;
  following = omega arith;
  last = record { within = omega arith; up_to = h; last = λ k l w. absurd (omega arith) };
}
last_up_to left s rising (suc d) from e h = by_lt_z s (node_at left (from + 1)).number
    (λ above. record {
      place = from;
      following = omega arith;
      last = record {
        within = omega arith;
        up_to = h;
        last = λ k l w. elim (cases_order (from + 1) k) [
          | inl same ↦ subst (λ (x : ℕ). s <ℤ (node_at left x).number) same above
          | inr other ↦ elim other [
            | inl less ↦ (let up = rising.rises (from + 1) k less w in omega (arith, ints, above, up))
            | inr more ↦ absurd (omega (arith, more, l))
          ]
        ];
      };
    })
    (λ below.
    let r = last_up_to left s rising d (from + 1) (omega (arith, e)) below in
    let following = r.following in
    record { place = r.place; following = omega (arith, following); last = r.last })

-- an instance that waits has an edge from the last instance whose number is at most its own
pub crossed_by_wait : (left right : List Node) (from k : ℕ) → IsRising left → from < length left → k < length right
    → (node_at right k).kind ≡ Wait → (node_at left from).number ≤ℤ (node_at right k).number
    → CrossesFrom left right from k
crossed_by_wait left right from k rising w v kind h =
    let r = last_up_to left (node_at right k).number rising (length left - from - 1) from (omega arith) h in
    (r.place, r.following, WaitCross r.place k v kind r.last)

-- there is an edge from head to head
pub crossed_by_head : (left right : List Node) (from k : ℕ) → from < length left → k < length right → k ≡ 0 → from ≡ 0
    → CrossesFrom left right from k
crossed_by_head left right from k w v e f =
    let r : CrossesFrom left right 0 0 = (0, omega arith, HeadCross (omega (arith, w)) (omega (arith, v))) in
    subst (λ i. CrossesFrom left right i k) (omega (arith, f)) (subst (λ i. CrossesFrom left right 0 i) (omega (arith, e)) r)

-- each edge is of one of two kinds
by_edge : {left right : List Node} {j k : ℕ} (from : ℕ) → CrossEdge left right j k → from ≤ j → (k ≡ 0 → from ≡ 0 → ⊥)
    → ((node_at right k).kind ≡ Wait → IsLastUpTo left j (node_at right k).number → ⊥) → ⊥
by_edge from (HeadCross h i) l head waits = head refl (omega (arith, l))
by_edge from (WaitCross j k v kind h) l head waits = waits kind h

-- neither an instance with a number above s nor a later one is the last up to s
none_up_to : (left : List Node) (from j : ℕ) (s : ℤ) → IsRising left → s <ℤ (node_at left from).number → from ≤ j
    → IsLastUpTo left j s → ⊥
none_up_to left from j s rising h l last = elim (cases_order from j) [
  | inl same ↦ (
      let at_j = subst (λ (x : ℕ). s <ℤ (node_at left x).number) same h in
      let up = last.up_to in
      omega (arith, ints, at_j, up))
  | inr other ↦ elim other [
    | inl less ↦ (
        let up = rising.rises from j less last.within in
        let most = last.up_to in
        omega (arith, ints, up, most, h))
    | inr more ↦ absurd (omega (arith, more, l))
  ]
]

-- no edge leads to a smaller number
pub none_by_number : (left right : List Node) (from k : ℕ) → IsRising left → (k ≡ 0 → from ≡ 0 → ⊥)
    → (node_at right k).number <ℤ (node_at left from).number → NoneCross left right from k
none_by_number left right from k rising head h =
    λ j l c. by_edge from c l head (λ e last. none_up_to left from j (node_at right k).number rising h l last)

-- an edge begins at an index of the left column
pub edge_begins_within : {left right : List Node} {j k : ℕ} → CrossEdge left right j k → j < length left
edge_begins_within (HeadCross h i) = h
edge_begins_within (WaitCross j k v kind h) = h.within
