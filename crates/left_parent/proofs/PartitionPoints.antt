-- Where numbers that rise stop being at most a number.
use Rattle.std.proofs.Common.{ℕ, ℤ, ◌≡◌, ◌≤◌, ◌-◌, pos, ◌<ℤ◌, ◌≤ℤ◌, List, length, get_or, Bool, true, false, arith, inl, inr, ltb}
use Rattle.std.proofs.Common.{refl, subst, sym}
use Rattle.std.proofs.lemmas.Bool.{cases_lt, cases_eq, ltb-false}
use Rattle.std.specs.Bool.{then_some}
use Rattle.std.proofs.lemmas.Int.{ints}
use Rattle.std.proofs.lemmas.List.{get_or_default}
use Rattle.std.specs.List.Sorted.{IsPartitionedBy, IsPartitionPoint}
use Rattle.std.specs.Prelude.{int_le, IfNone, IfSome, Option}
use Rattle.left_parent.specs.LastNumber.{AreRising, IsLastUpTo}

int_le_true : (a b : ℤ) → int_le a b ≡ true → a ≤ℤ b
int_le_true a b h = grind (arith, ints)

int_le_false : (a b : ℤ) → int_le a b ≡ false → b <ℤ a
int_le_false a b h = grind (arith, ints)

le_int_le : (a b : ℤ) → a ≤ℤ b → int_le a b ≡ true
le_int_le a b h = grind (arith, ints)

-- numbers that rise are parted
pub parted : (numbers : List ℤ) (s : ℤ) → AreRising numbers → IsPartitionedBy (λ y. int_le y s) numbers
parted numbers s rising i j d le within at_most = elim (cases_eq i j) [
  | inl same ↦ rw same at_most
  | inr apart ↦ (
      let a : get_or numbers i d ≡ get_or numbers i (pos 0) = get_or_default numbers i d (pos 0) (omega arith) in
      let b : get_or numbers j d ≡ get_or numbers j (pos 0) = get_or_default numbers j d (pos 0) within in
      let up = rising i j (omega arith) within in
      let top = int_le_true (get_or numbers j d) s at_most in
      le_int_le (get_or numbers i d) s (rw a (omega (arith, ints, rw b at top, up))))
]

-- the index before the first number above s
pub point_is_last : (numbers : List ℤ) (s : ℤ) (count : ℕ)
    → IsPartitionPoint (λ y. int_le y s ≡ true) (λ y. int_le y s ≡ false) numbers count
    → count ≤ length numbers → 1 ≤ count → IsLastUpTo numbers (count - 1) s
point_is_last numbers s count point bound some = record {
  within = omega arith;
  up_to = int_le_true _ s (point.0 (count - 1) (pos 0) (omega arith) (omega arith));
  last = λ k after within. int_le_false _ s (point.1 k (pos 0) (omega arith) within);
}

-- if the point is at the front, no number is at most s
pub none_at_front : (numbers : List ℤ) (s : ℤ) (count : ℕ)
    → IsPartitionPoint (λ y. int_le y s ≡ true) (λ y. int_le y s ≡ false) numbers count
    → count ≡ 0 → (j : ℕ) → IsLastUpTo numbers j s → ⊥
none_at_front numbers s count point none j last =
    let above = int_le_false (get_or numbers j (pos 0)) s (point.1 j (pos 0) (omega (arith, none)) last.within) in
    let at_most = last.up_to in
    omega (arith, ints, above, at_most)

-- the last number up to s is at one index
pub last_is_one : (numbers : List ℤ) (s : ℤ) (i j : ℕ) → IsLastUpTo numbers i s → IsLastUpTo numbers j s → j ≤ i
last_is_one numbers s i j one other = elim (cases_lt i j) [
  | inl less ↦ (let above = one.last j less other.within in absurd (omega (arith, ints, above, other.up_to)))
  | inr ge ↦ ge
]

-- what is found is the last
pub found_is_last : (numbers : List ℤ) (s : ℤ) (joined last : ℕ) (found : Option ℕ)
    → found ≡ then_some (ltb joined last) last → IsLastUpTo numbers last s → IfSome found (λ j. IsLastUpTo numbers j s)
found_is_last numbers s joined last found e is_last =
    subst (λ r. IfSome r (λ j. IsLastUpTo numbers j s)) (sym e) (by_test (ltb joined last))
  where
    by_test : (b : Bool) → IfSome (then_some b last) (λ j. IsLastUpTo numbers j s)
    by_test true = is_last
    by_test false = tt

-- nothing is found only if the last is at most the joined index
pub none_is_joined : (numbers : List ℤ) (s : ℤ) (joined last : ℕ) (found : Option ℕ)
    → found ≡ then_some (ltb joined last) last → IsLastUpTo numbers last s
    → IfNone found ((j : ℕ) → IsLastUpTo numbers j s → j ≤ joined)
none_is_joined numbers s joined last found e is_last =
    subst (λ r. IfNone r ((j : ℕ) → IsLastUpTo numbers j s → j ≤ joined)) (sym e) (by_test (ltb joined last) refl)
  where
    by_test : (b : Bool) → ltb joined last ≡ b
        → IfNone (then_some b last) ((j : ℕ) → IsLastUpTo numbers j s → j ≤ joined)
    by_test true t = tt
    by_test false t = λ j other.
        let low = ltb-false joined last t in
        let one = last_is_one numbers s last j is_last other in
        omega arith
