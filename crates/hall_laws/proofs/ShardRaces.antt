-- What the shards have found, one shard after the other.
use Rattle.std.proofs.Common.{◌≡◌, ◌≢◌, refl, ap, subst, ℕ, zero, suc, ◌+◌, ◌<◌, ◌%◌, List, [], ◌∷◌, length, get_or, AllPairs, Contains}
use Rattle.std.proofs.Common.{arith, inl, inr}
use Rattle.std.proofs.lemmas.List.Elements.{Contains-append_cases, Contains-append_left, Contains-append_right}
use Rattle.std.proofs.lemmas.Nat.{mod_below}
use Rattle.std.specs.List.{flat_map}
use Rattle.access_history.specs.declared.history.Found.{Found}
use Rattle.access_history.specs.declared.history.History.{History}
use Rattle.pipe_model.specs.declared.access.CellId.{CellId}
use Rattle.hall_laws.specs.HallReports.{AreFoundInShard, ShardsFindAll, cell_of}
use Rattle.hall_laws.proofs.JoinedLists.{pairs_join}

abbrev Races : Type 0
Races = List (CellId × Found)

abbrev all_of : List Races → Races
all_of founds = flat_map (λ x. x) founds

abbrev at_shard : List Races → ℕ → Races
at_shard founds k = get_or founds k []

-- ---- members

in_all : (founds : List Races) (k : ℕ) (x : CellId × Found) → k < length founds → Contains (at_shard founds k) x
    → Contains (all_of founds) x
in_all [] k x l m = absurd (omega (arith, l))
in_all (f ∷ fs) zero x l m = Contains-append_left f (all_of fs) x m
in_all (f ∷ fs) (suc k) x l m = Contains-append_right f (all_of fs) x (in_all fs k x (omega (arith, l)) m)

of_all : (founds : List Races) (x : CellId × Found) → Contains (all_of founds) x → (k : ℕ) × (k < length founds)
    × Contains (at_shard founds k) x
of_all [] x m = absurd (let w = m.1 in omega (arith, w))
of_all (f ∷ fs) x m = elim (Contains-append_cases f (all_of fs) x m) [
  | inl a ↦ (0, omega arith, a)
  | inr a ↦ (let h = of_all fs x a in (suc h.0, (let w = h.1 in omega (arith, w)), h.2))
]

-- ---- different shards have found different cells

module _ (width : ℕ) (history : ℕ → History) where
  abbrev Apart : CellId × Found → CellId × Found → Type 0
  Apart a b = a.0 ≢ b.0

  -- what was found in shard k and in the shards after it
  abbrev AreOfShards : ℕ → List Races → Type 0
  AreOfShards k founds = (j : ℕ) → j < length founds → AreFoundInShard width (k + j) history (at_shard founds j)

  all_apart : (founds : List Races) (k : ℕ) → AreOfShards k founds → AllPairs Apart (all_of founds)
  all_apart [] k h = λ i j d l w. absurd (omega (arith, w))
  all_apart (f ∷ fs) k h =
      let first : AreFoundInShard width k history f = (let z : k + 0 ≡ k = omega arith in subst (λ n. AreFoundInShard width n history f) z
      (h 0 (omega arith))) in
      let rest : AreOfShards (suc k) fs = λ j l. (
      let z : k + suc j ≡ suc k + j = omega arith in
      subst (λ n. AreFoundInShard width n history (at_shard fs j)) z (h (suc j) (omega (arith, l)))) in
      pairs_join Apart f (all_of fs) (λ i j d l w e. (let up = first.rise i j d l w in let same = ap (λ (c : CellId). c.0) e in
      omega (arith, up, same)))
      (all_apart fs (suc k) rest)
      (λ x y m n e. (
      let there = of_all fs y n in
      let here = (first.each x.0.0 x.1 m).0 in
      let other = ((rest there.0 there.1).each y.0.0 y.1 there.2).0 in
      let same = ap (λ (c : CellId). c.0 % width) e in
      omega (arith, here, other, same)))

pub shards_find_all : ShardsFindAll
shards_find_all history founds some h = record {
  each = λ c f m. (let there = of_all founds (cell_of c, f) m in ((h there.0 there.1).each c f there.2).1);
  all = λ c f e. (
      let k = c % length founds in
      let there = mod_below c (length founds) some in
      in_all founds k (cell_of c, f) there ((h k there).all c f refl e));
  apart = all_apart (length founds) history founds 0
      (λ j l. (let z : j ≡ 0 + j = omega arith in subst (λ n. AreFoundInShard (length founds) n history (at_shard founds j)) z (h j l)));
}
