-- Lists in which a number rises: what it is from an index on.
use Rattle.std.proofs.Common.{◌≡◌, ◌∙◌, refl, sym, ap, subst, ℕ, suc, ◌+◌, ◌<◌, ◌≤◌, List, [], ◌∷◌, length, map, get_or, drop, arith}
use Rattle.std.proofs.Common.{inl, inr, Some, None, AllPairs, slice_get, option_map, true, false, nat_lt}
use Rattle.std.proofs.lemmas.Bool.Decides.{nat_tests}
use Rattle.std.proofs.lemmas.List.{get_or-drop, length-drop}
use Rattle.std.proofs.lemmas.Option.{get_or_from_slice_get, slice_get_cases, slice_get_within}
use Rattle.std.proofs.Math.ListN.{drop_of_length-le}
use Rattle.std.proofs.Math.Seq.{drop-cons}
use Rattle.pipe_model.specs.Races.DeterminacyRaces.{Among, Here, Later}
use Rattle.pipe_model.proofs.Members.{among_either, none_among, only_one}
use Rattle.run_record.specs.LogCursors.{is_before}

-- ---- elements

among_index : {A : Type 0} (y : A) (xs : List A) → Among y xs → (k : ℕ) × (k < length xs) × ((d : A) → get_or xs k d ≡ y)
among_index y [] m = absurd (none_among y m)
among_index y (x ∷ xs) Here = (0, omega arith, λ d. refl)
among_index y (x ∷ xs) (Later z m) = let r = among_index y xs m in let w = r.1 in (suc r.0, omega (arith, w), r.2)

pub among_map : {A B : Type 0} (f : A → B) (y : B) (xs : List A) → Among y (map f xs) → (x : A) × Among x xs × (f x ≡ y)
among_map f y [] m = absurd (none_among y m)
among_map f y (x ∷ xs) m = elim (among_either y (f x ∷ []) (map f xs) m) [
  | inl here ↦ (x, Here, sym (only_one y (f x) here))
  | inr there ↦ (let r = among_map f y xs there in (r.0, Later x r.1, r.2))
]

-- ---- the elements from an index on

pub drop_next : {A : Type 0} (xs : List A) (i : ℕ) (h : A) → slice_get xs i ≡ Some h → drop i xs ≡ h ∷ drop (i + 1) xs
drop_next xs i h at =
    let within : i < length xs = slice_get_within xs i h at in
    let here : get_or xs i h ≡ h = get_or_from_slice_get xs i h h at in
    let next : suc i ≡ i + 1 = omega arith in
    drop-cons xs i h within ∙ (ap (λ x. x ∷ drop (suc i) xs) here ∙ ap (λ n. h ∷ drop n xs) next)

pub drop_none : {A : Type 0} (xs : List A) (i : ℕ) → slice_get xs i ≡ None → drop i xs ≡ []
drop_none xs i at = elim (slice_get_cases xs i).1 [
  | inl there ↦ (let some = there.2 in absurd (cc (at, some)))
  | inr past ↦ drop_of_length-le xs past.0
]

-- the number rises after index i
pub after_next : {A : Type 0} (n : A → ℕ) (xs : List A) (i : ℕ) (h e : A) → AllPairs (λ a b. n a < n b) xs
    → slice_get xs i ≡ Some h → Among e (drop (i + 1) xs) → n h < n e
after_next n xs i h e up at m =
    let r = among_index e (drop (i + 1) xs) m in
    let within = r.1 in
    let here : get_or xs i h ≡ h = get_or_from_slice_get xs i h h at in
    let there : get_or xs (i + 1 + r.0) h ≡ e = sym (get_or-drop (i + 1) xs r.0 h) ∙ r.2 h in
    let rises : n (get_or xs i h) < n (get_or xs (i + 1 + r.0) h) =
    up i (i + 1 + r.0) h (omega arith) (omega (arith, within, length-drop (i + 1) xs)) in
    omega (arith, rises, ap n here, ap n there)

-- from index i on it is at least that of the element there
from_next : {A : Type 0} (n : A → ℕ) (xs : List A) (i : ℕ) (e : A) → AllPairs (λ a b. n a < n b) xs → Among e (drop i xs)
    → (h : A) × (slice_get xs i ≡ Some h) × (n h ≤ n e)
from_next {A} n xs i e up m = elim (slice_get_cases xs i).1 [
  | inl there ↦ (there.0, there.2, from_either there.0 there.2)
  | inr past ↦ absurd (none_among e (subst (λ l. Among e l) (drop_of_length-le xs past.0) m))
]
  where
    from_either : (h : A) → slice_get xs i ≡ Some h → n h ≤ n e
    from_either h at = elim (among_either e (h ∷ []) (drop (i + 1) xs) (subst (λ l. Among e l) (drop_next xs i h at) m)) [
      | inl here ↦ (let same = ap n (only_one e h here) in omega (arith, same))
      | inr later ↦ (let less = after_next n xs i h e up at later in omega (arith, less))
    ]

less_than : (t u v : ℕ) → nat_lt t u ≡ true → u ≤ v → t < v
less_than t u v less most = grind (arith, nat_tests)

at_most : (t u v : ℕ) → nat_lt u t ≡ false → u ≤ v → t ≤ v
at_most t u v less most = grind (arith, nat_tests)

pub before_rest : {A : Type 0} (n : A → ℕ) (xs : List A) (i t : ℕ) (e : A) → AllPairs (λ a b. n a < n b) xs
    → is_before (Some t) (option_map n (slice_get xs i)) ≡ true → Among e (drop i xs) → t < n e
before_rest n xs i t e up less m =
    let r = from_next n xs i e up m in
    less_than t (n r.0) (n e) (subst (λ o. is_before (Some t) (option_map n o) ≡ true) r.1 less) r.2

pub not_after_rest : {A : Type 0} (n : A → ℕ) (xs : List A) (i t : ℕ) (e : A) → AllPairs (λ a b. n a < n b) xs
    → is_before (option_map n (slice_get xs i)) (Some t) ≡ false → Among e (drop i xs) → t ≤ n e
not_after_rest n xs i t e up less m =
    let r = from_next n xs i e up m in
    at_most t (n r.0) (n e) (subst (λ o. is_before (option_map n o) (Some t) ≡ false) r.1 less) r.2
