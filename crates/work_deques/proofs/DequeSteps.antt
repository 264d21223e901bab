-- Each step keeps what holds of a deque.
use Rattle.std.proofs.Common.{◌≡◌, ◌∙◌, ℕ, zero, suc, ◌+◌, ◌-◌, ◌<◌, List, [], ◌∷◌, ◌++◌, All, get_or, length, map, set, sum_by, sym, ap}
use Rattle.std.proofs.Common.{refl, arith}
use Rattle.std.proofs.lemmas.List.{map-append}
use Rattle.std.proofs.lemmas.List.Elements.{All-push}
use Rattle.std.proofs.lemmas.List.Sums.{sum_by-append, sum_by-cons, sum_by-set, sum_by_push}
use mathlib.Core.Option.{some, some-ne-none}
use lib.ListN.{get_elem?}
use Rattle.crossbeam_deque.specs.Tasks.{Forks, Learns, Merges, Pops, Pushes, Takes}
use Rattle.work_deques.proofs.TestedLists.{All_init, All_left, All_right}
use Rattle.work_deques.specs.Tallies.{ALL_PARTS, AreIdle, IsBalanced, IsEven, IsIdle, tally, joined, with_put, with_taken}
use Rattle.work_deques.specs.declared.tally.Tally.{Tally}

-- ---- the tally at a port

found : (vs : List Tally) (port : ℕ) (v : Tally) → get_elem? vs port ≡ some v → (port < length vs) × (get_or vs port v ≡ v)
found [] port v e = absurd (some-ne-none v (sym e))
found (x ∷ xs) zero v e = (omega arith, cc)
found (x ∷ xs) (suc n) v e = let h = found xs n v e in (omega (arith, h.0), h.1)

sum-set : (f : Tally → ℕ) (vs : List Tally) (port : ℕ) (v w : Tally) → get_elem? vs port ≡ some v
    → sum_by f (set vs port w) + f v ≡ sum_by f vs + f w
sum-set f vs port v w e =
    let h = found vs port v e in
    let at = ap f h.1 in
    omega (arith, sum_by-set f vs port w v h.0, at)

idle-set : (vs : List Tally) (port : ℕ) (w : Tally) → AreIdle vs → IsIdle w → AreIdle (set vs port w)
idle-set [] port w h i = h
idle-set (x ∷ xs) zero w h i = (i, h.1)
idle-set (x ∷ xs) (suc n) w h i = (h.0, idle-set xs n w h.1 i)

idle-snoc : (vs : List Tally) (w : Tally) → AreIdle vs → IsIdle w → AreIdle (vs ++ w ∷ [])
idle-snoc [] w h i = (i, tt)
idle-snoc (x ∷ xs) w h i = (h.0, idle-snoc xs w h.1 i)

has_parts : (w : Tally) → 0 < w.parts → IsIdle w
has_parts w one = λ none. absurd (omega (arith, one, none))

-- no parts, nothing put and nothing taken
nothing : (f : Tally → ℕ) → ((v : Tally) → (v.put ≡ []) × (v.taken ≡ []) → f v ≡ 0) → (vs : List Tally) → AreIdle vs
    → sum_by (λ u. u.parts) vs ≡ 0 → sum_by f vs ≡ 0
nothing f zero_of [] idle none = refl
nothing f zero_of (x ∷ xs) idle none =
    let all = sum_by-cons (λ (u : Tally). u.parts) x xs in
    let here : x.parts ≡ 0 = omega arith in
    let there : sum_by (λ (u : Tally). u.parts) xs ≡ 0 = omega arith in
    let mine = zero_of x (idle.0 here) in
    omega (arith, mine, sum_by-cons f x xs, nothing f zero_of xs idle.1 there)

-- an end with all parts has all that was put and taken
alone : (f : Tally → ℕ) → ((v : Tally) → (v.put ≡ []) × (v.taken ≡ []) → f v ≡ 0) → (vs : List Tally) (port : ℕ) (v : Tally) → AreIdle vs
    → get_elem? vs port ≡ some v → sum_by (λ u. u.parts) vs ≡ v.parts → sum_by f vs ≡ f v
alone f zero_of vs port v idle e parts =
    let none = tally 0 [] [] in
    let without = set vs port none in
    let left = sum-set (λ u. u.parts) vs port v none e in
    let empty = nothing f zero_of without (idle-set vs port none idle (λ _. (refl, refl))) (omega (arith, left, parts)) in
    omega (arith, empty, sum-set f vs port v none e, zero_of none (refl, refl))

put_zero : (h : ℕ → ℕ) (v : Tally) → (v.put ≡ []) × (v.taken ≡ []) → sum_by h v.put ≡ 0
put_zero h v e = ap (sum_by h) e.0

taken_zero : (h : ℕ → ℕ) (v : Tally) → (v.put ≡ []) × (v.taken ≡ []) → sum_by h v.taken ≡ 0
taken_zero h v e = ap (sum_by h) e.1

-- ---- steps

module _ {T : Type 0} (meets : T → Type 0) (tag : T → ℕ) where
  abbrev Holds : List T → List Tally → Type 0
  Holds = IsBalanced meets tag

  pub begins : Holds [] (tally ALL_PARTS [] [] ∷ [])
  begins = record {
    met = λ k d l. absurd (omega (arith, l));
    parts = refl;
    even = λ h. refl;
    idle = (has_parts (tally ALL_PARTS [] []) (omega arith), tt);
  }

  pub pushes : (port : ℕ) (v : Tally) (x : T) → 0 < v.parts → meets x
      → Pushes Holds port v (x ∷ []) (λ w. w ≡ with_put v (map tag (x ∷ [])))
  pushes port v x one met items views b at =
      let w = with_put v (map tag (x ∷ [])) in (
        w,
        record {
          met = All-push meets items x b.met met;
          parts = let s = sum-set (λ u. u.parts) views port v w at in omega (arith, s, b.parts);
          even = λ h.
              let s = sum-set (λ u. sum_by h u.put) views port v w at in
              let t = sum-set (λ u. sum_by h u.taken) views port v w at in
              let p = b.even h in
              let m = ap (sum_by h) (map-append tag items (x ∷ [])) in
              omega (arith, s, t, p, m, sum_by-append h v.put (tag x ∷ []), sum_by-append h (map tag items) (tag x ∷ []));
          idle = idle-set views port w b.idle (has_parts w one);
        },
        refl,
      )

  pub takes : (port : ℕ) (v : Tally) → 0 < v.parts → Takes Holds port v 1 (λ xs w. All meets xs × (w ≡ with_taken v (map tag xs)))
  takes port v one xs items views _ _ b at =
      let w = with_taken v (map tag xs) in (
        w,
        record {
          met = All_right meets xs items b.met;
          parts = let s = sum-set (λ u. u.parts) views port v w at in omega (arith, s, b.parts);
          even = λ h.
              let s = sum-set (λ u. sum_by h u.put) views port v w at in
              let t = sum-set (λ u. sum_by h u.taken) views port v w at in
              let p = b.even h in
              let m = ap (sum_by h) (map-append tag xs items) in
              omega (arith, s, t, p, m, sum_by-append h v.taken (map tag xs), sum_by-append h (map tag xs) (map tag items));
          idle = idle-set views port w b.idle (has_parts w one);
        },
        (All_left meets xs items b.met, refl),
      )

  pub pops : (port : ℕ) (v : Tally) → 0 < v.parts → Pops Holds port v (λ xs w. All meets xs × (w ≡ with_taken v (map tag xs)))
  pops port v one x items views b at =
      let w = with_taken v (map tag (x ∷ [])) in (
        w,
        record {
          met = All_init meets items x b.met;
          parts = let s = sum-set (λ u. u.parts) views port v w at in omega (arith, s, b.parts);
          even = λ h.
              let s = sum-set (λ u. sum_by h u.put) views port v w at in
              let t = sum-set (λ u. sum_by h u.taken) views port v w at in
              let p = b.even h in
              let m = ap (sum_by h) (map-append tag items (x ∷ [])) in
              omega (arith, s, t, p, m, sum_by-append h v.taken (tag x ∷ []), sum_by-append h (map tag items) (tag x ∷ []));
          idle = idle-set views port w b.idle (has_parts w one);
        },
        (All_right meets items (x ∷ []) b.met, refl),
      )

  pub forks : (port : ℕ) (v : Tally) → 1 < v.parts → Forks Holds port v (tally (v.parts - 1) v.put v.taken) (tally 1 [] [])
  forks port v more items views b at =
      let l = tally (v.parts - 1) v.put v.taken in
      let r = tally 1 [] [] in
      let vs = set views port l in
      record {
        met = b.met;
        parts = let s = sum-set (λ u. u.parts) views port v l at in omega (arith, s, b.parts, sum_by_push (λ u. u.parts) vs r, more);
        even = λ h.
            let s = sum-set (λ u. sum_by h u.put) views port v l at in
            let t = sum-set (λ u. sum_by h u.taken) views port v l at in
            let p = b.even h in
            omega (arith, s, t, p, sum_by_push (λ u. sum_by h u.put) vs r, sum_by_push (λ u. sum_by h u.taken) vs r);
        idle = idle-snoc vs r (idle-set views port l b.idle (has_parts l (omega (arith, more)))) (has_parts r (omega arith));
      }

  pub merges : (port : ℕ) (v : Tally) (other : ℕ) (u : Tally) → 0 < v.parts → Merges Holds port v other u (joined v u) (tally 0 [] [])
  merges port v other u one items views b at apart there =
      let w = joined v u in
      let gone = tally 0 [] [] in
      let vs = set views port w in
      record {
        met = b.met;
        parts =
            let s = sum-set (λ x. x.parts) views port v w at in
            let t = sum-set (λ x. x.parts) vs other u gone there in
            omega (arith, s, t, b.parts);
        even = λ h.
            let s = sum-set (λ x. sum_by h x.put) views port v w at in
            let s' = sum-set (λ x. sum_by h x.put) vs other u gone there in
            let t = sum-set (λ x. sum_by h x.taken) views port v w at in
            let t' = sum-set (λ x. sum_by h x.taken) vs other u gone there in
            let p = b.even h in
            omega (arith, s, s', t, t', p, sum_by-append h v.put u.put, sum_by-append h v.taken u.taken);
        idle = idle-set vs other gone (idle-set views port w b.idle (has_parts w (omega (arith, one)))) (λ none. (refl, refl));
      }

  pub learns : (port : ℕ) (v : Tally) → v.parts ≡ ALL_PARTS → Learns Holds port v (λ items. IsEven v (map tag items))
  learns port v all items views b at = λ h.
      let parts = b.parts ∙ sym all in
      let s = alone (λ u. sum_by h u.put) (put_zero h) views port v b.idle at parts in
      let t = alone (λ u. sum_by h u.taken) (taken_zero h) views port v b.idle at parts in
      omega (arith, s, t, b.even h)
