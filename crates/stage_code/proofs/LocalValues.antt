-- Locals by name and by slot.
use Rattle.std.proofs.Common.{◌≡◌, ℕ, ℤ, zero, suc, ◌<◌, List, [], ◌∷◌, ◌++◌, length, Option, Some, None, refl, sym, ap, subst, arith, Bool}
use Rattle.std.proofs.Common.{true, false}
use Rattle.std.specs.Prelude.{slice_set, if◌then◌else◌, take}
use Rattle.std.specs.Str.{bytes_eq}
use Rattle.pipe_model.specs.Language.Evaluation.{Local, updated_locals}
use Rattle.stage_code.specs.Slots.{slot_of, one_later}
use Rattle.stage_code.proofs.ExpressionRuns.{names_of, Holds}

pub names_with : (ls : List Local) (x : List ℕ) (v : ℤ) → names_of (updated_locals ls x v) ≡ names_of ls
names_with [] x v = refl
names_with (l ∷ ls) x v = by (bytes_eq l.name x) (names_with ls x v)
  where
    by : (b : Bool) → names_of (updated_locals ls x v) ≡ names_of ls
        → names_of (if b then record l { value = v } ∷ ls else l ∷ updated_locals ls x v) ≡ l.name ∷ names_of ls
    by true e = refl
    by false e = ap (λ r. l.name ∷ r) e

pub names_append : (ls : List Local) (l : Local) → names_of (ls ++ l ∷ []) ≡ names_of ls ++ l.name ∷ []
names_append [] l = refl
names_append (k ∷ ls) l = ap (λ r. k.name ∷ r) (names_append ls l)

pub length_names : (ls : List Local) → length (names_of ls) ≡ length ls
length_names [] = refl
length_names (l ∷ ls) = ap suc (length_names ls)

pub names_take : (n : ℕ) (ls : List Local) → names_of (take n ls) ≡ take n (names_of ls)
names_take zero [] = refl
names_take zero (l ∷ ls) = refl
names_take (suc n) [] = refl
names_take (suc n) (l ∷ ls) = ap (λ r. l.name ∷ r) (names_take n ls)

pub holds_take : (n : ℕ) (ls : List Local) (vs : List ℤ) → Holds ls vs → Holds (take n ls) vs
holds_take zero [] vs h = tt
holds_take zero (l ∷ ls) vs h = tt
holds_take (suc n) [] vs h = tt
holds_take (suc n) (l ∷ ls) [] h = elim h [ ]
holds_take (suc n) (l ∷ ls) (v ∷ vs) h = (h.0, holds_take n ls vs h.1)

pub holds_append : (ls : List Local) (vs : List ℤ) (l : Local) → Holds ls vs → length ls < length vs
    → Holds (ls ++ l ∷ []) (slice_set vs (length ls) l.value)
holds_append [] [] l h lt = absurd (omega (arith, lt))
holds_append [] (v ∷ vs) l h lt = (refl, tt)
holds_append (k ∷ ls) [] l h lt = elim h [ ]
holds_append (k ∷ ls) (v ∷ vs) l h lt = (h.0, holds_append ls vs l h.1 (omega (arith, lt)))

pub holds_with : (ls : List Local) (vs : List ℤ) (x : List ℕ) (v : ℤ) (j : ℕ) → Holds ls vs → slot_of (names_of ls) x ≡ Some j
    → Holds (updated_locals ls x v) (slice_set vs j v)
holds_with [] vs x v j h s = tt
holds_with (l ∷ ls) [] x v j h s = elim h [ ]
holds_with (l ∷ ls) (w ∷ vs) x v j h s = by (λ i e. holds_with ls vs x v i h.1 e) (bytes_eq l.name x) s
  where
    past : ((i : ℕ) → slot_of (names_of ls) x ≡ Some i → Holds (updated_locals ls x v) (slice_set vs i v)) → (o : Option ℕ)
        → slot_of (names_of ls) x ≡ o → one_later o ≡ Some j → Holds (l ∷ updated_locals ls x v) (slice_set (w ∷ vs) j v)
    past next None e f = absurd (let d : None ≡ Some j = f in cc (d))
    past next (Some i) e f = let d : j ≡ suc i = cc (f) in subst (λ n. Holds (l ∷ updated_locals ls x v) (slice_set (w ∷ vs) n v)) (sym d)
        (h.0, next i e)

    by : ((i : ℕ) → slot_of (names_of ls) x ≡ Some i → Holds (updated_locals ls x v) (slice_set vs i v)) → (b : Bool)
        → (if b then Some 0 else one_later (slot_of (names_of ls) x)) ≡ Some j
        → Holds (if b then record l { value = v } ∷ ls else l ∷ updated_locals ls x v) (slice_set (w ∷ vs) j v)
    by next true e = let d : j ≡ 0 = cc (e) in subst (λ n. Holds (record l { value = v } ∷ ls) (slice_set (w ∷ vs) n v)) (sym d) (refl, h.1)
    by next false e = past next (slot_of (names_of ls) x) refl e
