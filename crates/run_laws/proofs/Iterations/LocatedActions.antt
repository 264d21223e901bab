-- The accesses of a trace, each with its instance.
use Rattle.std.proofs.Common.{ℕ, List, length, ◌≡◌, ◌+◌, [], ◌∷◌, ◌++◌, arith, refl, ap, suc, ℤ, ◌≤◌, Some, zero, subst}
use Rattle.pipe_model.specs.Pipelines.Behaviour.{Action, Accessed, nodes_in, Staged, Ended, accesses_in}
use Rattle.pipe_model.specs.Races.Columns.{at}
use Rattle.pipe_model.specs.Races.DeterminacyRaces.{Among, Here, Later}
use Rattle.pipe_model.specs.Pipelines.SerialElision.{located, located_from}
use Rattle.run_laws.proofs.Iterations.TraceParts.{trace_at}
use Rattle.pipe_model.specs.Runs.State.{accesses_of}
use Rattle.pipe_model.specs.declared.access.Access.{Access as Cell_access}
use Rattle.pipe_model.specs.declared.access.NodeAccess.{NodeAccess}
use Rattle.pipe_model.proofs.Members.{among_left, among_right}

-- a trace with one more access: the last instance that the trace names makes it
pub located-accessed : (i k : ℕ) (xs : List Action) (a : Cell_access)
    → located i k (xs ++ Accessed a ∷ []) ≡ located i k xs
    ++ record { node = at i (k + length (nodes_in xs)); access = a } ∷ []
located-accessed i k [] a = let e : k + 0 ≡ k = omega arith in rw e refl
located-accessed i k (Accessed b ∷ xs) a =
    ap (λ l. record { node = at i k; access = b } ∷ l) (located-accessed i k xs a)
located-accessed i k (Staged j n ∷ xs) a =
    let e : k + suc (length (nodes_in xs)) ≡ k + 1 + length (nodes_in xs) = omega arith in
    rw e (located-accessed i (k + 1) xs a)
located-accessed i k (Ended e ∷ xs) a = located-accessed i k xs a

-- a next stage adds no access
pub located-staged : (i k : ℕ) (xs : List Action) (j : _) (n : ℤ)
    → located i k (xs ++ Staged j n ∷ []) ≡ located i k xs
located-staged i k [] j n = refl
located-staged i k (Accessed b ∷ xs) j n =
    ap (λ l. record { node = at i k; access = b } ∷ l) (located-staged i k xs j n)
located-staged i k (Staged j' n' ∷ xs) j n = located-staged i (k + 1) xs j n
located-staged i k (Ended e ∷ xs) j n = located-staged i k xs j n

-- an end adds no access
pub located-ended : (i k : ℕ) (xs : List Action) (e : _) → located i k (xs ++ Ended e ∷ []) ≡ located i k xs
located-ended i k [] e = refl
located-ended i k (Accessed b ∷ xs) e = ap (λ l. record { node = at i k; access = b } ∷ l) (located-ended i k xs e)
located-ended i k (Staged j' n' ∷ xs) e = located-ended i (k + 1) xs e
located-ended i k (Ended d ∷ xs) e = located-ended i k xs e

-- the accesses of two traces, one after the other
pub located-append : (i k : ℕ) (xs ys : List Action)
    → located i k (xs ++ ys) ≡ located i k xs ++ located i (k + length (nodes_in xs)) ys
located-append i k [] ys = let e : k + 0 ≡ k = omega arith in rw e refl
located-append i k (Accessed a ∷ xs) ys =
    ap (λ l. record { node = at i k; access = a } ∷ l) (located-append i k xs ys)
located-append i k (Staged j n ∷ xs) ys =
    let e : k + suc (length (nodes_in xs)) ≡ k + 1 + length (nodes_in xs) = omega arith in
    rw e (located-append i (k + 1) xs ys)
located-append i k (Ended e ∷ xs) ys = located-append i k xs ys

-- an access of the trace is made by an instance with at least this index
pub record IsLocatedFrom (i k : ℕ) (actions : List Action) (a : Cell_access) : Type 0 where
  pub index : ℕ
  pub from : k ≤ index
  pub made : Among (record { node = at i index; access = a }) (located i k actions)

-- `is_located`, for a trace that begins with an access
is_located_accessed : (i k : ℕ) (xs : List Action) (a b : Cell_access) → Among a (b ∷ accesses_in xs)
    → (Among a (accesses_in xs) → IsLocatedFrom i k xs a) → IsLocatedFrom i k (Accessed b ∷ xs) a
is_located_accessed i k xs a b Here h = record { index = k; from = omega arith; made = Here }
is_located_accessed i k xs a b (Later y m) h =
    let g = h m in
    record { index = g.index; from = g.from; made = Later (record { node = at i k; access = b }) g.made }

-- each access of a trace is made by one of its instances
pub is_located : (i k : ℕ) (actions : List Action) (a : Cell_access) → Among a (accesses_in actions)
    → IsLocatedFrom i k actions a
is_located i k [] a m = elim m [ ]
is_located i k (Accessed b ∷ xs) a m = is_located_accessed i k xs a b m (λ n. is_located i k xs a n)
is_located i k (Staged j n ∷ xs) a m =
    let h = is_located i (k + 1) xs a m in
    let l = h.from in
    record { index = h.index; from = omega (arith, l); made = h.made }
is_located i k (Ended e ∷ xs) a m =
    let h = is_located i k xs a m in
    record { index = h.index; from = h.from; made = h.made }

-- an access of one trace is among the accesses of all
pub among_located_from : (k : ℕ) (ts : List (List Action)) (i : ℕ) (t : List Action) (x : NodeAccess)
    → trace_at ts i ≡ Some t → Among x (located (k + i) 0 t) → Among x (located_from k ts)
among_located_from k [] i t x e m = absurd (cc)
among_located_from k (u ∷ ts) zero t x e m =
    let same : t ≡ u = cc in
    let z : k + 0 ≡ k = omega arith in
    among_left x (located k 0 u) (located_from (k + 1) ts)
    (subst (λ (l : List Action). Among x (located k 0 l)) same (rw z at m))
among_located_from k (u ∷ ts) (suc i) t x e m =
    let z : k + suc i ≡ k + 1 + i = omega arith in
    among_right x (located k 0 u) (located_from (k + 1) ts) (among_located_from (k + 1) ts i t x e (rw z at m))

-- without their instances they are the accesses of the trace
pub accesses_of-located : (i k : ℕ) (actions : List Action) → accesses_of (located i k actions) ≡ accesses_in actions
accesses_of-located i k [] = refl
accesses_of-located i k (Accessed a ∷ is) = ap (λ l. a ∷ l) (accesses_of-located i k is)
accesses_of-located i k (Staged j n ∷ is) = accesses_of-located i (k + 1) is
accesses_of-located i k (Ended e ∷ is) = accesses_of-located i k is
