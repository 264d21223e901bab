-- The traces of the serial elision, iteration after iteration.
use Rattle.std.proofs.Common.{List, ◌++◌, ℕ, Some, ◌≡◌, [], take, ◌+◌, zero, suc, arith, append-nil, sym, inl, subst, inr, ap, ◌∙◌}
use Rattle.std.proofs.Common.{append_assoc, ◌∷◌, false, ◌<◌, refl, map, Bool, true}
use Rattle.std.proofs.lemmas.Bool.{cases_Bool, false≢true}
use Rattle.std.specs.List.{flat_map}
use Rattle.pipe_model.specs.Pipelines.Behaviour.{Action, accesses_in, closes_loop, column_of}
use Rattle.pipe_model.specs.Races.Columns.{nodes_at}
use Rattle.pipe_model.specs.Pipelines.Pipeline.{Pipeline}
use Rattle.pipe_model.specs.Pipelines.SerialElision.{serial_traces_from, serial_trace, unless}
use Rattle.run_laws.proofs.Iterations.TraceParts.{trace_at}
use Rattle.pipe_model.specs.declared.access.Access.{Access as Cell_access}

-- the accesses of the first traces
abbrev pub memory_of : List Cell_access → List (List Action) → List Cell_access
memory_of before traces = before ++ flat_map accesses_in traces

-- there is no trace in an empty list
trace_none : (t : List Action) (j : ℕ) → trace_at [] j ≡ Some t → ⊥
trace_none t j e = cc

-- a trace of the elision is the serial trace after those before it
pub trace_is_serial : (p : Pipeline) (n i : ℕ) (m : List Cell_access) (j : ℕ) (t : List Action)
    → trace_at (serial_traces_from p n i m) j ≡ Some t
    → t ≡ serial_trace p.store (p.behaviour (i + j)) (memory_of m (take j (serial_traces_from p n i m)))
trace_is_serial p zero i m j t e = absurd (cc)
trace_is_serial p (suc n) i m zero t e =
    let same : serial_trace p.store (p.behaviour i) m ≡ t = cc in
    let z : i + 0 ≡ i = omega arith in
    rw (z, append-nil) (sym same)
trace_is_serial p (suc n) i m (suc j) t e =
    let s = serial_trace p.store (p.behaviour i) m in
    elim (cases_Bool (closes_loop s)) [
      | inl shut ↦ absurd (trace_none t j (subst
          (λ b. trace_at (unless b (serial_traces_from p n (i + 1) (m ++ accesses_in s))) j ≡ Some t) shut e))
      | inr free ↦ (
          let there : trace_at (serial_traces_from p n (i + 1) (m ++ accesses_in s)) j ≡ Some t =
          subst (λ b. trace_at (unless b (serial_traces_from p n (i + 1) (m ++ accesses_in s))) j ≡ Some t) free e in
          let h = trace_is_serial p n (i + 1) (m ++ accesses_in s) j t there in
          let index : i + 1 + j ≡ i + suc j = omega arith in
          h ∙ ap (λ k. serial_trace p.store (p.behaviour k)
          (memory_of (m ++ accesses_in s) (take j (serial_traces_from p n (i + 1) (m ++ accesses_in s))))) index
          ∙ ap (λ l. serial_trace p.store (p.behaviour (i + suc j)) l) (
          append_assoc m (accesses_in s) (flat_map accesses_in
          (take j (serial_traces_from p n (i + 1) (m ++ accesses_in s))))
          ∙ ap (λ b. memory_of m (s ∷ take j (unless b (serial_traces_from p n (i + 1) (m ++ accesses_in s)))))
          (sym free)))
    ]

-- a trace that does not close the loop is followed by another
pub next_trace_exists : (p : Pipeline) (n i : ℕ) (m : List Cell_access) (j : ℕ) (t : List Action)
    → trace_at (serial_traces_from p n i m) j ≡ Some t → closes_loop t ≡ false → suc j < n
    → (u : List Action) × (trace_at (serial_traces_from p n i m) (suc j) ≡ Some u)
next_trace_exists p zero i m j t e free l = absurd (omega (arith, l))
next_trace_exists p (suc zero) i m j t e free l = absurd (omega (arith, l))
next_trace_exists p (suc (suc n)) i m zero t e free l =
    let s = serial_trace p.store (p.behaviour i) m in
    let same : s ≡ t = cc in
    let f : closes_loop s ≡ false = ap closes_loop same ∙ free in (
      serial_trace p.store (p.behaviour (i + 1)) (m ++ accesses_in s),
      subst
          (λ b. trace_at (unless b (serial_traces_from p (suc n) (i + 1) (m ++ accesses_in s))) 0
          ≡ Some (serial_trace p.store (p.behaviour (i + 1)) (m ++ accesses_in s))) (sym f) refl,
    )
next_trace_exists p (suc (suc n)) i m (suc j) t e free l =
    let s = serial_trace p.store (p.behaviour i) m in
    elim (cases_Bool (closes_loop s)) [
      | inl shut ↦ absurd (trace_none t j (subst
          (λ b. trace_at (unless b (serial_traces_from p (suc n) (i + 1) (m ++ accesses_in s))) j ≡ Some t) shut e))
      | inr f ↦ (
          let there : trace_at (serial_traces_from p (suc n) (i + 1) (m ++ accesses_in s)) j ≡ Some t =
          subst (λ b. trace_at (unless b (serial_traces_from p (suc n) (i + 1) (m ++ accesses_in s))) j ≡ Some t) f
          e in
          let h = next_trace_exists p (suc n) (i + 1) (m ++ accesses_in s) j t there free (omega (arith, l)) in (
            h.0,
            subst (λ b. trace_at (unless b (serial_traces_from p (suc n) (i + 1) (m ++ accesses_in s))) (suc j)
                ≡ Some h.0) (sym f) h.1,
          ))
    ]

-- the column of a trace of the list
pub nodes_at_trace : (ts : List (List Action)) (i : ℕ) (t : List Action) → trace_at ts i ≡ Some t
    → nodes_at (map column_of ts) i ≡ column_of t
nodes_at_trace [] i t e = absurd (cc)
nodes_at_trace (u ∷ ts) zero t e = let same : u ≡ t = cc in ap column_of same
nodes_at_trace (u ∷ ts) (suc i) t e = nodes_at_trace ts i t e

-- the elision has at most as many traces as the limit on iterations allows
pub trace_within : (p : Pipeline) (n i : ℕ) (m : List Cell_access) (j : ℕ) (t : List Action)
    → trace_at (serial_traces_from p n i m) j ≡ Some t → j < n
trace_within p zero i m j t e = absurd (cc)
trace_within p (suc n) i m zero t e = omega arith
trace_within p (suc n) i m (suc j) t e =
    let s = serial_trace p.store (p.behaviour i) m in
    elim (cases_Bool (closes_loop s)) [
      | inl shut ↦ (
          let there : trace_at [] j ≡ Some t =
          subst (λ b. trace_at (unless b (serial_traces_from p n (i + 1) (m ++ accesses_in s))) j ≡ Some t) shut e in
          absurd (cc))
      | inr free ↦ (
          let there : trace_at (serial_traces_from p n (i + 1) (m ++ accesses_in s)) j ≡ Some t =
          subst (λ b. trace_at (unless b (serial_traces_from p n (i + 1) (m ++ accesses_in s))) j ≡ Some t) free e in
          let l = trace_within p n (i + 1) (m ++ accesses_in s) j t there in
          omega (arith, l))
    ]

-- the list is empty if the test is true
pub unless_true : {A : Type 0} (b : Bool) (xs : List A) → b ≡ true → unless b xs ≡ []
unless_true true xs e = refl
unless_true false xs e = absurd (false≢true e)

-- the list is unchanged if the test is false
pub unless_false : {A : Type 0} (b : Bool) (xs : List A) → b ≡ false → unless b xs ≡ xs
unless_false true xs e = absurd (false≢true (sym e))
unless_false false xs e = refl
