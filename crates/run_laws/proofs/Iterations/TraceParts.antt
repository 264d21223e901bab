-- The accesses, the instances and the end of a trace.
use Rattle.std.proofs.Common.{List, ◌≡◌, ◌++◌, refl, [], ap, ◌∷◌, ℤ, length, false, ◌<◌, ◌⊎◌, inr, arith, inl, Option, Some, None, ℕ, zero}
use Rattle.std.proofs.Common.{suc}
use Rattle.pipe_model.specs.Pipelines.Behaviour.{Action, accesses_in, Accessed, Staged, Ended, nodes_in, node_of, HasNoEnd, closes_loop}
use Rattle.pipe_model.specs.Pipelines.Behaviour.{closes_at_once}
use Rattle.pipe_model.specs.Pipelines.Behaviour.{column_of, trace_end}
use Rattle.pipe_model.specs.declared.access.Access.{Access as Cell_access}
use Rattle.pipe_model.specs.declared.column.ColumnEnd.{ColumnEnd}

-- the trace of iteration i, if there is one
abbrev pub trace_at : List (List Action) → ℕ → Option (List Action)
trace_at [] i = None
trace_at (t ∷ ts) zero = Some t
trace_at (t ∷ ts) (suc i) = trace_at ts i

-- the accesses of two traces, one after the other
pub accesses_in-append : (xs ys : List Action) → accesses_in (xs ++ ys) ≡ accesses_in xs ++ accesses_in ys
accesses_in-append [] ys = refl
accesses_in-append (Accessed a ∷ xs) ys = ap (λ l. a ∷ l) (accesses_in-append xs ys)
accesses_in-append (Staged k n ∷ xs) ys = accesses_in-append xs ys
accesses_in-append (Ended e ∷ xs) ys = accesses_in-append xs ys

-- the instances that two traces name, one after the other
pub nodes_in-append : (xs ys : List Action) → nodes_in (xs ++ ys) ≡ nodes_in xs ++ nodes_in ys
nodes_in-append [] ys = refl
nodes_in-append (Accessed a ∷ xs) ys = nodes_in-append xs ys
nodes_in-append (Staged k n ∷ xs) ys = ap (λ l. node_of k n ∷ l) (nodes_in-append xs ys)
nodes_in-append (Ended e ∷ xs) ys = nodes_in-append xs ys

-- the last action is this end, and no other action is an end
abbrev pub EndsWith : List Action → ColumnEnd → Type 0
EndsWith [] e = ⊥
EndsWith (Accessed a ∷ is) e = EndsWith is e
EndsWith (Staged k n ∷ is) e = EndsWith is e
EndsWith (Ended d ∷ is) e = (is ≡ []) × (d ≡ e)

-- an access is not an end
pub no_end_accessed : (xs : List Action) (a : Cell_access) → HasNoEnd xs → HasNoEnd (xs ++ Accessed a ∷ [])
no_end_accessed [] a h = tt
no_end_accessed (Accessed b ∷ xs) a h = no_end_accessed xs a h
no_end_accessed (Staged k n ∷ xs) a h = no_end_accessed xs a h
no_end_accessed (Ended e ∷ xs) a h = absurd h

-- a next stage is not an end
pub no_end_staged : (xs : List Action) (k : _) (n : ℤ) → HasNoEnd xs → HasNoEnd (xs ++ Staged k n ∷ [])
no_end_staged [] k n h = tt
no_end_staged (Accessed b ∷ xs) k n h = no_end_staged xs k n h
no_end_staged (Staged j m ∷ xs) k n h = no_end_staged xs k n h
no_end_staged (Ended e ∷ xs) k n h = absurd h

-- a trace without an end, and then an end
pub ends_with_end : (xs : List Action) (e : ColumnEnd) → HasNoEnd xs → EndsWith (xs ++ Ended e ∷ []) e
ends_with_end [] e h = (refl, refl)
ends_with_end (Accessed b ∷ xs) e h = ends_with_end xs e h
ends_with_end (Staged j m ∷ xs) e h = ends_with_end xs e h
ends_with_end (Ended d ∷ xs) e h = absurd h

-- only the end of instance 0 closes the loop
pub closes_loop_cases : (actions : List Action) (e : ColumnEnd) → EndsWith actions e
    → ((nodes_in actions ≡ []) × (closes_loop actions ≡ closes_at_once e))
    ⊎ ((1 < length (column_of actions)) × (closes_loop actions ≡ false))
closes_loop_cases [] e h = absurd h
closes_loop_cases (Accessed a ∷ xs) e h = closes_loop_cases xs e h
closes_loop_cases (Staged k n ∷ xs) e h = inr (omega arith, refl)
closes_loop_cases (Ended d ∷ xs) e h = inl (ap nodes_in h.0, ap closes_at_once h.1)

-- nothing follows an end
pub nothing_after_end : (xs ys : List Action) (e d : ColumnEnd) → EndsWith xs e → EndsWith (xs ++ ys) d → ys ≡ []
nothing_after_end [] ys e d h g = absurd h
nothing_after_end (Accessed a ∷ xs) ys e d h g = nothing_after_end xs ys e d h g
nothing_after_end (Staged k n ∷ xs) ys e d h g = nothing_after_end xs ys e d h g
nothing_after_end (Ended f ∷ xs) ys e d h g = nil_right xs ys g.0
  where
    nil_right : (us vs : List Action) → us ++ vs ≡ [] → vs ≡ []
    nil_right [] vs q = q
    nil_right (u ∷ us) vs q = absurd (cc)

-- a trace that names a stage does not close the loop
pub stages_close_nothing : (xs ys : List Action) → HasNoEnd xs → 1 < length (column_of xs)
    → closes_loop (xs ++ ys) ≡ false
stages_close_nothing [] ys h l = absurd (omega (arith, l))
stages_close_nothing (Accessed a ∷ xs) ys h l = stages_close_nothing xs ys h l
stages_close_nothing (Staged k n ∷ xs) ys h l = refl
stages_close_nothing (Ended e ∷ xs) ys h l = absurd h

-- the end of a trace that ends
pub trace_end_is : (actions : List Action) (e : ColumnEnd) → EndsWith actions e → trace_end actions ≡ Some e
trace_end_is [] e h = absurd h
trace_end_is (Accessed a ∷ is) e h = trace_end_is is e h
trace_end_is (Staged k n ∷ is) e h = trace_end_is is e h
trace_end_is (Ended d ∷ is) e h = ap (λ x. Some x) h.1
