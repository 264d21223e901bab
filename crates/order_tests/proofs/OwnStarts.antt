-- The starts of a log of events.
use Rattle.std.proofs.Common.{◌≡◌, ◌==◌, ◌↔◌, ◌&&◌, eq-eqb, refl, ℕ, zero, suc, ◌<◌, ◌≤◌, List, [], ◌∷◌, length, get_or, arith, true, false}
use Rattle.std.proofs.Common.{Bool, cond}
use Rattle.std.specs.List.{All}
use Rattle.std.proofs.lemmas.List.{length-append}
use Rattle.order_2d.specs.LogStarts.{log_starts}
use Rattle.pipe_model.specs.declared.event.Event.{Event}
use Rattle.pipe_model.specs.declared.event.Event.TheVariants.{Begin, Access, Advance, Enter, Finish, Stop}
use Rattle.pipe_model.specs.declared.node.Node.{Node}
use Rattle.pipe_model.specs.declared.node.NodeId.{NodeId}
use Rattle.pipe_model.specs.Orders.Starts.{IsStarted, start_number, started_by, starts_from}
use Rattle.pipe_model.specs.Races.Columns.{IsNodeOf}
use Rattle.pipe_model.specs.Runs.ControlParts.{without_accesses}
use Rattle.pipe_model.specs.Runs.ControlRun.{is_access}
use Rattle.pipe_model.specs.Runs.State.{State, initial_state, next_state}

-- a run has no more starts than events
few_starts_from : (s : State) (events : List Event) → length (starts_from s events) ≤ length events
few_starts_from s [] = omega arith
few_starts_from s (e ∷ es) =
    let rest = few_starts_from (next_state s e) es in
    let both = length-append (started_by s e) (starts_from (next_state s e) es) in
    let one = at_most_one e in
    omega (arith, rest, both, one)
  where
    at_most_one : (x : Event) → length (started_by s x) ≤ 1
    at_most_one (Begin i) = omega arith
    at_most_one (Enter i) = omega arith
    at_most_one (Access i a) = omega arith
    at_most_one (Advance i k n) = omega arith
    at_most_one (Finish i d) = omega arith
    at_most_one Stop = omega arith

fewer_without : (events : List Event) → length (without_accesses events) ≤ length events
fewer_without [] = omega arith
fewer_without (e ∷ es) = by_test (is_access e) (fewer_without es)
  where
    by_test : (b : Bool) → length (without_accesses es) ≤ length es
        → length (cond b (without_accesses es) (e ∷ without_accesses es)) ≤ suc (length es)
    by_test true rest = omega (arith, rest)
    by_test false rest = omega (arith, rest)

pub few_starts : (events : List Event) → length (log_starts events) ≤ length events
few_starts events =
    let starts = few_starts_from initial_state (without_accesses events) in
    let fewer = fewer_without events in
    omega (arith, starts, fewer)

-- a start is found at its own number, or before
started_at : (starts : List NodeId) (m : ℕ) (d : NodeId) → m < length starts
    → start_number starts (get_or starts m d).iteration (get_or starts m d).index ≤ m
started_at [] m d l = absurd (omega (arith, l))
started_at (x ∷ xs) zero d l = at_first (x.iteration == x.iteration) (x.index == x.index) (eq-eqb x.iteration x.iteration refl)
    (eq-eqb x.index x.index refl)
  where
    at_first : (a b : Bool) → a ≡ true → b ≡ true → cond (a && b) 0 (suc (start_number xs x.iteration x.index)) ≤ 0
    at_first true true p q = omega arith
    at_first true false p q = absurd (cc)
    at_first false b p q = absurd (cc)
started_at (x ∷ xs) (suc m) d l =
    later (x.iteration == (get_or xs m d).iteration && x.index == (get_or xs m d).index) (started_at xs m d (omega (arith, l)))
  where
    later : (b : Bool) → start_number xs (get_or xs m d).iteration (get_or xs m d).index ≤ m
        → cond b 0 (suc (start_number xs (get_or xs m d).iteration (get_or xs m d).index)) ≤ suc m
    later true rest = omega arith
    later false rest = omega (arith, rest)

pub all_instances : (columns : List (List Node)) (starts : List NodeId) → ((x : NodeId) → IsStarted starts x ↔ IsNodeOf columns x)
    → All (IsNodeOf columns) starts
all_instances columns starts same = λ m d l.
    let at = started_at starts m d l in
    (same (get_or starts m d)).0 (omega (arith, at, l))
