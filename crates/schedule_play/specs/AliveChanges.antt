-- How an event changes what is kept of the iterations.
use Rattle.std.specs.Prelude.{ℕ, ℤ, Bool, true, ◌==◌, ◌+◌, ◌||◌, not, if◌then◌else◌, int_lt}
use Rattle.schedule_play.specs.declared.changes.Change.{Change}
use Rattle.schedule_play.specs.declared.changes.Change.TheVariants.{Named, Entered, Ended}
use Rattle.schedule_play.specs.declared.turns.Alive.{Alive}
use Rattle.schedule_play.specs.declared.turns.Readiness.{Readiness}
use Rattle.schedule_play.specs.declared.turns.Readiness.TheVariants.{Running, MayEnter, MustWait}

-- the iteration of an event
abbrev pub changed_iteration : Change → ℕ
changed_iteration (Named i n free) = i
changed_iteration (Entered i) = i
changed_iteration (Ended i) = i

-- after an event of the left neighbour, which has passed the stage that is waited for or not
abbrev pub released : Bool → Readiness → Readiness
released passed Running = Running
released passed MayEnter = MayEnter
released passed MustWait = if passed then MayEnter else MustWait

-- an entry after an event; the entry of an iteration that ends is removed separately
abbrev pub after_change : Change → Alive → Alive
after_change (Named i n free) a =
    if a.iteration == i then record { iteration = i; number = n; readiness = if free then MayEnter else MustWait }
    else (if a.iteration == i + 1 then record a { readiness = released (int_lt a.number n) a.readiness } else a)
after_change (Entered i) a = if a.iteration == i then record { iteration = i; number = a.number; readiness = Running } else a
after_change (Ended i) a = if a.iteration == i + 1 then record a { readiness = released true a.readiness } else a

-- the entry does not belong to the left neighbour of iteration i, or has named a stage with a number greater than n
abbrev pub passes_left : ℕ → ℤ → Alive → Bool
passes_left i n a = not (a.iteration + 1 == i) || int_lt n a.number

-- the entry does not belong to iteration i
abbrev pub is_other : ℕ → Alive → Bool
is_other i a = not (a.iteration == i)
