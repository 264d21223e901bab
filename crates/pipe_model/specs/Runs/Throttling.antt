-- Throttling (Lee et al. 2013): how many iterations have begun and how many have ended, and the limit on those between.
use Rattle.std.specs.Prelude.{◌≡◌, ℕ, suc, ◌+◌, ◌≤◌, List, [], ◌∷◌, ◌++◌}
use Rattle.pipe_model.specs.declared.event.Event.{Event}
use Rattle.pipe_model.specs.declared.event.Event.TheVariants.{Begin, Access, Advance, Enter, Finish, Stop}

abbrev pub begun_count : List Event → ℕ
begun_count [] = 0
begun_count (Begin i ∷ es) = suc (begun_count es)
begun_count (Access i a ∷ es) = begun_count es
begun_count (Advance i k n ∷ es) = begun_count es
begun_count (Enter i ∷ es) = begun_count es
begun_count (Finish i e ∷ es) = begun_count es
begun_count (Stop ∷ es) = begun_count es

abbrev pub ended_count : List Event → ℕ
ended_count [] = 0
ended_count (Begin i ∷ es) = ended_count es
ended_count (Access i a ∷ es) = ended_count es
ended_count (Advance i k n ∷ es) = ended_count es
ended_count (Enter i ∷ es) = ended_count es
ended_count (Finish i e ∷ es) = suc (ended_count es)
ended_count (Stop ∷ es) = ended_count es

-- after each of the events at most `limit` iterations are alive: they have begun and not ended
abbrev pub IsThrottled : ℕ → List Event → Type 0
IsThrottled limit events = (front rest : List Event) → events ≡ front ++ rest → begun_count front ≤ ended_count front + limit
