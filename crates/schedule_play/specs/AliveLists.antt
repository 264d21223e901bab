-- The list of the iterations that have not ended.
use Rattle.std.specs.Prelude.{◌≡◌, ◌≤◌, ◌+◌, ℕ, zero, suc, List, [], ◌∷◌, count_by}
use Rattle.schedule_play.specs.declared.turns.Alive.{Alive}
use Rattle.schedule_play.specs.Turns.{is_ready, is_running}

-- the entries, and how many there may be
pub record AliveListState : Type 0 where
  pub entries : List Alive
  pub limit : ℕ

-- n of the entries run, and m have named a stage that they may enter
pub record IsCounted (entries : List Alive) (n m : ℕ) : Type 0 where
  pub running : n ≡ count_by (λ (a : Alive). is_running a.readiness) entries
  pub ready : m ≡ count_by (λ (a : Alive). is_ready a.readiness) entries

-- the numbers of the iterations rise, from n or a greater one
abbrev pub RisesFrom : ℕ → List Alive → Type 0
RisesFrom n [] = Unit {0}
RisesFrom n (a ∷ rest) = (n ≤ a.iteration) × RisesFrom (a.iteration + 1) rest

-- the numbers of the iterations rise
abbrev pub IsRising : List Alive → Type 0
IsRising entries = RisesFrom 0 entries

-- the entries after a change of the one with this index, if there is one
abbrev pub altered : (Alive → Alive) → List Alive → ℕ → List Alive
altered change [] index = []
altered change (a ∷ rest) zero = change a ∷ rest
altered change (a ∷ rest) (suc index) = a ∷ altered change rest index
