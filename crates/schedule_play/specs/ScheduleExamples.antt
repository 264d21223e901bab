-- Worked examples of schedules.
use Rattle.std.specs.Prelude.{◌≡◌, [], ◌∷◌}
use Rattle.schedule_play.specs.SeedChoices.{first_choices}

-- the first choices of seed 1
abbrev pub ChoicesOfSeedOne : Type 0
ChoicesOfSeedOne = first_choices 1 3 ≡ 11408 ∷ (1800 ∷ (63 ∷ []))
