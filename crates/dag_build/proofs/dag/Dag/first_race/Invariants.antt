use Rattle.std.proofs.Common.{ℕ, ◌<◌, length}
use Rattle.pipe_model.specs.Races.CellRaces.{RacesAt}
use Rattle.dag_build.specs.AccessFronts.{AreFronts}
use Rattle.dag_build.specs.RacingAccesses.{noted_all}
use Rattle.dag_build.proofs.dag.Dag.first_race.Given as goal

abbrev pub invariant-loop-later : goal.invariant-loop-later
invariant-loop-later l = (l.fronts.column < length l.self)
    × AreFronts l.self (noted_all l.accesses) l.later l.fronts
    × ((n k : ℕ) → n < l.later → RacesAt l.self (noted_all l.accesses) n k → ⊥)
