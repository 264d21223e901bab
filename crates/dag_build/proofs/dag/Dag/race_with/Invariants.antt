use Rattle.std.proofs.Common.{ℕ, ◌<◌}
use Rattle.pipe_model.specs.Races.CellRaces.{RacesAt}
use Rattle.dag_build.specs.RacingAccesses.{noted_all}
use Rattle.dag_build.proofs.dag.Dag.race_with.Given as goal

abbrev pub invariant-loop-earlier : goal.invariant-loop-earlier
invariant-loop-earlier l = (k : ℕ) → k < l.earlier → RacesAt l.self (noted_all l.accesses) l.later k → ⊥
