-- The elision of the lowered program has the races of the grid.
use Rattle.std.proofs.Common.{◌≡◌, ◌∙◌, ap, sym, refl, subst, List, [], ◌∷◌, map}
use Rattle.pipe_model.specs.declared.column.Column.{Column}
use Rattle.pipe_model.specs.Language.ProgramsOfTrees.{whole_of}
use Rattle.pipe_model.specs.Pipelines.Behaviour.{Action, column_of}
use Rattle.pipe_model.specs.Pipelines.ElisionResults.{ended_column}
use Rattle.pipe_model.specs.Pipelines.WholePrograms.{loop_accesses, loop_traces}
use Rattle.pipe_model.specs.Races.DeterminacyRaces.{IsRaceFree}
use Rattle.wave_laws.specs.WaveLaws.{LoweredRacesAreThoseOfTheGrid}
use Rattle.wave_laws.specs.Waves.GridResults.{grid_accesses, grid_nodes}

-- the instances of columns with their ends
nodes_of_ended : (traces : List (List Action)) → map (λ (column : Column). column.nodes) (map ended_column traces) ≡ map column_of traces
nodes_of_ended [] = refl
nodes_of_ended (t ∷ ts) = ap (λ l. column_of t ∷ l) (nodes_of_ended ts)

pub lowered_races_are_those_of_the_grid : LoweredRacesAreThoseOfTheGrid
lowered_races_are_those_of_the_grid program wave input g =
    let traces = loop_traces (whole_of program input) in
    let nodes : map column_of traces ≡ grid_nodes wave input =
    sym (nodes_of_ended traces) ∙ ap (map (λ (column : Column). column.nodes)) g.columns in
    let same : IsRaceFree (map column_of traces) (loop_accesses (whole_of program input))
    ≡ IsRaceFree (grid_nodes wave input) (grid_accesses wave input) =
    λ i. IsRaceFree (nodes i) (g.accesses i) in
    ((λ h. subst (λ (t : Type 0). t) same h), (λ h. subst (λ (t : Type 0). t) (sym same) h))
