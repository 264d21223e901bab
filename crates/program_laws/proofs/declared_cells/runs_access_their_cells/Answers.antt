use Rattle.program_laws.proofs.DeclaredCells.{actions_access_below, program_runs_access_their_cells, runs_access_below}
use Rattle.program_laws.proofs.declared_cells.runs_access_their_cells.Goals as goal

pub returns : goal.returns
returns c = record { actions = actions_access_below; runs = runs_access_below; programs = program_runs_access_their_cells }
