-- Laws of wave loops.
use Rattle.std.specs.Prelude.{◌≡◌, ◌↔◌, ◌<◌, ◌≤◌, ◌≢◌, ℕ, ℤ, List, None, map, length}
use Rattle.pipe_model.specs.Language.CheckingRules.{BreaksNoRule}
use Rattle.pipe_model.specs.Language.Programs.{natural}
use Rattle.pipe_model.specs.Language.ProgramsOfTrees.{whole_of}
use Rattle.pipe_model.specs.Language.SourceSpelling.{SourceSpells}
use Rattle.pipe_model.specs.Language.SpellablePrograms.{IsSpellable, size_of}
use Rattle.pipe_model.specs.Language.SyntaxTree.{SyntaxTree}
use Rattle.pipe_model.specs.Pipelines.Behaviour.{column_of}
use Rattle.pipe_model.specs.Pipelines.WholePrograms.{loop_accesses, loop_traces, program_columns, program_output, program_trap}
use Rattle.pipe_model.specs.Races.Columns.{at, nodes_at}
use Rattle.pipe_model.specs.Races.Dag.{Precedes}
use Rattle.pipe_model.specs.Races.DeterminacyRaces.{IsRaceFree}
use Rattle.wave_laws.specs.Waves.GridResults.{grid_accesses, grid_columns, grid_nodes, grid_output, grid_trap}
use Rattle.wave_laws.specs.Waves.LoweredLoops.{lowered}
use Rattle.wave_laws.specs.Waves.WaveFaults.{wave_fault}
use Rattle.wave_laws.specs.Waves.WaveLoops.{IsWave}

-- the serial elision of the program is the grid of the wave loop
pub record IsTheGrid (program wave : SyntaxTree) (input : List ℤ) : Type 0 where
  pub output : program_output (whole_of program input) ≡ grid_output wave input
  pub trap : program_trap (whole_of program input) ≡ grid_trap wave input
  pub columns : program_columns (whole_of program input) ≡ grid_columns wave input
  pub accesses : loop_accesses (whole_of program input) ≡ grid_accesses wave input

-- the serial elision of the lowered program is the grid
abbrev pub LoweredWavesAreGrids : Type 0
LoweredWavesAreGrids = (tree : SyntaxTree) (input : List ℤ) → IsWave tree → BreaksNoRule tree → IsTheGrid (lowered tree) tree input

-- the elision of a program that is the grid has a race exactly if the grid's dag has one
abbrev pub LoweredRacesAreThoseOfTheGrid : Type 0
LoweredRacesAreThoseOfTheGrid =
    (program wave : SyntaxTree) (input : List ℤ) → IsTheGrid program wave input
    → IsRaceFree (map column_of (loop_traces (whole_of program input))) (loop_accesses (whole_of program input))
    ↔ IsRaceFree (grid_nodes wave input) (grid_accesses wave input)

-- if no column was cut short by a trap, a point precedes another exactly if neither its column nor its row is greater
abbrev pub PointsPrecede : Type 0
PointsPrecede =
    (tree : SyntaxTree) (input : List ℤ) (c r d q : ℕ) → c < natural tree.limits.iterations → d < natural tree.limits.iterations
    → ((i : ℕ) → i < natural tree.limits.iterations → length (nodes_at (grid_nodes tree input) i) ≡ natural tree.limits.stages)
    → r < natural tree.limits.stages → q < natural tree.limits.stages → at c r ≢ at d q
    → Precedes (grid_nodes tree input) (at c r) (at d q) ↔ ((c ≤ d) × (r ≤ q))

-- the lowered program breaks no rule of the checker
abbrev pub LoweredWavesBreakNoRule : Type 0
LoweredWavesBreakNoRule = (tree : SyntaxTree) → IsWave tree → BreaksNoRule tree → BreaksNoRule (lowered tree)

-- the most marks, nodes of expressions and statements of a program that is lowered
abbrev pub LARGEST_WAVE : ℕ
LARGEST_WAVE = 4194240

-- the lowered program meets the conditions of the checker
abbrev pub LoweredWavesAreSpellable : Type 0
LoweredWavesAreSpellable = (tree : SyntaxTree) → IsWave tree → IsSpellable tree → size_of tree ≤ LARGEST_WAVE → IsSpellable (lowered tree)

-- every program that a source spells is small enough to be lowered
abbrev pub SpelledProgramsAreSmall : Type 0
SpelledProgramsAreSmall = (source : List ℕ) (tree : SyntaxTree) → SourceSpells source tree → size_of tree ≤ LARGEST_WAVE

-- a program without a fault as a wave loop is one
abbrev pub FaultlessProgramsAreWaves : Type 0
FaultlessProgramsAreWaves = (tree : SyntaxTree) → wave_fault tree ≡ None → IsWave tree

-- a wave loop that breaks no rule has no such fault
abbrev pub WavesHaveNoFault : Type 0
WavesHaveNoFault = (tree : SyntaxTree) → IsWave tree → BreaksNoRule tree → wave_fault tree ≡ None
