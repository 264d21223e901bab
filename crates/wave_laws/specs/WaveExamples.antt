-- Worked examples: small wave loops with their grids.
use Rattle.std.specs.Prelude.{◌≡◌, ℤ, pos, List, [], ◌∷◌, Option, Some, None}
use Rattle.pipe_model.specs.declared.column.Column.{Column}
use Rattle.pipe_model.specs.declared.column.ColumnEnd.{ColumnEnd}
use Rattle.pipe_model.specs.declared.column.ColumnEnd.TheVariants as ends
use Rattle.pipe_model.specs.declared.node.Kind.TheVariants.{Zero, Wait}
use Rattle.pipe_model.specs.declared.trap.Trap.TheVariants as traps
use Rattle.pipe_model.specs.declared.trap.TrapAt.{TrapAt}
use Rattle.pipe_model.specs.Language.SyntaxTree.{Name, Number, Assign, Emit, Empty, Then, SyntaxTree}
use Rattle.pipe_model.specs.Pipelines.Behaviour.{node_of}
use Rattle.program_laws.specs.ExampleParts.{plain_cell, plus, s, trap_at}
use Rattle.wave_laws.specs.Waves.GridResults.{grid_columns, grid_output, grid_trap}
use Rattle.wave_laws.specs.Waves.LoweredLoops.{lowered}
use Rattle.wave_laws.specs.Waves.WaveFaults.{BadTest, RowSet, wave_fault}
use Rattle.wave_laws.specs.Waves.WaveLoops.{row, row_declaration}

-- limits iterations 2, stages 2, steps steps, emits 1; cell s = 0; pipe_while (1) { let row = 0; s = s + 1; } final { emit s; }
abbrev pub counted_points : ℤ → SyntaxTree
counted_points steps = record {
  limits = record { iterations = pos 2; stages = pos 2; steps = steps; emits = pos 1 };
  cells = plain_cell s (pos 0) ∷ [];
  init = Empty;
  test = Number (pos 1);
  body = Then row_declaration (Then (Assign s (plus (Name s) (Number (pos 1)))) Empty);
  last = Then (Emit (Name s)) Empty;
}

-- the grid of a wave loop without an input
abbrev pub HasGrid : SyntaxTree → List Column → Option TrapAt → List ℤ → Type 0
HasGrid tree columns trap output = (grid_columns tree [] ≡ columns) × (grid_trap tree [] ≡ trap) × (grid_output tree [] ≡ output)

-- a column with points in two rows, and one with a point in row 0 alone
abbrev pub two_points : Column
two_points = record { nodes = node_of Zero (pos 0) ∷ node_of Wait (pos 1) ∷ []; end = Some ends.End }

abbrev pub one_point : ColumnEnd → Column
one_point end = record { nodes = node_of Zero (pos 0) ∷ []; end = Some end }

-- a point in row 0 takes 19 + 4 + 9 steps, which is the whole budget; the closing instance follows the two columns
abbrev pub PointsAreCounted : Type 0
PointsAreCounted = HasGrid (counted_points (pos 32)) (two_points ∷ two_points ∷ one_point ends.Closed ∷ []) None (pos 4 ∷ [])

-- with one step less the first point traps, which ends the grid; `final` does not run
abbrev pub FirstPointTraps : Type 0
FirstPointTraps =
    HasGrid (counted_points (pos 31)) (one_point (ends.Trapped traps.Budget) ∷ []) (Some (trap_at traps.Budget 0 0 (pos 0))) []

-- the lowered program is no wave loop: its test is not the number 1
abbrev pub LoweredWavesAreNoWaves : Type 0
LoweredWavesAreNoWaves = wave_fault (lowered (counted_points (pos 32))) ≡ Some BadTest

-- `row = row + 1;` in place of `s = s + 1;`: the marks are those of the cell, of the `let`, and of the target
abbrev pub SetRowsAreFaults : Type 0
SetRowsAreFaults =
    wave_fault (record (counted_points (pos 32))
    { body = Then row_declaration (Then (Assign row (plus (Name row) (Number (pos 1)))) Empty) })
    ≡ Some (RowSet 2)
