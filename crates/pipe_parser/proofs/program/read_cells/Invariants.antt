use Rattle.std.proofs.Common.{◌≡◌, List, ◌∷◌, ◌++◌, length}
use Rattle.pipe_model.specs.declared.symbol.Symbol.{Symbol}
use Rattle.pipe_model.specs.declared.tree.Declaration.{Declaration}
use Rattle.grammar_laws.specs.ProgramMachine.{Want, Cells, Outside, judge}
use Rattle.grammar_laws.specs.Reading.{ReadsCells}
use Rattle.pipe_parser.proofs.program.read_cells.Given as goal

-- whatever is read from the rest comes after the declarations found so far
abbrev pub invariant-loop-declared : goal.invariant-loop-declared
invariant-loop-declared l = record {
  reads : (ds : List Declaration) (end : List Symbol) → ReadsCells l.rest ds end → ReadsCells l.initial.rest (l.cells ++ ds) end;
  passes : (below : List Want) → judge 256 l.initial.rest (Outside (Cells ∷ below)) ≡ judge 256 l.rest (Outside (Cells ∷ below));
}

abbrev pub decreases-loop-declared : goal.decreases-loop-declared
decreases-loop-declared l = length l.rest
