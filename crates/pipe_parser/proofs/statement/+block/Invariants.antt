use Rattle.std.proofs.Common.{length, ◌+◌, ◌*◌, ◌≤◌, ◌≡◌, List, ◌∷◌}
use Rattle.pipe_model.specs.declared.symbol.Symbol.{Symbol}
use Rattle.grammar_laws.specs.ProgramMachine as machine
use Rattle.grammar_laws.specs.ProgramMachine.{Want, Outside, judge}
use Rattle.pipe_model.specs.Language.SyntaxTree.{Statements}
use Rattle.grammar_laws.specs.Reading.{ReadsStatements}
use Rattle.pipe_parser.proofs.StatementFronts.{before}
use Rattle.pipe_parser.proofs.statement.+block.Given as goal

abbrev pub decreases-read_statement : goal.decreases-read_statement
decreases-read_statement l = 8 * length l.symbols.now

abbrev pub decreases-read_if : goal.decreases-read_if
decreases-read_if l = 8 * length l.symbols.now + 3

abbrev pub decreases-read_while : goal.decreases-read_while
decreases-read_while l = 8 * length l.symbols.now + 3

abbrev pub decreases-read_part : goal.decreases-read_part
decreases-read_part l = 8 * length l.symbols + 2

abbrev pub decreases-read_block : goal.decreases-read_block
decreases-read_block l = 8 * length l.symbols.now + 1

-- whatever is read from the rest comes after the statements found so far
abbrev pub invariant-read_block-loop-following : goal.invariant-read_block-loop-following
invariant-read_block-loop-following l = record {
  reads : (ss : Statements) (end : List Symbol) → ReadsStatements 256 l.rest ss end → ReadsStatements 256 l.initial.rest
      (before l.statements.items ss) end;
  passes : (below : List Want) → judge 256 l.initial.rest (Outside (machine.Statements ∷ below)) ≡ judge 256 l.rest
      (Outside (machine.Statements ∷ below));
  shorter : length l.rest ≤ length l.initial.rest;
}

abbrev pub decreases-read_block-loop-following : goal.decreases-read_block-loop-following
decreases-read_block-loop-following l = length l.rest
