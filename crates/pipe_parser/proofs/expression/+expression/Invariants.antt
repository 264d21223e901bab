use Rattle.std.proofs.Common.{length, ◌+◌, ◌-◌, ◌*◌, ◌≤◌, ◌≡◌, List, ◌∷◌}
use Rattle.pipe_model.specs.declared.symbol.Symbol.{Symbol}
use Rattle.grammar_laws.specs.ExpressionMachine.{Want, Tail, ending}
use Rattle.pipe_model.specs.Language.SyntaxTree.{Expression, expression_of}
use Rattle.grammar_laws.specs.Reading.{Extends}
use Rattle.pipe_parser.proofs.expression.+expression.Given as goal

abbrev pub decreases-extend : goal.decreases-extend
decreases-extend l = 32 * length l.symbols

abbrev pub decreases-read_expression : goal.decreases-read_expression
decreases-read_expression l = 32 * length l.symbols.now + 2 * (7 - l.level) + 4

abbrev pub decreases-first_operand : goal.decreases-first_operand
decreases-first_operand l = 32 * length l.symbols.now + 2

abbrev pub decreases-read_operand : goal.decreases-read_operand
decreases-read_operand l = 32 * length l.symbols.now

abbrev pub decreases-read_closed : goal.decreases-read_closed
decreases-read_closed l = 32 * length l.symbols.now + 20

abbrev pub decreases-read_named : goal.decreases-read_named
decreases-read_named l = 32 * length l.symbols + 1

abbrev pub decreases-read_unary : goal.decreases-read_unary
decreases-read_unary l = 32 * length l.symbols.now + 1

-- whatever extends the operands joined so far extends the first
abbrev pub invariant-extend-loop-code : goal.invariant-extend-loop-code
invariant-extend-loop-code l = record {
  extends : (e : Expression) (end : List Symbol) → Extends l.fn.level (expression_of l.joined) l.rest e end
      → Extends l.fn.level (expression_of l.initial.joined) l.initial.rest e end;
  passes : (below : List Want) → ending l.initial.rest (Tail ∷ below) ≡ ending l.rest (Tail ∷ below);
  shorter : length l.rest ≤ length l.initial.rest;
}

abbrev pub decreases-extend-loop-code : goal.decreases-extend-loop-code
decreases-extend-loop-code l = length l.rest
