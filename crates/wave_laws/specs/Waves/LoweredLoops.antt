-- The pipeline to which a wave loop is lowered. An iteration fills a column, and waits before each row but the first:
--
--     pipe_while (iter() < iterations) {
--         let row = -1;
--         while (row < stages - 1) { if (row >= 0) { pipe_wait(); } row = row + 1; .. }
--     }
use Rattle.std.specs.Prelude.{ℤ, pos}
use Rattle.std.proofs.Math.IntN.{◌-ℤ◌}
use Rattle.pipe_model.specs.declared.operator_codes.TheConstants as operator_codes
use Rattle.pipe_model.specs.declared.tree.StageKind.TheVariants as kinds
use Rattle.pipe_model.specs.Language.SyntaxTree.{Expression, Number, Name, Binary, Unary, Iter, Statement, Let, Assign, If, While}
use Rattle.pipe_model.specs.Language.SyntaxTree.{NextStage, Statements, Empty, Then, SyntaxTree}
use Rattle.wave_laws.specs.Waves.WaveLoops.{row, rest_of}

-- `iter() < iterations`
abbrev pub lowered_test : ℤ → Expression
lowered_test iterations = Binary operator_codes.LESS Iter (Number iterations)

-- `if (row >= 0) { pipe_wait(); }`
abbrev pub waits_for_left : Statement
waits_for_left = If (Binary operator_codes.AT_LEAST (Name row) (Number (pos 0))) (Then (NextStage kinds.Wait) Empty) Empty

-- `row = row + 1;`
abbrev pub counts_row : Statement
counts_row = Assign row (Binary operator_codes.PLUS (Name row) (Number (pos 1)))

-- one turn of the inner loop
abbrev pub lowered_turn : Statements → Statements
lowered_turn rest = Then waits_for_left (Then counts_row rest)

-- `row < stages - 1`, in which the right side is one number
abbrev pub lowered_bound : ℤ → Expression
lowered_bound stages = Binary operator_codes.LESS (Name row) (Number (stages -ℤ pos 1))

abbrev pub lowered_body : ℤ → Statements → Statements
lowered_body stages rest =
    Then (Let row (Unary operator_codes.NEGATIVE (Number (pos 1)))) (Then (While (lowered_bound stages) (lowered_turn rest)) Empty)

-- limits, cells, `init` and `final` stay as they are
abbrev pub lowered : SyntaxTree → SyntaxTree
lowered tree = record tree { test = lowered_test tree.limits.iterations; body = lowered_body tree.limits.stages (rest_of tree.body) }
