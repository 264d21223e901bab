use Rattle.std.proofs.Common.{◌≡◌, ◌+◌, ◌*◌, drop}
use Rattle.pipe_model.specs.Language.SpellablePrograms.{statement_count, statement_counts}
use Rattle.pipe_model.specs.Language.SyntaxTree.{statement_of, statements_of}
use Rattle.stage_code.specs.Heights.{greater, height_of_statements}
use Rattle.stage_code.proofs.height.+walk.Given as goal

abbrev pub decreases-height_of_block : goal.decreases-height_of_block
decreases-height_of_block l = 4 * statement_counts (statements_of l.block.now.statements.items) + 1

abbrev pub decreases-height_of_statement : goal.decreases-height_of_statement
decreases-height_of_statement l = 4 * statement_count (statement_of l.s.now)

abbrev pub invariant-height_of_block-loop-s : goal.invariant-height_of_block-loop-s
invariant-height_of_block-loop-s l =
    greater l.most (height_of_statements (statements_of (drop l.s-index l.s-items))) ≡ height_of_statements
    (statements_of l.block.statements.items)
