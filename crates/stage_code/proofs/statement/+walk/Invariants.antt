use Rattle.std.proofs.Common.{◌≡◌, ◌+◌, ◌*◌, ◌++◌, length, drop}
use Rattle.pipe_model.specs.Language.Programs.{range_of}
use Rattle.pipe_model.specs.Language.SpellablePrograms.{statement_count, statement_counts}
use Rattle.pipe_model.specs.Language.SyntaxTree.{statement_of, statements_of}
use Rattle.stage_code.specs.CodeOfTrees.{statements_code}
use Rattle.stage_code.specs.Slots.{HaveSlots, locals_at_end}
use Rattle.stage_code.proofs.statement.+walk.Given as goal

abbrev pub decreases-put_block : goal.decreases-put_block
decreases-put_block l = 4 * statement_counts (statements_of l.block.now.statements.items) + 1

abbrev pub decreases-put_statement : goal.decreases-put_statement
decreases-put_statement l = 4 * statement_count (statement_of l.s.now)

abbrev pub decreases-put_if : goal.decreases-put_if
decreases-put_if l =
    let first = statement_counts (statements_of l.a.now.statements.items) in
    4 * (first + statement_counts (statements_of l.b.now.statements.items)) + 2

abbrev pub decreases-put_while : goal.decreases-put_while
decreases-put_while l = 4 * statement_counts (statements_of l.body.now.statements.items) + 2

-- the code so far and the code of the rest are the code of the whole
abbrev pub invariant-put_block-loop-s : goal.invariant-put_block-loop-s
invariant-put_block-loop-s l = record {
  code : l.code.items ++ statements_code (range_of 2 l.cells) l.locals (length l.code.items) (statements_of (drop l.s-index l.s-items))
      ≡ l.fn.code.items ++ statements_code (range_of 2 l.cells) l.fn.locals (length l.fn.code.items)
      (statements_of l.block.statements.items);
  after : locals_at_end l.locals (statements_of (drop l.s-index l.s-items)) ≡ locals_at_end l.fn.locals
      (statements_of l.block.statements.items);
  slots : HaveSlots l.locals (statements_of (drop l.s-index l.s-items));
}
