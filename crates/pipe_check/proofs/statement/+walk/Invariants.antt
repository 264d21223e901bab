use Rattle.std.proofs.Common.{◌≡◌, ◌+◌, ◌*◌, length, drop}
use Rattle.pipe_model.specs.Language.CheckingRules.{first_fault}
use Rattle.pipe_model.specs.Language.Marks.{after_statements, marks_of_statements}
use Rattle.pipe_model.specs.Language.SpellablePrograms.{statement_count, statement_counts}
use Rattle.pipe_model.specs.Language.SyntaxTree.{statement_of, statements_of}
use Rattle.pipe_check.proofs.statement.+walk.Given as goal

abbrev pub decreases-check_block : goal.decreases-check_block
decreases-check_block l = 4 * statement_counts (statements_of l.block.now.statements.items) + 1

abbrev pub decreases-check_statement : goal.decreases-check_statement
decreases-check_statement l = 4 * statement_count (statement_of l.s.now)

-- the rest has the faults, the last number and the final scope of the whole
abbrev pub invariant-check_block-loop-s : goal.invariant-check_block-loop-s
invariant-check_block-loop-s l = record {
  faults : first_fault l.next (marks_of_statements l.scope (statements_of (drop l.s-index l.s-items)))
      ≡ first_fault l.fn.next (marks_of_statements l.fn.scope (statements_of l.block.statements.items));
  numbers : l.next + length (marks_of_statements l.scope (statements_of (drop l.s-index l.s-items)))
      ≡ l.fn.next + length (marks_of_statements l.fn.scope (statements_of l.block.statements.items));
  scope_after : after_statements l.scope (statements_of (drop l.s-index l.s-items)) ≡ after_statements l.fn.scope
      (statements_of l.block.statements.items);
}
