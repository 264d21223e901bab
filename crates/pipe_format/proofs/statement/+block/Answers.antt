use Rattle.std.proofs.Common.{rules, ◌≡◌, ◌∙◌, ◌+◌, ◌++◌, length, vec_len}
use Rattle.pipe_model.specs.Language.CanonicalText.{else_text, statements_text}
use Rattle.pipe_model.specs.Language.SyntaxTree.{If, While, expression_of, statement_of, statements_of}
use Rattle.pipe_model.proofs.NestedBlocks.{if_seen, while_seen}
use Rattle.pipe_format.proofs.Lines.{on_ok, while_by_parts, if_by_parts, else_by_parts, no_else, has_some, has_none}
use Rattle.pipe_format.proofs.statement.+block.Goals as goal
use Rattle.pipe_format.proofs.statement.+block.Goals.{push_statement-then-not-is_empty+in_ok-push_line-in-If+in_ok-push_block-in-If-2}
use Rattle.pipe_format.proofs.statement.+block.Goals.{push_statement-else-not-is_empty}

pub push_statement-returns-after-not-is_empty : goal.push_statement-returns-after-not-is_empty
push_statement-returns-after-not-is_empty t c =
    let then = statements_of c.in-If.then.statements.items in
    let other = statements_of c.in-If.other.statements.items in
    let many : vec_len c.in-If.other.statements ≡ length c.in-If.other.statements.items = search rules in
    let whole : statement_of c.args.s.now ≡ If (expression_of c.in-If.test) then other = rw c.in-If.is
    (if_seen c.in-If.test c.in-If.then c.in-If.other) in
    let chosen : c.if-not-is_empty.text.items ≡ c.push_block.new.text.items ++ else_text c.args.indent other
    (statements_text (c.args.indent + 2) other) =
    elim c.if-not-is_empty.branch [
      | push_statement-then-not-is_empty+in_ok-push_line-in-If+in_ok-push_block-in-If-2 w ↦
          let same : c.if-not-is_empty.text.items ≡ w.push_block-then-not-is_empty.new.text.items = search rules in
          same ∙ (else_by_parts c.args.indent c.in-If.other.statements.items _ w.push_line.new.text.items _
          (has_some _ _ many w.if-not-is_empty.ensures)
          w.in_ok-push_line-in-If.ensures w.in_ok-push_block-in-If-2.ensures)
      | push_statement-else-not-is_empty w ↦
          let same : c.if-not-is_empty.text.items ≡ c.push_block.new.text.items = search rules in
          same ∙ (no_else c.args.indent c.in-If.other.statements.items _ (has_none _ _ many w.if-not-is_empty.ensures))
    ] in
    rw whole (on_ok c.push_line-in-If.result
    (λ h. if_by_parts c.args.indent (expression_of c.in-If.test) then other c.args.text.now.items c.push_between-in-If.new.text.items
    c.push_block.new.text.items _ _
    c.in_ok-push_between-in-If.ensures c.in_ok-push_block-in-If.ensures chosen h)
    c.push_line-in-If.ensures)

pub push_statement-returns-in_ok-push_block-in-While : goal.push_statement-returns-in_ok-push_block-in-While
push_statement-returns-in_ok-push_block-in-While t c =
    let body = statements_of c.in-While.body.statements.items in
    let whole : statement_of c.args.s.now ≡ While (expression_of c.in-While.test) body = rw c.in-While.is
    (while_seen c.in-While.test c.in-While.body) in
    rw whole (on_ok c.push_line-in-While.result
    (λ h. while_by_parts c.args.indent (expression_of c.in-While.test) body c.args.text.now.items c.push_between-in-While.new.text.items
    c.push_block-in-While.new.text.items _
    c.in_ok-push_between-in-While.ensures c.in_ok-push_block-in-While.ensures h)
    c.push_line-in-While.ensures)
