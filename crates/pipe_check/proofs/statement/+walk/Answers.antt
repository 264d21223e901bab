use Rattle.std.proofs.Common.{◌≡◌, ◌<◌, ◌∙◌, sym, ap, arith, length}
use Rattle.std.proofs.lemmas.Result.{err_from_is_err_and, on_ok_weaker}
use Rattle.pipe_model.specs.Language.Marks.{after_statements}
use Rattle.pipe_model.specs.Language.SpellablePrograms.{statement_count, statement_counts}
use Rattle.pipe_model.specs.Language.SyntaxTree.{expression_of, statement_of, statements_of}
use Rattle.pipe_model.proofs.NestedBlocks.{if_seen, while_seen}
use Rattle.pipe_check.proofs.Statements.{none_left, block_refused, statement_fits, one_counts, statement_passed, block_left, test_refused}
use Rattle.pipe_check.proofs.Statements.{first_refused, second_decides, first_fits, second_fits, branch_left, loop_refused, body_decides}
use Rattle.pipe_check.proofs.Statements.{body_fits, loop_left}
use Rattle.pipe_check.proofs.statement.+walk.Goals as goal

pub check_block-returns-in_err-next-clause-marks : goal.check_block-returns-in_err-next-clause-marks
check_block-returns-in_err-next-clause-marks t c =
    let p = err_from_is_err_and c.from_residual.result c.from_residual.ensures.1 in
    let w : c.loop-s.s-index < length c.deref-s-items.result.now = omega arith in
    rw (p.1, p.2) (block_refused c.loop-s.scope c.deref-s-items.result.now c.loop-s.s-index c.loop-s.next c.s-item.result _ _ w c.s-item.is
    c.loop-s.invariant.faults
    c.in_err-next.ensures.marks)

pub check_block-check_statement-requires : goal.check_block-check_statement-requires
check_block-check_statement-requires t c =
    let items = c.deref-s-items.result.now in
    let w : c.loop-s.s-index < length c.deref-s-items.result.now = omega arith in
    let counted = one_counts items c.loop-s.s-index c.s-item.result w c.s-item.is in
    let whole = ap (λ ss. statement_counts (statements_of ss)) c.deref-s-items.ensures.value in (
      omega (arith, c.decreases, counted, whole),
      statement_fits c.loop-s.scope items c.loop-s.s-index c.loop-s.next _ c.s-item.result w c.s-item.is c.loop-s.invariant.numbers
          c.requires.fits,
    )

pub check_block-loop-s-preserved : goal.check_block-loop-s-preserved
check_block-loop-s-preserved t c =
    let w : c.loop-s.s-index < length c.deref-s-items.result.now = omega arith in
    let step = statement_passed c.loop-s.scope c.check_statement.new.scope c.deref-s-items.result.now c.loop-s.s-index c.loop-s.next
    c.in_ok-next.next c.s-item.result w c.s-item.is
    c.in_ok-next.ensures.marks c.in_ok-next.ensures.scope_after in
    record {
      faults = step.faults ∙ c.loop-s.invariant.faults;
      numbers = step.numbers ∙ c.loop-s.invariant.numbers;
      scope_after = step.scope_after ∙ c.loop-s.invariant.scope_after;
    }

pub check_block-returns-clause-scope_after : goal.check_block-returns-clause-scope_after
check_block-returns-clause-scope_after t c =
    let left = none_left c.deref-s-items.result.now c.loop-s.s-index c.loop-s-test.false in
    let ended : c.loop-s.scope ≡ after_statements c.args.scope.now (statements_of c.args.block.now.statements.items) =
    sym (ap (after_statements c.loop-s.scope) left) ∙ c.loop-s.invariant.scope_after in
    rw (c.leave.ensures, c.visible_len-visible.ensures)
    (block_left c.args.scope.now c.loop-s.scope (statements_of c.args.block.now.statements.items) ended)

pub check_statement-returns-in_err-next-in-If-clause-marks : goal.check_statement-returns-in_err-next-in-If-clause-marks
check_statement-returns-in_err-next-in-If-clause-marks t c =
    let p = err_from_is_err_and c.from_residual.result c.from_residual.ensures.1 in
    let is = ap statement_of c.in-If.is ∙ if_seen c.in-If.e c.in-If.a c.in-If.b in
    rw (p.1, p.2) (test_refused c.args.scope.now _ (expression_of c.in-If.e) _ _ _ _ is c.in_err-next-in-If.ensures)

pub check_statement-check_block-requires : goal.check_statement-check_block-requires
check_statement-check_block-requires t c =
    let is = ap statement_of c.in-If.is ∙ if_seen c.in-If.e c.in-If.a c.in-If.b in
    let counted = ap statement_count is in (
      omega (arith, c.decreases, counted),
      first_fits c.args.scope.now _ _ (expression_of c.in-If.e) _ _ _ is c.requires.fits
          c.in_ok-next-in-If.ensures,
    )

pub check_statement-returns-in_err-next-in-If-2-clause-marks : goal.check_statement-returns-in_err-next-in-If-2-clause-marks
check_statement-returns-in_err-next-in-If-2-clause-marks t c =
    let p = err_from_is_err_and c.from_residual-in_err-next-in-If-2.result c.from_residual-in_err-next-in-If-2.ensures.1 in
    let is = ap statement_of c.in-If.is ∙ if_seen c.in-If.e c.in-If.a c.in-If.b in
    rw (p.1, p.2) (first_refused c.args.scope.now _ _ (expression_of c.in-If.e) _ _ _ _ is c.in_ok-next-in-If.ensures
    c.in_err-next-in-If-2.ensures.marks)

pub check_statement-check_block-requires-in-If : goal.check_statement-check_block-requires-in-If
check_statement-check_block-requires-in-If t c =
    let is = ap statement_of c.in-If.is ∙ if_seen c.in-If.e c.in-If.a c.in-If.b in
    let counted = ap statement_count is in (
      omega (arith, c.decreases, counted),
      second_fits c.args.scope.now c.check_block.new.scope _ _ _ (expression_of c.in-If.e) _ _ _ is
          c.in_ok-next-in-If-2.ensures.scope_after c.requires.fits
          c.in_ok-next-in-If.ensures c.in_ok-next-in-If-2.ensures.marks,
    )

pub check_statement-returns-in_ok-next-in-If-2-clause-marks : goal.check_statement-returns-in_ok-next-in-If-2-clause-marks
check_statement-returns-in_ok-next-in-If-2-clause-marks t c =
    let is = ap statement_of c.in-If.is ∙ if_seen c.in-If.e c.in-If.a c.in-If.b in
    second_decides c.args.scope.now c.check_block.new.scope _ _ _ (expression_of c.in-If.e) _ _ _ _ is
    c.in_ok-next-in-If-2.ensures.scope_after
    c.in_ok-next-in-If.ensures c.in_ok-next-in-If-2.ensures.marks c.check_block-in-If.ensures.marks

pub check_statement-returns-in_ok-next-in-If-2-clause-scope_after : goal.check_statement-returns-in_ok-next-in-If-2-clause-scope_after
check_statement-returns-in_ok-next-in-If-2-clause-scope_after t c =
    let is = ap statement_of c.in-If.is ∙ if_seen c.in-If.e c.in-If.a c.in-If.b in
    on_ok_weaker c.check_block-in-If.result (λ left. branch_left c.args.scope.now c.check_block.new.scope c.check_block-in-If.new.scope
    (expression_of c.in-If.e)
    (statements_of c.in-If.a.statements.items) (statements_of c.in-If.b.statements.items) _ is c.in_ok-next-in-If-2.ensures.scope_after
    left)
    c.check_block-in-If.ensures.scope_after

pub check_statement-returns-in_err-next-in-While-clause-marks : goal.check_statement-returns-in_err-next-in-While-clause-marks
check_statement-returns-in_err-next-in-While-clause-marks t c =
    let p = err_from_is_err_and c.from_residual-in_err-next-in-While.result c.from_residual-in_err-next-in-While.ensures.1 in
    let is = ap statement_of c.in-While.is ∙ while_seen c.in-While.e c.in-While.a in
    rw (p.1, p.2) (loop_refused c.args.scope.now _ (expression_of c.in-While.e) _ _ _ is c.in_err-next-in-While.ensures)

pub check_statement-check_block-requires-in-While : goal.check_statement-check_block-requires-in-While
check_statement-check_block-requires-in-While t c =
    let is = ap statement_of c.in-While.is ∙ while_seen c.in-While.e c.in-While.a in
    let counted = ap statement_count is in (
      omega (arith, c.decreases, counted),
      body_fits c.args.scope.now _ _ (expression_of c.in-While.e) _ _ is c.requires.fits
          c.in_ok-next-in-While.ensures,
    )

pub check_statement-returns-in_ok-next-in-While-clause-marks : goal.check_statement-returns-in_ok-next-in-While-clause-marks
check_statement-returns-in_ok-next-in-While-clause-marks t c =
    let is = ap statement_of c.in-While.is ∙ while_seen c.in-While.e c.in-While.a in
    body_decides c.args.scope.now _ _ (expression_of c.in-While.e) _ _ _ is c.in_ok-next-in-While.ensures
    c.check_block-in-While.ensures.marks

pub check_statement-returns-in_ok-next-in-While-clause-scope_after : goal.check_statement-returns-in_ok-next-in-While-clause-scope_after
check_statement-returns-in_ok-next-in-While-clause-scope_after t c =
    let is = ap statement_of c.in-While.is ∙ while_seen c.in-While.e c.in-While.a in
    on_ok_weaker c.check_block-in-While.result (λ left. loop_left c.args.scope.now c.check_block-in-While.new.scope
    (expression_of c.in-While.e)
    (statements_of c.in-While.a.statements.items) _ is left) c.check_block-in-While.ensures.scope_after
