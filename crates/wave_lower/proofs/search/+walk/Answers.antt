use Rattle.std.proofs.Common.{◌<◌, ◌≤◌, ◌∙◌, sym, ap, subst, arith, length, Ok, refl}
use Rattle.std.proofs.lemmas.Result.{err_from_is_err_and}
use Rattle.pipe_model.specs.Language.SpellablePrograms.{statement_count, statement_counts}
use Rattle.pipe_model.specs.Language.SyntaxTree.{expression_of, statement_of, statements_of}
use Rattle.pipe_model.proofs.NestedBlocks.{if_seen, while_seen}
use Rattle.wave_laws.specs.Waves.MarkFlags.{flags_of_statement, flags_of_statements}
use Rattle.wave_lower.specs.Searches.{Finds, Fits}
use Rattle.wave_lower.proofs.Finds.{after_one, after_two, block_ends, block_found, body_decides, body_fits, expression_passes, first_fits}
use Rattle.wave_lower.proofs.Finds.{first_found, one_counts, second_decides, second_fits, statement_fits, statement_passed}
use Rattle.wave_lower.proofs.search.+walk.Goals as goal

pub find_in_block-find_in_statement-requires : goal.find_in_block-find_in_statement-requires
find_in_block-find_in_statement-requires t c =
    let items = c.deref-s-items.result.now in
    let w : c.loop-s.s-index < length items = omega arith in
    let counted = one_counts items c.loop-s.s-index c.s-item.result w c.s-item.is in
    let same = c.deref-s-items.ensures.value in
    let whole = ap (λ ss. statement_counts (statements_of ss)) same in (
      omega (arith, c.decreases, counted, whole),
      statement_fits c.args.stage c.args.target items c.loop-s.s-index c.loop-s.next c.args.next c.s-item.result w c.s-item.is
          c.loop-s.invariant (subst (λ ss. Fits c.args.next (flags_of_statements c.args.stage c.args.target (statements_of ss)))
          (sym same) c.requires),
    )

pub find_in_block-returns-in_err-next : goal.find_in_block-returns-in_err-next
find_in_block-returns-in_err-next t c =
    let items = c.deref-s-items.result.now in
    let w : c.loop-s.s-index < length items = omega arith in
    let p = err_from_is_err_and c.from_residual.result c.from_residual.ensures.1 in
    let same = c.deref-s-items.ensures.value in
    rw (p.1, p.2) (block_found c.args.stage c.args.target items _ c.loop-s.s-index c.loop-s.next c.args.next _
    c.s-item.result same w c.s-item.is c.loop-s.invariant c.in_err-next.ensures)

pub find_in_block-loop-s-preserved : goal.find_in_block-loop-s-preserved
find_in_block-loop-s-preserved t c =
    let items = c.deref-s-items.result.now in
    let w : c.loop-s.s-index < length items = omega arith in
    statement_passed c.args.stage c.args.target items c.loop-s.s-index c.loop-s.next c.in_ok-next.next c.args.next
    c.s-item.result w c.s-item.is c.loop-s.invariant c.in_ok-next.ensures

pub find_in_block-returns : goal.find_in_block-returns
find_in_block-returns t c =
    let items = c.deref-s-items.result.now in
    let past : length items ≤ c.loop-s.s-index = omega (arith, c.loop-s-test.false) in
    subst (λ ss. Finds (Ok c.loop-s.next) c.args.next
    (flags_of_statements c.args.stage c.args.target (statements_of ss))) c.deref-s-items.ensures.value
    (block_ends c.args.stage c.args.target items c.loop-s.s-index c.loop-s.next c.args.next past c.loop-s.invariant)

pub find_in_statement-find_in_block-requires : goal.find_in_statement-find_in_block-requires
find_in_statement-find_in_block-requires t c =
    let is = ap statement_of c.in-If.is ∙ if_seen c.in-If.e c.in-If.a c.in-If.b in
    let counted = ap statement_count is in (
      omega (arith, c.decreases, counted),
      first_fits c.args.stage c.args.target c.args.next _
          (expression_of c.in-If.e) _ _ _ is c.requires c.after_expression-in-If.ensures,
    )

pub find_in_statement-returns-in_err-next-in-If : goal.find_in_statement-returns-in_err-next-in-If
find_in_statement-returns-in_err-next-in-If t c =
    let p = err_from_is_err_and c.from_residual.result c.from_residual.ensures.1 in
    let is = ap statement_of c.in-If.is ∙ if_seen c.in-If.e c.in-If.a c.in-If.b in
    rw (p.1, p.2) (first_found c.args.stage c.args.target c.args.next _ _
    (expression_of c.in-If.e) _ _ _ is c.after_expression-in-If.ensures c.in_err-next-in-If.ensures)

pub find_in_statement-find_in_block-requires-in-If : goal.find_in_statement-find_in_block-requires-in-If
find_in_statement-find_in_block-requires-in-If t c =
    let is = ap statement_of c.in-If.is ∙ if_seen c.in-If.e c.in-If.a c.in-If.b in
    let counted = ap statement_count is in (
      omega (arith, c.decreases, counted),
      second_fits c.args.stage c.args.target c.args.next _ _ (expression_of c.in-If.e) _ _ _ is c.requires
          c.after_expression-in-If.ensures c.in_ok-next-in-If.ensures,
    )

pub find_in_statement-find_in_block-requires-in-While : goal.find_in_statement-find_in_block-requires-in-While
find_in_statement-find_in_block-requires-in-While t c =
    let is = ap statement_of c.in-While.is ∙ while_seen c.in-While.e c.in-While.a in
    let counted = ap statement_count is in (
      omega (arith, c.decreases, counted),
      body_fits c.args.stage c.args.target c.args.next _
          (expression_of c.in-While.e) _ _ is c.requires c.after_expression-in-While.ensures,
    )

pub find_in_statement-returns-in-Let : goal.find_in_statement-returns-in-Let
find_in_statement-returns-in-Let t c =
    subst (λ s. Finds (Ok c.after_expression.result) c.args.next (flags_of_statement c.args.stage c.args.target (statement_of s)))
    (sym c.in-Let.is)
    (after_one _ c.args.next c.after_expression.result (expression_of c.in-Let.e) refl c.after_expression.ensures)

pub find_in_statement-returns-in-AssignElement : goal.find_in_statement-returns-in-AssignElement
find_in_statement-returns-in-AssignElement t c =
    subst (λ s. Finds (Ok c.after_expression-in-AssignElement-2.result) c.args.next
    (flags_of_statement c.args.stage c.args.target (statement_of s))) (sym c.in-AssignElement.is)
    (after_two c.args.next c.after_expression-in-AssignElement.result c.after_expression-in-AssignElement-2.result
    (expression_of c.in-AssignElement.i)
    (expression_of c.in-AssignElement.e) c.after_expression-in-AssignElement.ensures c.after_expression-in-AssignElement-2.ensures)

pub find_in_statement-returns-in-Emit : goal.find_in_statement-returns-in-Emit
find_in_statement-returns-in-Emit t c =
    subst (λ s. Finds (Ok c.after_expression-in-Emit.result) c.args.next (flags_of_statement c.args.stage c.args.target (statement_of s)))
    (sym c.in-Emit.is)
    (expression_passes c.args.next c.after_expression-in-Emit.result (expression_of c.in-Emit.e) c.after_expression-in-Emit.ensures)

pub find_in_statement-returns-in_ok-next-in-If : goal.find_in_statement-returns-in_ok-next-in-If
find_in_statement-returns-in_ok-next-in-If t c =
    let is = ap statement_of c.in-If.is ∙ if_seen c.in-If.e c.in-If.a c.in-If.b in
    second_decides c.args.stage c.args.target c.args.next _ _
    (expression_of c.in-If.e) _ _ _ _ is c.after_expression-in-If.ensures c.in_ok-next-in-If.ensures
    c.find_in_block-in-If.ensures

pub find_in_statement-returns-in-While : goal.find_in_statement-returns-in-While
find_in_statement-returns-in-While t c =
    let is = ap statement_of c.in-While.is ∙ while_seen c.in-While.e c.in-While.a in
    body_decides c.args.stage c.args.target c.args.next _
    (expression_of c.in-While.e) _ _ _ is c.after_expression-in-While.ensures c.find_in_block-in-While.ensures
