use Rattle.std.proofs.Common.{rules, OnOk, ◌≡◌, ◌<◌, ◌≤◌, ◌∙◌, ◌++◌, ◌∷◌, [], List, ℕ, length, refl, sym, ap, subst, slice_set}
use Rattle.std.proofs.Common.{arith, length-append}
use Rattle.pipe_check.proofs.Statements.{one_counts}
use Rattle.pipe_model.specs.Language.Programs.{range_of}
use Rattle.pipe_model.specs.Language.SpellablePrograms.{statement_count, statement_counts}
use Rattle.pipe_model.specs.Language.SyntaxTree.{expression_of, statement_of, statements_of}
use Rattle.pipe_model.proofs.NestedBlocks.{if_seen, while_seen}
use Rattle.stage_code.specs.CodeOfTrees.{expression_code, statement_code, statements_code}
use Rattle.stage_code.specs.Fitting.{CodeFits}
use Rattle.stage_code.specs.declared.instr.Instr.TheVariants as instrs
use Rattle.stage_code.proofs.Patches.{passing_patched, choosing_patched}
use Rattle.stage_code.proofs.Statements.{statement_fits, statement_slots, block_left, first_fits, between_fits, second_fits, if_slots}
use Rattle.stage_code.proofs.Statements.{while_slots, body_fits}
use Rattle.stage_code.proofs.statement.+walk.Goals as goal

pub put_block-put_statement-requires : goal.put_block-put_statement-requires
put_block-put_statement-requires t c =
    let items = c.deref-s-items.result.now in
    let w : c.loop-s.s-index < length items = omega arith in
    let counted = one_counts items c.loop-s.s-index c.s-item.result w c.s-item.is in
    let whole = ap (λ ss. statement_counts (statements_of ss)) c.deref-s-items.ensures.value in (
      omega (arith, c.decreases, counted, whole),
      (
        statement_fits (range_of 2 c.args.cells.now) c.loop-s.locals c.args.locals.now items c.loop-s.s-index c.loop-s.code.items
            c.args.code.now.items
            (statements_of c.args.block.now.statements.items) c.s-item.result w c.s-item.is c.loop-s.invariant.code c.requires.fits,
        statement_slots c.loop-s.locals items c.loop-s.s-index c.s-item.result w c.s-item.is c.loop-s.invariant.slots,
      ),
    )

pub put_block-returns-clause-after : goal.put_block-returns-clause-after
put_block-returns-clause-after t c =
    let items = c.deref-s-items.result.now in
    let w : length items ≤ c.loop-s.s-index = omega arith in
    let visible : c.len-visible.result ≡ length c.args.locals.now = c.len-visible.ensures in
    c.leave.ensures ∙ rw visible (block_left c.args.locals.now c.loop-s.locals items c.loop-s.s-index
    (statements_of c.args.block.now.statements.items) w c.loop-s.invariant.after)

pub put_statement-put_if-requires : goal.put_statement-put_if-requires
put_statement-put_if-requires t c =
    let base = c.args.code.now.items in
    let is = ap statement_of c.in-If.is ∙ if_seen c.in-If.e c.in-If.a c.in-If.b in
    let counted = ap statement_count is in (
      omega (arith, c.decreases, counted),
      (
        subst (λ s. CodeFits base (statement_code (range_of 2 c.args.cells.now) c.args.locals.now (length base) s)) is c.requires.fits,
        if_slots c.args.locals.now (expression_of c.in-If.e) _ _ _ is c.requires.slots,
      ),
    )

pub put_statement-put_while-requires : goal.put_statement-put_while-requires
put_statement-put_while-requires t c =
    let base = c.args.code.now.items in
    let is = ap statement_of c.in-While.is ∙ while_seen c.in-While.e c.in-While.a in
    let counted = ap statement_count is in (
      omega (arith, c.decreases, counted),
      (
        subst (λ s. CodeFits base (statement_code (range_of 2 c.args.cells.now) c.args.locals.now (length base) s)) is c.requires.fits,
        while_slots c.args.locals.now (expression_of c.in-While.e) _ _ is c.requires.slots,
      ),
    )

pub put_statement-returns-in-If-clause-code : goal.put_statement-returns-in-If-clause-code
put_statement-returns-in-If-clause-code t c =
    let base = c.args.code.now.items in
    let is = ap statement_of c.in-If.is ∙ if_seen c.in-If.e c.in-If.a c.in-If.b in
    subst (λ s. OnOk c.put_if.result (c.put_if.new.code.items
    ≡ base ++ statement_code (range_of 2 c.args.cells.now) c.args.locals.now (length base) s)) (sym is) c.put_if.ensures.code

pub put_statement-returns-in-While-clause-code : goal.put_statement-returns-in-While-clause-code
put_statement-returns-in-While-clause-code t c =
    let base = c.args.code.now.items in
    let is = ap statement_of c.in-While.is ∙ while_seen c.in-While.e c.in-While.a in
    subst (λ s. OnOk c.put_while.result (c.put_while.new.code.items
    ≡ base ++ statement_code (range_of 2 c.args.cells.now) c.args.locals.now (length base) s)) (sym is) c.put_while.ensures.code

pub put_if-put_block-requires : goal.put_if-put_block-requires
put_if-put_block-requires t c = (
  omega (arith, c.decreases),
  (
    first_fits (range_of 2 c.args.cells.now) c.args.locals.now (expression_of c.args.e.now) (statements_of c.args.a.now.statements.items)
        (statements_of c.args.b.now.statements.items) _
        c.args.code.now.items c.put_expression.new.code.items c.put.new.code.items (instrs.Branch 0) refl c.requires.fits
        c.in_ok-put_expression.ensures c.in_ok-put.ensures,
    c.requires.first,
  ),
)

pub put_if-place-requires : goal.put_if-place-requires
put_if-place-requires t c =
    let fits = between_fits (range_of 2 c.args.cells.now) c.args.locals.now (expression_of c.args.e.now)
    (statements_of c.args.a.now.statements.items)
    (statements_of c.args.b.now.statements.items) _
    c.args.code.now.items c.put_expression.new.code.items c.put.new.code.items c.put_block.new.code.items c.put-2.new.code.items
    (instrs.Branch 0) (instrs.Jump 0) refl c.requires.fits
    c.in_ok-put_expression.ensures c.in_ok-put.ensures c.in_ok-put_block.ensures.code c.in_ok-put-2.ensures in
    omega (arith, fits)

pub put_if-put_block-requires-2 : goal.put_if-put_block-requires-2
put_if-put_block-requires-2 t c =
    let a = statements_of c.args.a.now.statements.items in
    let b = statements_of c.args.b.now.statements.items in
    let fits = between_fits (range_of 2 c.args.cells.now) c.args.locals.now (expression_of c.args.e.now) a b _
    c.args.code.now.items c.put_expression.new.code.items c.put.new.code.items c.put_block.new.code.items c.put-2.new.code.items
    (instrs.Branch 0) (instrs.Jump 0) refl c.requires.fits
    c.in_ok-put_expression.ensures c.in_ok-put.ensures c.in_ok-put_block.ensures.code c.in_ok-put-2.ensures in
    let left : c.put_block.new.locals ≡ c.args.locals.now = c.in_ok-put_block.ensures.after in (
      omega (arith, c.decreases),
      (
        second_fits (range_of 2 c.args.cells.now) c.args.locals.now c.put_block.new.locals b c.put-2.new.code.items c.len-test.result
            (instrs.Branch c.place.result) left fits,
        rw left c.requires.second,
      ),
    )

pub put_if-place-requires-2 : goal.put_if-place-requires-2
put_if-place-requires-2 t c =
    let cells = range_of 2 c.args.cells.now in
    let a = statements_of c.args.a.now.statements.items in
    let b = statements_of c.args.b.now.statements.items in
    let fits = between_fits cells c.args.locals.now (expression_of c.args.e.now) a b _
    c.args.code.now.items c.put_expression.new.code.items c.put.new.code.items c.put_block.new.code.items c.put-2.new.code.items
    (instrs.Branch 0) (instrs.Jump 0) refl c.requires.fits
    c.in_ok-put_expression.ensures c.in_ok-put.ensures c.in_ok-put_block.ensures.code c.in_ok-put-2.ensures in
    let c5 = slice_set c.put-2.new.code.items c.len-test.result (instrs.Branch c.place.result) in
    let more = statements_code cells c.put_block.new.locals (length c5) b in
    let left : c.put_block.new.locals ≡ c.args.locals.now = c.in_ok-put_block.ensures.after in
    let bounded = second_fits cells c.args.locals.now c.put_block.new.locals b c.put-2.new.code.items c.len-test.result
    (instrs.Branch c.place.result) left fits in
    let grown : c.put_block-2.new.code.items ≡ c5 ++ more = c.in_ok-put_block-2.ensures.code in
    omega (arith, bounded, ap length grown, length-append c5 more)

pub put_while-put_block-requires : goal.put_while-put_block-requires
put_while-put_block-requires t c =
    let fits = body_fits (range_of 2 c.args.cells.now) c.args.locals.now (expression_of c.args.e.now)
    (statements_of c.args.body.now.statements.items) _
    c.args.code.now.items c.put_expression.new.code.items c.put.new.code.items (instrs.Branch 0) refl c.requires.fits
    c.in_ok-put_expression.ensures c.in_ok-put.ensures in (
      omega (arith, c.decreases),
      (omega (arith, fits), c.requires.slots),
    )

pub put_while-place-requires : goal.put_while-place-requires
put_while-place-requires t c =
    let cells = range_of 2 c.args.cells.now in
    let a = statements_of c.args.body.now.statements.items in
    let fits = body_fits cells c.args.locals.now (expression_of c.args.e.now) a _
    c.args.code.now.items c.put_expression.new.code.items c.put.new.code.items (instrs.Branch 0) refl c.requires.fits
    c.in_ok-put_expression.ensures c.in_ok-put.ensures in
    let c2 = c.put.new.code.items in
    let body = statements_code cells c.args.locals.now (length c2) a in
    let grown : c.put_block.new.code.items ≡ c2 ++ body = c.in_ok-put_block.ensures.code in
    omega (
      arith,
      fits,
      ap length grown,
      length-append c2 body,
      ap length c.in_ok-put-2.ensures,
      length-append
          c.put_block.new.code.items (instrs.Jump c.place-start.result ∷ []),
    )

pub put_if-returns-clause-code : goal.put_if-returns-clause-code
put_if-returns-clause-code t c =
    let cells = range_of 2 c.args.cells.now in
    let scope = c.args.locals.now in
    let base = c.args.code.now.items in
    let a = statements_of c.args.a.now.statements.items in
    let b = statements_of c.args.b.now.statements.items in
    let c5 = slice_set c.put-2.new.code.items c.len-test.result (instrs.Branch c.place.result) in
    let left : c.put_block.new.locals ≡ scope = c.in_ok-put_block.ensures.after in
    let grown : c.put_block-2.new.code.items ≡ c5 ++ statements_code cells scope (length c5) b =
    c.in_ok-put_block-2.ensures.code ∙ ap (λ (names : List (List ℕ)). c5 ++ statements_code cells names (length c5) b) left in
    choosing_patched base (expression_code cells scope (length base) (expression_of c.args.e.now)) c.put_expression.new.code.items
    c.put.new.code.items c.put_block.new.code.items c.put-2.new.code.items
    c5 c.put_block-2.new.code.items (λ n. statements_code cells scope n a) (λ n. statements_code cells scope n b) (instrs.Branch 0)
    (instrs.Jump 0)
    c.len-test.result c.len-end.result c.place.result c.place-2.result c.in_ok-put_expression.ensures (search rules)
    c.in_ok-put.ensures c.in_ok-put_block.ensures.code
    (search rules) c.in_ok-put-2.ensures c.place.ensures refl grown c.place-2.ensures

pub put_while-returns-clause-code : goal.put_while-returns-clause-code
put_while-returns-clause-code t c =
    let cells = range_of 2 c.args.cells.now in
    let scope = c.args.locals.now in
    let base = c.args.code.now.items in
    let a = statements_of c.args.body.now.statements.items in
    let start : c.put-2.new.code.items ≡ c.put_block.new.code.items ++ instrs.Jump (length base) ∷ [] =
    c.in_ok-put-2.ensures ∙ ap (λ (n : ℕ). c.put_block.new.code.items ++ instrs.Jump n ∷ []) c.place-start.ensures in
    passing_patched (λ n. instrs.Branch n) base (expression_code cells scope (length base) (expression_of c.args.e.now))
    c.put_expression.new.code.items c.put.new.code.items
    c.put_block.new.code.items c.put-2.new.code.items (λ n. statements_code cells scope n a) (instrs.Branch 0)
    (instrs.Jump (length base))
    c.len-test.result c.place.result c.in_ok-put_expression.ensures (search rules) c.in_ok-put.ensures
    c.in_ok-put_block.ensures.code
    start c.place.ensures
