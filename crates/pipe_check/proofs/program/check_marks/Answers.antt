use Rattle.std.proofs.Common.{rules, ◌≡◌, ◌∙◌, ap, length, Ok, Err}
use Rattle.std.proofs.lemmas.Result.{err_from_is_err_and}
use Rattle.pipe_model.specs.Language.SyntaxTree.{tree_of}
use Rattle.pipe_check.proofs.Regions.{few_cells, cells_fail, at_init, init_fits, init_fails, at_test, test_fits, test_fails, at_body}
use Rattle.pipe_check.proofs.Regions.{body_fits, body_fails, at_last}
use Rattle.pipe_check.proofs.program.check_marks.Goals as goal

pub of-requires-clause-bounded : goal.of-requires-clause-bounded
of-requires-clause-bounded c = rw c.as_slice.ensures (few_cells (tree_of c.args.program.now) c.requires)

pub returns-in_err-cells-clause-err : goal.returns-in_err-cells-clause-err
returns-in_err-cells-clause-err c =
    let p = err_from_is_err_and c.from_residual.result c.from_residual.ensures.1 in
    rw (p.1, p.2) (cells_fail (tree_of c.args.program.now) _ c.requires (rw c.as_slice.ensures at c.in_err-cells.ensures.err))

pub overflow_cast-next : goal.overflow_cast-next
overflow_cast-next c =
    let bounded = few_cells (tree_of c.args.program.now) c.requires in
    let counted : c.len-next.result ≡ length c.args.program.now.cells = c.len-next.ensures
    ∙ ap length (c.in_ok-cells.ensures.cells ∙ c.as_slice.ensures) in
    search (rules, bounded, counted)

pub check_region-requires : goal.check_region-requires
check_region-requires c =
    let is = c.in_ok-cells.ensures.cells ∙ c.as_slice.ensures in
    let none = rw c.as_slice.ensures at c.in_ok-cells.ensures.ok in
    let s1 = at_init (tree_of c.args.program.now) c.len-next.result c.requires none (c.len-next.ensures ∙ ap length is) in
    rw is (init_fits (tree_of c.args.program.now) _ s1)

pub returns-in_err-next-clause-err : goal.returns-in_err-next-clause-err
returns-in_err-next-clause-err c =
    let p = err_from_is_err_and c.from_residual-in_err-next.result c.from_residual-in_err-next.ensures.1 in
    let is = c.in_ok-cells.ensures.cells ∙ c.as_slice.ensures in
    let none = rw c.as_slice.ensures at c.in_ok-cells.ensures.ok in
    let s1 = at_init (tree_of c.args.program.now) c.len-next.result c.requires none (c.len-next.ensures ∙ ap length is) in
    rw (p.1, p.2) (init_fails (tree_of c.args.program.now) _ _ s1 (rw is at c.in_err-next.ensures))

pub check_test-requires : goal.check_test-requires
check_test-requires c =
    let is = c.in_ok-cells.ensures.cells ∙ c.as_slice.ensures in
    let none = rw c.as_slice.ensures at c.in_ok-cells.ensures.ok in
    let s1 = at_init (tree_of c.args.program.now) c.len-next.result c.requires none (c.len-next.ensures ∙ ap length is) in
    let s2 = at_test (tree_of c.args.program.now) _ c.in_ok-next.next s1 (rw is at c.in_ok-next.ensures) in
    rw is (test_fits (tree_of c.args.program.now) _ s2)

pub returns-in_err-next-2-clause-err : goal.returns-in_err-next-2-clause-err
returns-in_err-next-2-clause-err c =
    let p = err_from_is_err_and c.from_residual-in_err-next-2.result c.from_residual-in_err-next-2.ensures.1 in
    let is = c.in_ok-cells.ensures.cells ∙ c.as_slice.ensures in
    let none = rw c.as_slice.ensures at c.in_ok-cells.ensures.ok in
    let s1 = at_init (tree_of c.args.program.now) c.len-next.result c.requires none (c.len-next.ensures ∙ ap length is) in
    let s2 = at_test (tree_of c.args.program.now) _ c.in_ok-next.next s1 (rw is at c.in_ok-next.ensures) in
    rw (p.1, p.2) (test_fails (tree_of c.args.program.now) _ _ s2 (rw is at c.in_err-next-2.ensures))

pub check_region-requires-2 : goal.check_region-requires-2
check_region-requires-2 c =
    let is = c.in_ok-cells.ensures.cells ∙ c.as_slice.ensures in
    let none = rw c.as_slice.ensures at c.in_ok-cells.ensures.ok in
    let s1 = at_init (tree_of c.args.program.now) c.len-next.result c.requires none (c.len-next.ensures ∙ ap length is) in
    let s2 = at_test (tree_of c.args.program.now) _ c.in_ok-next.next s1 (rw is at c.in_ok-next.ensures) in
    let s3 = at_body (tree_of c.args.program.now) _ c.in_ok-next-2.next s2 (rw is at c.in_ok-next-2.ensures) in
    rw is (body_fits (tree_of c.args.program.now) _ s3)

pub returns-in_err-next-3-clause-err : goal.returns-in_err-next-3-clause-err
returns-in_err-next-3-clause-err c =
    let p = err_from_is_err_and c.from_residual-in_err-next-3.result c.from_residual-in_err-next-3.ensures.1 in
    let is = c.in_ok-cells.ensures.cells ∙ c.as_slice.ensures in
    let none = rw c.as_slice.ensures at c.in_ok-cells.ensures.ok in
    let s1 = at_init (tree_of c.args.program.now) c.len-next.result c.requires none (c.len-next.ensures ∙ ap length is) in
    let s2 = at_test (tree_of c.args.program.now) _ c.in_ok-next.next s1 (rw is at c.in_ok-next.ensures) in
    let s3 = at_body (tree_of c.args.program.now) _ c.in_ok-next-2.next s2 (rw is at c.in_ok-next-2.ensures) in
    rw (p.1, p.2) (body_fails (tree_of c.args.program.now) _ _ s3 (rw is at c.in_err-next-3.ensures))

pub check_region-requires-3 : goal.check_region-requires-3
check_region-requires-3 c =
    let is = c.in_ok-cells.ensures.cells ∙ c.as_slice.ensures in
    let none = rw c.as_slice.ensures at c.in_ok-cells.ensures.ok in
    let s1 = at_init (tree_of c.args.program.now) c.len-next.result c.requires none (c.len-next.ensures ∙ ap length is) in
    let s2 = at_test (tree_of c.args.program.now) _ c.in_ok-next.next s1 (rw is at c.in_ok-next.ensures) in
    let s3 = at_body (tree_of c.args.program.now) _ c.in_ok-next-2.next s2 (rw is at c.in_ok-next-2.ensures) in
    let s4 = at_last (tree_of c.args.program.now) _ c.in_ok-next-3.next s3 (rw is at c.in_ok-next-3.ensures) in
    rw is s4.fit

pub returns-in_err-check_region-clause-err : goal.returns-in_err-check_region-clause-err
returns-in_err-check_region-clause-err c =
    let p = err_from_is_err_and c.from_residual-in_err-check_region.result c.from_residual-in_err-check_region.ensures.1 in
    let is = c.in_ok-cells.ensures.cells ∙ c.as_slice.ensures in
    let none = rw c.as_slice.ensures at c.in_ok-cells.ensures.ok in
    let s1 = at_init (tree_of c.args.program.now) c.len-next.result c.requires none (c.len-next.ensures ∙ ap length is) in
    let s2 = at_test (tree_of c.args.program.now) _ c.in_ok-next.next s1 (rw is at c.in_ok-next.ensures) in
    let s3 = at_body (tree_of c.args.program.now) _ c.in_ok-next-2.next s2 (rw is at c.in_ok-next-2.ensures) in
    let s4 = at_last (tree_of c.args.program.now) _ c.in_ok-next-3.next s3 (rw is at c.in_ok-next-3.ensures) in
    rw (p.1, p.2) (s4.decide (Err _) (rw is at c.in_err-check_region.ensures))

pub returns-clause-ok : goal.returns-clause-ok
returns-clause-ok c =
    let is = c.in_ok-cells.ensures.cells ∙ c.as_slice.ensures in
    let none = rw c.as_slice.ensures at c.in_ok-cells.ensures.ok in
    let s1 = at_init (tree_of c.args.program.now) c.len-next.result c.requires none (c.len-next.ensures ∙ ap length is) in
    let s2 = at_test (tree_of c.args.program.now) _ c.in_ok-next.next s1 (rw is at c.in_ok-next.ensures) in
    let s3 = at_body (tree_of c.args.program.now) _ c.in_ok-next-2.next s2 (rw is at c.in_ok-next-2.ensures) in
    let s4 = at_last (tree_of c.args.program.now) _ c.in_ok-next-3.next s3 (rw is at c.in_ok-next-3.ensures) in
    (s4.decide (Ok _) (rw is at c.in_ok-check_region.ensures)).0
