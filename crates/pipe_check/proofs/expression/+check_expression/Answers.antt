use Rattle.std.proofs.Common.{◌≡◌}
use Rattle.std.proofs.lemmas.Result.{err_from_is_err_and}
use Rattle.pipe_model.specs.Language.SyntaxTree.{expression_of, binary_expression}
use Rattle.pipe_check.proofs.Expressions.{left_refused, right_decides}
use Rattle.pipe_check.proofs.expression.+check_expression.Goals as goal

pub returns-in_err-next-in-Binary : goal.returns-in_err-next-in-Binary
returns-in_err-next-in-Binary t c =
    let p = err_from_is_err_and c.from_residual-in_err-next-in-Binary.result c.from_residual-in_err-next-in-Binary.ensures.1 in
    let is : expression_of c.args.e.now ≡ binary_expression c.in-Binary.field-0 (expression_of c.deref-in-Binary.result.now)
    (expression_of c.in-Binary.b.value) = rw (c.in-Binary.is, c.deref-in-Binary.ensures) in
    rw (p.1, p.2) (left_refused c.args.scope.now c.in-Binary.field-0 _ (expression_of c.deref-in-Binary.result.now)
    (expression_of c.in-Binary.b.value) _ _ is c.in_err-next-in-Binary.ensures)

pub returns-in_ok-next-in-Binary : goal.returns-in_ok-next-in-Binary
returns-in_ok-next-in-Binary t c =
    let is : expression_of c.args.e.now ≡ binary_expression c.in-Binary.field-0 (expression_of c.deref-in-Binary.result.now)
    (expression_of c.deref-in-Binary-2.result.now) = rw (c.in-Binary.is, c.deref-in-Binary.ensures, c.deref-in-Binary-2.ensures) in
    right_decides c.args.scope.now c.in-Binary.field-0 _ _ (expression_of c.deref-in-Binary.result.now)
    (expression_of c.deref-in-Binary-2.result.now) _ _ is c.in_ok-next-in-Binary.ensures c.check_expression-in-Binary-2.ensures
